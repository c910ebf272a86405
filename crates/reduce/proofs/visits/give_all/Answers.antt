use Rattle.std.proofs.Common.{◌≡◌, ◌-◌, ◌∙◌, ap, arith}
use Rattle.std.specs.List.{slice_range}
use Rattle.reduce.specs.Histories.{changed_at, given_more}
use Rattle.reduce.specs.Visits.{ChangeState}
use Rattle.reduce.proofs.CommitLemmas.{in_front, giving_part}
use Rattle.joined_times.proofs.MemberLemmas.{member_at}
use Rattle.reduce.proofs.visits.give_all.Goals as goal

pub give-requires-clause-there : goal.give-requires-clause-there
give-requires-clause-there g c =
    let change = c.index-changes-i.result in
    rw (ap (λ (s : ChangeState g.row.T.Denot). s.place) c.change.view_is, c.loop-i.invariant.giving.size) (c.requires.within change (member_at c.args.changes.now c.loop-i.i change c.loop-i-test.true c.index-changes-i.is))

pub take_back-requires : goal.take_back-requires
take_back-requires g c change m = rw (c.in-Err.ensures.same, c.loop-i.invariant.giving.size) (c.requires.within change (in_front c.args.changes.now c.loop-i.i change m))

pub loop-i-preserved : goal.loop-i-preserved
loop-i-preserved g c =
    let change = c.index-changes-i.result in
    let hs = c.loop-i.histories.items in
    let out = c.args.out.now in
    let left = c.loop-i.left in
    let old = c.loop-i.invariant in
    let many : c.change.inside.many ≡ change.many = ap (λ (s : ChangeState g.row.T.Denot). s.many) c.change.view_is in
    let start = c.len.result - left in
    let end = c.len-in-loop-i.result - (left - c.change.inside.many) in
    let within = old.within in
    record {
      within = omega (arith, within);
      giving =
          rw many
          (giving_part c.args.changes.now out c.args.histories.now.items c.loop-i.i left hs change c.loop-i-test.true c.index-changes-i.is within old.giving start end c.give.new.self.items
          (ap (λ n. n - left) c.len.ensures)
          ((λ j. c.len-in-loop-i.ensures j - (left - many j)))
          (c.in_default.ensures.items ∙ ap (λ (s : ChangeState g.row.T.Denot). changed_at s.place (given_more (slice_range out start end)) hs) c.change.view_is));
    }

use Rattle.std.proofs.Common.{◌≡◌, ◌+◌, ◌-◌, ◌<◌, ◌∙◌, length, take, ap, arith}
use Rattle.reduce.specs.Histories.{changed_at, given_less}
use Rattle.reduce.specs.Visits.{ChangeState, all_taken_back}
use Rattle.reduce.proofs.CommitLemmas.{changed_length, taking_back}
use Rattle.joined_times.proofs.MemberLemmas.{member_at}
use Rattle.reduce.proofs.visits.take_back.Goals as goal

pub take_back-requires : goal.take_back-requires
take_back-requires g c =
    let i = c.loop-i.i in
    let last = c.index-changes-i.result in
    let old = c.loop-i.invariant in
    let test = c.loop-i-test.true in
    let within = old.within in
    let lt : i - 1 < length c.args.changes.now = omega (arith, test, within) in
    rw (ap (λ (s : ChangeState g.row.T.Denot). s.place) c.change.view_is, old.size) (c.requires last (member_at c.args.changes.now (i - 1) last lt c.index-changes-i.is))

pub loop-i-preserved : goal.loop-i-preserved
loop-i-preserved g c =
    let i = c.loop-i.i in
    let last = c.index-changes-i.result in
    let hs = c.loop-i.histories.items in
    let old = c.loop-i.invariant in
    let test = c.loop-i-test.true in
    let within = old.within in
    let lt : i - 1 < length c.args.changes.now = omega (arith, test, within) in
    let next : (i - 1) + 1 ≡ i = omega (arith, test) in
    let is : c.take_back.new.self.items ≡ changed_at last.place (given_less last.many) hs = c.take_back.ensures ∙ ap (λ (s : ChangeState g.row.T.Denot). changed_at s.place (given_less s.many) hs) c.change.view_is in
    record {
      within = omega (arith, within);
      size = ap length is ∙ (changed_length last.place (given_less last.many) hs ∙ old.size);
      left =
          taking_back c.args.changes.now (i - 1) last hs c.take_back.new.self.items lt c.index-changes-i.is is
          ∙ (ap (λ n. all_taken_back (take n c.args.changes.now) hs) next ∙ old.left);
    }

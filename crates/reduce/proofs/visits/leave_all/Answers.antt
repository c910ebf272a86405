use Rattle.std.proofs.Common.{◌≡◌, ◌+◌, ◌∙◌, length, ap, arith, rules, inl, inr, refl, sym, subst}
use Rattle.std.specs.Vec.Iter.{into_iter_items}
use Rattle.joined_times.specs.Joined.{Member}
use Rattle.reduce.specs.Histories.{changed_at, due_left}
use Rattle.reduce.specs.Visits.{ChangeState, all_left}
use Rattle.reduce.proofs.CommitLemmas.{changed_length}
use Rattle.reduce.proofs.visits.leave_all.Goals as goal

pub loop-change-init : goal.loop-change-init
loop-change-init g c =
    let whole : into_iter_items c.into_iter-change-iterator.result ≡ c.args.changes.items = search rules in
    record {
      left = c.into_iter-change-iterator.result.rest.ok.0;
      within = rw whole c.requires;
      put = ap (λ cs. all_left cs c.args.histories.now.items) whole;
    }

pub leave-requires : goal.leave-requires
leave-requires g c =
    let change = c.in-Some.change in
    rw (ap (λ (s : ChangeState g.row.T.Denot). s.place) c.change.view_is) (c.loop-change.invariant.within change (subst (Member change) (sym c.in-Some.ensures.steps.0) (inl refl)))

pub loop-change-preserved : goal.loop-change-preserved
loop-change-preserved g c =
    let change = c.in-Some.change in
    let rest = into_iter_items c.next.new.self in
    let hs = c.loop-change.histories.items in
    let was = c.loop-change.invariant in
    let longer : length (into_iter_items c.loop-change.change-iterator) ≡ length rest + 1 = ap length c.in-Some.ensures.steps.0 ∙ omega arith in
    let is : c.leave.new.self.items ≡ changed_at change.place (due_left change.rest) hs = c.leave.ensures ∙ ap (λ (s : ChangeState g.row.T.Denot). changed_at s.place (due_left s.rest) hs) c.change.view_is in
    record {
      left = omega (arith, c.in-Some.ensures.steps.1, longer, was.left);
      within = λ other m. rw (ap length is, changed_length change.place (due_left change.rest) hs) (was.within other (subst (Member other) (sym c.in-Some.ensures.steps.0) (inr m)));
      put = ap (all_left rest) is ∙ (ap (λ cs. all_left cs hs) (sym c.in-Some.ensures.steps.0) ∙ was.put);
    }

use Rattle.std.proofs.Common.{◌<◌, length, inl, inr, ⊎_elim, sym, subst, ◌∙◌}
use Rattle.std.proofs.lemmas.Result.{err_from_is_err_and}
use Rattle.batch.specs.Merges.{MergingState}
use Rattle.batch.proofs.HandLemmas.{stands_at, place_of}
use Rattle.batch.proofs.UnderwayLemmas.{taken_right, large_right}
use Rattle.batch.proofs.merger.Merging.take_right.Goals as goal

pub returns-in_err-take_in-clause-refused : goal.returns-in_err-take_in-clause-refused
returns-in_err-take_in-clause-refused g c =
    let p = err_from_is_err_and c.from_residual.result c.from_residual.ensures.1 in
    let at = c.self.inside.right in
    let next = stands_at c.args.vs.now at (subst (λ (s : MergingState g.row.T.Denot). s.right < length c.args.vs.now) (sym c.self.view_is) c.requires.within) in
    rw p.1 (⊎_elim
    (λ d. inl (p.2 ∙ d))
    (λ r. inr (p.2 ∙ r.0, large_right g.T.PartialOrder.times g.T.Ord.cmp c.args.us.now c.args.vs.now _ c.args.self.now next.0 c.since.result.now c.self.view_is c.requires.underway c.since.ensures.value c.requires.within (place_of c.args.vs.now at next.0 next.1) c.requires.next (r.1 next.0 next.1)))
    c.in_err-take_in.ensures.refused)

pub returns-clause-kept : goal.returns-clause-kept
returns-clause-kept g c =
    let at = c.self.inside.right in
    let next = stands_at c.args.vs.now at (subst (λ (s : MergingState g.row.T.Denot). s.right < length c.args.vs.now) (sym c.self.view_is) c.requires.within) in
    taken_right g.T.PartialOrder.times g.T.Ord.cmp c.args.us.now c.args.vs.now _ c.args.self.now next.0 c.since.result.now c.self.view_is c.requires.underway c.since.ensures.value c.requires.within (place_of c.args.vs.now at next.0 next.1) c.requires.next _ _ (c.in_ok-take_in.ensures.kept next.0 next.1)

-- What lay gathered, consolidated from a copy.
use Rattle.std.proofs.Common.{eqb, length, [], sym, subst, IsTrue}
use Rattle.linear.specs.Widths.{are_wide}
use Rattle.operator_laws.specs.GatheredUpdates.{IsSplit}
use Rattle.operator_laws.proofs.ArrangeLemmas.{all_given}
use Rattle.gathered.proofs.gathered.Gathered.take_consolidated.Goals as goal

pub returns-clause-split : goal.returns-clause-split
returns-clause-split g c =
    let times = g.T.PartialOrder.times in
    let out = c.in_ok-summed.summed.items in
    let x = c.in_ok-summed.ensures in
    subst (λ us. IsSplit times us out []) c.in_ok-copies.ensures.copied (all_given times c.in_ok-copies.copies.items out x.sums x.size x.among)

pub returns-clause-wide : goal.returns-clause-wide
returns-clause-wide g c width h =
    c.in_ok-summed.ensures.among (λ row t. eqb (length row) width) (subst (λ us. IsTrue (are_wide width us)) (sym c.in_ok-copies.ensures.copied) h)

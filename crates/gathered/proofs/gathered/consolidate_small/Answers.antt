-- A list of a small size has no total that is too large.
use Rattle.std.proofs.Common.{eqb, length, arith, refl}
use Rattle.operator.proofs.ReductionLemmas.{large_size}
use Rattle.operator_laws.proofs.ArrangeLemmas.{all_given}
use Rattle.gathered.proofs.gathered.consolidate_small.Goals as goal

pub unreachable-requires : goal.unreachable-requires
unreachable-requires g c =
    let large = large_size g.T.PartialOrder.times c.args.updates.items (c.in_default.ensures.overflow.0 refl) in
    let small = c.requires in
    omega (arith, large, small)

pub returns-clause-split : goal.returns-clause-split
returns-clause-split g c = let x = c.in-Ok.ensures in all_given g.T.PartialOrder.times c.args.updates.items c.in-Ok.summed.items x.sums x.size x.among

pub returns-clause-wide : goal.returns-clause-wide
returns-clause-wide g c width h = c.in-Ok.ensures.among (λ row t. eqb (length row) width) h

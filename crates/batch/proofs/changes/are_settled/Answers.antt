use Rattle.std.proofs.Common.{arith}
use Rattle.batch.proofs.ChangeLemmas.{settled_is_sealed, settled_fits}
use Rattle.batch.proofs.changes.are_settled.Goals as goal

pub returns-clause-sealed : goal.returns-clause-sealed
returns-clause-sealed g c _ row =
    settled_is_sealed g.met.T.PartialOrder.order g.met.T.Ord.total row c.args.changes.now
    (λ k d h. c.loop-i.invariant.nonzero k d (omega arith) (omega (arith, h, c.loop-i-test.false)))
    (λ k d h. c.loop-i.invariant.behind k d (omega (arith, h, c.loop-i-test.false)))

pub returns-clause-fits : goal.returns-clause-fits
returns-clause-fits g c _ row =
    settled_fits g.met.T.PartialOrder.order g.met.T.Ord.total row c.args.changes.now
    (λ k d h. c.loop-i.invariant.fits k d (omega arith) (omega (arith, h, c.loop-i-test.false)))
    (λ k d h. c.loop-i.invariant.behind k d (omega (arith, h, c.loop-i-test.false)))

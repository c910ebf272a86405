use Rattle.std.proofs.Common.{arith}
use Rattle.batch.proofs.SealedLemmas.{sealed_by_steps, sealed_fits_by_steps}
use Rattle.batch.proofs.lent.are_columns_sealed.Goals as goal

pub returns-clause-sealed : goal.returns-clause-sealed
returns-clause-sealed g c _ =
    sealed_by_steps g.met.T.PartialOrder.order g.met.T.Ord.total c.args.columns.now
    (λ k d h. c.loop-i.invariant.nonzero k d (omega arith) (omega (arith, h, c.loop-i-test.false)))
    (λ k d h. c.loop-i.invariant.behind k d (omega (arith, h, c.loop-i-test.false)))

pub returns-clause-fits : goal.returns-clause-fits
returns-clause-fits g c _ =
    sealed_fits_by_steps g.met.T.PartialOrder.order g.met.T.Ord.total c.args.columns.now
    (λ k d h. c.loop-i.invariant.fits k d (omega arith) (omega (arith, h, c.loop-i-test.false)))
    (λ k d h. c.loop-i.invariant.behind k d (omega (arith, h, c.loop-i-test.false)))

use Rattle.reduce.proofs.RowLemmas.{rows_answered}
use Rattle.reduce.proofs.laws.rows_given_are_answered.Goals as goal

pub returns : goal.returns
returns g c = record {
  rows = λ k reduce q p frontier since hs taken given out st quiet once nonzero passed before answered.
      rows_answered g.met.T.PartialOrder.order g.met.T.Lattice.bounds g.met.T.Ord.total k reduce q p frontier since hs taken given out st quiet once nonzero passed before answered;
}

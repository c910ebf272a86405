use Rattle.std.proofs.Common.{sym, ◌∙◌}
use Rattle.reduce.proofs.LawLemmas.{settled_law, one_list}
use Rattle.reduce.proofs.laws.answers_are_the_differences.Goals as goal

pub returns : goal.returns
returns g c =
    record {
      one = λ k reduce q frontier since hs taken given us vs st quiet a p sums b r want.
          one_list g.met.T.PartialOrder.order g.met.T.Ord.total frontier us vs a p b r
          (λ t passed row. sums t row ∙ (settled_law g.met.T.PartialOrder.order g.met.T.Lattice.bounds k reduce q since hs taken given st t (quiet t passed) row ∙ sym (want t passed row)));
    }

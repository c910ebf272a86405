use Rattle.std.proofs.Common.{refl}
use Rattle.oracle.specs.Evaluation.{list_of}
use Rattle.engines.proofs.LargeLemmas.{large_above, large_difference}
use Rattle.engines.proofs.laws.large_numbers_have_large_bounds.Goals as goal

pub returns-clause-above : goal.returns-clause-above
returns-clause-above g c p plan lists view within t large =
    large_above g.met.T.PartialOrder.order g.met.T.Lattice.bounds g.met.T.Lattice.extends g.met.T.Ord.total p plan lists (list_of p lists) (λ n l t row. refl) view within t large

pub returns-clause-differences : goal.returns-clause-differences
returns-clause-differences g c p plan lists view within frontier large =
    large_difference g.met.T.PartialOrder.order g.met.T.Lattice.bounds g.met.T.Lattice.extends g.met.T.Ord.total p plan lists (list_of p lists) (λ n l t row. refl) view within frontier large

use Rattle.std.proofs.Common.{rules}
use Rattle.std.proofs.lemmas.Fn.{filter_same}
use Rattle.lattice.specs.Frontiers.{is_beyond}
use Rattle.batch.proofs.passed.drop_passed.Goals as goal

pub returns : goal.returns
returns g c =
    filter_same _ (λ u. is_beyond g.T.PartialOrder.times c.args.upper.now u.time) _ (λ x b f r. search rules) _ _ c.retain.ensures.filtered

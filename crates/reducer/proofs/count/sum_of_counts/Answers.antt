use Rattle.std.proofs.Common.{◌∙◌, sym, subst, w64, FitsSigned, rules}
use Rattle.std.specs.Int.{w128}
use Rattle.std.proofs.lemmas.Int.{to_z-of_z}
use Rattle.reducer.proofs.count.sum_of_counts.Goals as goal

pub returns-in_default-clause-large : goal.returns-in_default-clause-large
returns-in_default-clause-large g c =
    let wide : FitsSigned w128 c.wide_sum.result = search rules in
    let same = to_z-of_z w128 c.wide_sum.result wide ∙ c.wide_sum.ensures in
    λ fits. c.in_default.ensures (subst (FitsSigned w64) (sym same) fits)

use Rattle.std.proofs.Common.{◌≡◌, sym, ◌∙◌, rules}
use Rattle.std.specs.Cmp.Lexicographic.{pointwise}
use Rattle.trace.proofs.BoundaryLemmas.{frontiers_decided}
use Rattle.join_trials.proofs.join_tests.are_same.Goals as goal

pub returns : goal.returns
returns g c =
    let ord = g.met.T.Ord in
    let answer : c.eq.result ≡ pointwise g.T.PartialEq.eq c.args.f.now c.args.g.now = search rules in
    let decided = frontiers_decided ord.matches_eq ord.total g.met.T.Lattice.extends.exact c.args.f.now c.args.g.now in
    ((λ h. decided.0 (sym answer ∙ h)), (λ e. answer ∙ decided.1 e))

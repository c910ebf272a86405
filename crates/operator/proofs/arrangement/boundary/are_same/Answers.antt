use Rattle.std.proofs.Common.{◌≡◌, sym, ◌∙◌, true≢false, rules}
use Rattle.std.specs.Cmp.Lexicographic.{pointwise}
use Rattle.trace.proofs.BoundaryLemmas.{frontiers_decided}
use Rattle.operator.proofs.arrangement.boundary.are_same.Goals as goal

pub returns-clause-same : goal.returns-clause-same
returns-clause-same g c h =
    let ord = g.met.T.Ord in
    let answer : c.eq.result ≡ pointwise g.T.PartialEq.eq c.args.f.now c.args.g.now = search rules in
    (frontiers_decided ord.matches_eq ord.total g.met.T.Lattice.extends.exact c.args.f.now c.args.g.now).0 (sym answer ∙ h)

pub returns-clause-other : goal.returns-clause-other
returns-clause-other g c h e =
    let ord = g.met.T.Ord in
    let answer : c.eq.result ≡ pointwise g.T.PartialEq.eq c.args.f.now c.args.g.now = search rules in
    true≢false (sym (answer ∙ (frontiers_decided ord.matches_eq ord.total g.met.T.Lattice.extends.exact c.args.f.now c.args.g.now).1 e) ∙ h)

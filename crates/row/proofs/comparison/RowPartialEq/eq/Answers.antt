use Rattle.std.proofs.Common.{◌≡◌, sym, ◌∙◌, rules}
use Rattle.std.specs.Cmp.Lexicographic.{pointwise}
use Rattle.std.specs.Cmp.Rules.{signed_items}
use Rattle.std.specs.Ordering.{int_eq}
use Rattle.row.proofs.comparison.RowPartialEq.eq.Goals as goal

pub returns-clause-same : goal.returns-clause-same
returns-clause-same c =
    let answer : c.eq.result ≡ pointwise int_eq c.args.self.now c.args.other.now = search rules in
    let decides = signed_items c.args.self.now c.args.other.now in
    ((λ h. decides.0 (sym answer ∙ h)), (λ e. answer ∙ decides.1 e))

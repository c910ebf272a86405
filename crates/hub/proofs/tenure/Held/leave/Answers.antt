use Rattle.std.proofs.Common.{rules, sym, ◌∙◌, subst}
use mathlib.Core.Option.{none}
use Rattle.atomic_table.specs.Table.{step}
use Rattle.hub.specs.Tenures.{seen_after}
use Rattle.hub.proofs.StepLemmas.{puts_back_allowed}
use Rattle.hub.proofs.tenure.Held.leave.Goals as goal

pub swap-requires : goal.swap-requires
swap-requires g c =
    let P = g.P.Protocol in
    let mine = c.self.invariant in
    let put = c.exchange.ensures in
    let legal = subst (λ t. P.stands t.state (seen_after t (P.last t.state))) (sym c.self.view_is) c.requires in
    (put.0 ∙ mine.0, search rules, puts_back_allowed _ _ (step 0 0 0 0 none) _ _ _ _ c.self.inside.state put.3 mine.1 mine.2 legal)

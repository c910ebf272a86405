use Rattle.std.proofs.Common.{rules, subst, List}
use Rattle.std.specs.Prelude.{IfSome}
use Rattle.hub.specs.Passes.{AgreesWith}
use Rattle.hub.proofs.StepLemmas.{closes}
use Rattle.hub.proofs.hub.Hub.close.Goals as goal

pub returns-then-word-eq-HOME : goal.returns-then-word-eq-HOME
returns-then-word-eq-HOME g c = subst (λ p. IfSome c.take-slot.result (λ x. (h : List _) × AgreesWith p h × g.P.Protocol.stands x h)) c.pass.view_is
    (closes _ _ _ _ _ _ _ c.close_with-closed.ensures.values.2 c.word-word.ensures (search rules) c.take-slot.ensures.value)

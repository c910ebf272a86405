use Rattle.std.proofs.Common.{arith, ◌≡◌, ◌+◌, ◌<◌, ◌++◌, [], ◌∷◌, length, sym, refl, ap, subst, ◌∙◌}
use Rattle.std.specs.Prelude.{All, IsTrue}
use Rattle.plan.specs.Nodes.{node_at}
use Rattle.desk.specs.Upkeep.{holds_elsewhere}
use Rattle.std.proofs.lemmas.List.Elements.{All-push}
use Rattle.histories.specs.declared.event.Site.{Site}
use Rattle.steps.specs.Steps.{ArePorts}
use Rattle.steps.proofs.FrontsLemmas.{ports_next, two_longer}
use Rattle.steps.proofs.tidy.ports_of.Goals as goal

pub loop-n-preserved : goal.loop-n-preserved
loop-n-preserved c =
    let ports = c.loop-n.ports.items in
    let n = c.loop-n.n in
    let a : Site = record { node = c.asked-node.result; port = 0; worker = 0 } in
    let b : Site = record { node = c.asked-node.result; port = 1; worker = 0 } in
    let is : c.push-in-loop-n.new.self.items ≡ (ports ++ a ∷ []) ++ b ∷ [] = c.in_ok-push-2.ensures.items ∙ ap (λ xs. xs ++ b ∷ []) c.in_ok-push.ensures.items in
    let own : IsTrue (holds_elsewhere (node_at c.args.plan.now n)) → c.asked-node.result ≡ n = λ holds. c.asked-node.ensures.own (subst (λ m. IsTrue (holds_elsewhere (node_at c.args.plan.now m))) (sym c.new.ensures) holds) ∙ c.new.ensures in
    let len = c.loop-n.invariant.0 in
    let inside : c.asked-node.result < length c.args.plan.now = c.asked-node.ensures.within in
    let P = λ (site : Site). site.node < length c.args.plan.now in (
      ap length is ∙ (two_longer ports a b ∙ omega (arith, len)),
      subst (ArePorts c.args.plan.now (n + 1)) (sym is) (ports_next c.args.plan.now n ports a b len c.loop-n.invariant.1 own refl refl refl),
      subst (All P) (sym is) (All-push P (ports ++ a ∷ []) b (All-push P ports a c.loop-n.invariant.2 inside) inside),
    )

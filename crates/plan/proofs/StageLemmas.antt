-- The stored form of a plan, when one more node is added.
use Rattle.std.proofs.Common.{◌≡◌, ℕ, Some, None, List, [], ◌∷◌, ◌++◌, length, slice_get, get_or, ap, sym, ◌∙◌, subst, ⊎_elim, arith}
use Rattle.std.proofs.lemmas.List.{length-map, map-append, length-append, get_or_append_left}
use Rattle.std.proofs.lemmas.Option.{slice_get_within, slice_get-get_or, get_or_from_slice_get}
use Rattle.std.proofs.lemmas.Bool.{cases_lt}
use Rattle.std.proofs.Math.Seq.{get_or-append_seam}
use Rattle.plan.specs.Nodes.{key_width}
use Rattle.plan.specs.Widths.{width_of, width_from}
use Rattle.plan.specs.Rules.{IsPlan, node_refusal}
use Rattle.plan.specs.Stages.{AreStages, nodes_of}
use Rattle.plan.specs.declared.node.Node.{Node}
use Rattle.plan.specs.declared.plan.Stage.{Stage}
use Rattle.plan.proofs.PlanLemmas.{accepted_extends_plan}
use Rattle.plan.proofs.StepLemmas.{width_with, width_before_more}

-- adding an accepted node with its width keeps the invariant of the stages
pub stages_with : (stages : List Stage) (stage : Stage) → AreStages stages → node_refusal (nodes_of stages) stage.node ≡ None → stage.width ≡ width_from (key_width (nodes_of stages) stage.node) stage.node (width_of (nodes_of stages)) → AreStages (stages ++ stage ∷ [])
stages_with stages stage kept accepted wide = record {
  plan = subst IsPlan (sym nodes) (accepted_extends_plan p stage.node kept.plan accepted);
  widths = λ n other e. subst (λ q. other.width ≡ width_of q n) (sym nodes) (width_at n other e);
}
  where
    p : List Node
    p = nodes_of stages

    nodes : nodes_of (stages ++ stage ∷ []) ≡ p ++ stage.node ∷ []
    nodes = map-append (λ (s : Stage). s.node) stages (stage ∷ [])

    width_at : (n : ℕ) (other : Stage) → slice_get (stages ++ stage ∷ []) n ≡ Some other → other.width ≡ width_of (p ++ stage.node ∷ []) n
    width_at n other e =
        ⊎_elim
        (λ l.
        ap (λ (s : Stage). s.width) (sym (get_or_from_slice_get (stages ++ stage ∷ []) n other stage e) ∙ get_or_append_left stages (stage ∷ []) stage n l)
        ∙ kept.widths n (get_or stages n stage) (slice_get-get_or stages n stage l)
        ∙ sym (width_before_more p (stage.node ∷ []) kept.plan n (let same = length-map stages (λ (s : Stage). s.node) in omega arith)))
        (λ l.
        let inside = slice_get_within (stages ++ stage ∷ []) n other e in
        let all = length-append stages (stage ∷ []) in
        let last : n ≡ length stages = omega arith in
        let here : n ≡ length p = last ∙ sym (length-map stages (λ (s : Stage). s.node)) in
        ap (λ (s : Stage). s.width) (sym (get_or_from_slice_get (stages ++ stage ∷ []) n other stage e) ∙ ap (λ m. get_or (stages ++ stage ∷ []) m stage) last ∙ get_or-append_seam stages stage [] stage)
        ∙ wide
        ∙ sym (width_with p stage.node kept.plan accepted)
        ∙ ap (width_of (p ++ stage.node ∷ [])) (sym here))
        (cases_lt n (length stages))

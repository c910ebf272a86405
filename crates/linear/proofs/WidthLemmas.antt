-- A linear node of a plan takes the rows of its sources, and its output rows have the node's width.
use Rattle.std.proofs.Common.{◌≡◌, ℕ, zero, suc, true, not, eqb, List, [], ◌∷◌, map, length, Some, None, slice_get, IsTrue, refl, ap, sym, subst, ◌∙◌}
use Rattle.std.proofs.lemmas.Bool.{and_parts, and_from, eqb-true, eq-eqb, true≢false}
use Rattle.std.proofs.lemmas.List.{length-map}
use Rattle.std.proofs.lemmas.Option.{none-some, same_Some}
use Rattle.row.specs.Projection.{projection, item_value, are_within}
use Rattle.row.specs.Filters.{passes, is_test_within}
use Rattle.row.specs.declared.projection.Item.{Item}
use Rattle.update.specs.declared.refusal.Refusal.TheVariants.{BadColumn, WidthMismatch, BadWidth}
use Rattle.update.specs.declared.change.Update.{Update}
use Rattle.plan.specs.Nodes.{node_at, sources, key_width, is_linear}
use Rattle.plan.specs.Rules.{IsPlan, is_width, node_faults, first_refusal}
use Rattle.plan.specs.Widths.{width_of, width_from}
use Rattle.plan.specs.declared.node.Node.{Node}
use Rattle.plan.specs.declared.node.Node.TheVariants.{Input, Map, Filter, Concat, Negate, Join, Reduce}
use Rattle.plan.proofs.PlanLemmas.{no_first, no_fault, has_source}
use Rattle.plan.proofs.StepLemmas.{width_by_sources}
use Rattle.plan.proofs.WidthLemmas.{faultless}
use Rattle.linear.specs.Applied.{mapped_update, negated_update, linear_output}
use Rattle.linear.specs.Widths.{takes_items, takes_width, takes_rows, are_wide}
use Rattle.linear.proofs.SizeLemmas.{list_all-filter}

-- a list with one source has it at port 0 only
first_source : (a port s : ℕ) → slice_get (a ∷ []) port ≡ Some s → a ≡ s
first_source a zero s e = same_Some a s e
first_source a (suc port) s e = absurd (none-some s e)

module _ (p : List Node) where
  -- a node without faults takes rows of the width of each of its sources
  takes_source : (node : Node) → first_refusal (node_faults p node) ≡ None → (port s : ℕ) → slice_get (sources node) port ≡ Some s → IsTrue (takes_width node (width_of p s))
  takes_source (Map source items) h port s e =
      let within = are_within items (width_of p source) in
      let first = no_first (not (is_width (length items))) BadWidth ((not within, BadColumn) ∷ []) h in
      let second = no_first (not within) BadColumn [] first.1 in
      subst (λ s. IsTrue (takes_items items (width_of p s))) (first_source source port s e)
      (and_from (is_width (length items)) within (no_fault (is_width (length items)) first.0) (no_fault within second.0))
  takes_source (Filter source test) h port s e =
      subst (λ s. IsTrue (is_test_within test (width_of p s))) (first_source source port s e)
      (no_fault (is_test_within test (width_of p source)) (no_first (not (is_test_within test (width_of p source))) BadColumn [] h).0)
  takes_source node h port s e = refl

  -- both sources of a concat have the same width as the left one
  concat_width : (left right : ℕ) → eqb (width_of p left) (width_of p right) ≡ true → (port s : ℕ) → slice_get (left ∷ right ∷ []) port ≡ Some s → width_of p s ≡ width_of p left
  concat_width left right h zero s e = ap (width_of p) (sym (same_Some left s e))
  concat_width left right h (suc port) s e = ap (width_of p) (sym (first_source right port s e)) ∙ sym (eqb-true (width_of p left) (width_of p right) h)

  module _ {T : Type 0} where
    wide_same : (us : List (Update T)) (m n : ℕ) → m ≡ n → IsTrue (are_wide m us) → IsTrue (are_wide n us)
    wide_same us m n e h = subst (λ m. IsTrue (are_wide m us)) e h

    wide_mapped : (items : List Item) (us : List (Update T)) → IsTrue (are_wide (length items) (map (mapped_update items) us))
    wide_mapped items [] = refl
    wide_mapped items (u ∷ us) =
        and_from (eqb (length (projection items u.row)) (length items)) (are_wide (length items) (map (mapped_update items) us))
        (eq-eqb (length (projection items u.row)) (length items) (length-map items (λ item. item_value item u.row))) (wide_mapped items us)

    wide_negated : (columns : ℕ) (us : List (Update T)) → IsTrue (are_wide columns us) → IsTrue (are_wide columns (map negated_update us))
    wide_negated columns [] h = refl
    wide_negated columns (u ∷ us) h =
        let parts = and_parts (eqb (length u.row) columns) (are_wide columns us) h in
        and_from (eqb (length u.row) columns) (are_wide columns (map negated_update us)) parts.0 (wide_negated columns us parts.1)

    -- the output rows have the width of the node
    wide_applied : (node : Node) → IsTrue (is_linear node) → first_refusal (node_faults p node) ≡ None → (port s : ℕ) → slice_get (sources node) port ≡ Some s
        → (us : List (Update T)) → IsTrue (are_wide (width_of p s) us) → IsTrue (are_wide (width_from (key_width p node) node (width_of p)) (linear_output node us))
    wide_applied (Input width) l h port s e us w = absurd (none-some s e)
    wide_applied (Map source items) l h port s e us w = wide_mapped items us
    wide_applied (Filter source test) l h port s e us w = list_all-filter (λ u. eqb (length u.row) (width_of p source)) (λ u. passes test u.row) us (wide_same us (width_of p s) (width_of p source) (ap (width_of p) (sym (first_source source port s e))) w)
    wide_applied (Concat left right) l h port s e us w =
        let same = no_fault (eqb (width_of p left) (width_of p right)) (no_first (not (eqb (width_of p left) (width_of p right))) WidthMismatch [] h).0 in
        wide_same us (width_of p s) (width_of p left) (concat_width left right same port s e) w
    wide_applied (Negate source) l h port s e us w = wide_negated (width_of p source) us (wide_same us (width_of p s) (width_of p source) (ap (width_of p) (sym (first_source source port s e))) w)
    wide_applied (Join left right) l h port s e us w = absurd (true≢false (sym l))
    wide_applied (Reduce kind source) l h port s e us w = absurd (true≢false (sym l))
    wide_applied node l h port s e us w = wide_same us (width_of p s) _ (ap (width_of p) (sym (first_source _ port s e))) w

    takes_all : (node : Node) (columns : ℕ) → IsTrue (takes_width node columns) → (us : List (Update T)) → IsTrue (are_wide columns us) → IsTrue (takes_rows node us)
    takes_all node columns h [] w = refl
    takes_all node columns h (u ∷ us) w =
        let parts = and_parts (eqb (length u.row) columns) (are_wide columns us) w in
        and_from (takes_width node (length u.row)) (takes_rows node us)
        (subst (λ n. IsTrue (takes_width node n)) (sym (eqb-true (length u.row) columns parts.0)) h) (takes_all node columns h us parts.1)

    -- a node of a plan takes the rows of its sources
    pub plan_takes : IsPlan p → (n port s : ℕ) → slice_get (sources (node_at p n)) port ≡ Some s → (us : List (Update T)) → IsTrue (are_wide (width_of p s) us) → IsTrue (takes_rows (node_at p n) us)
    plan_takes plan n port s e us w =
        takes_all (node_at p n) (width_of p s) (takes_source (node_at p n) (faultless p plan n (has_source p n port s e)) port s e) us w

    -- a linear node of a plan gives rows of its own width
    pub plan_gives : IsPlan p → (n port s : ℕ) → slice_get (sources (node_at p n)) port ≡ Some s → IsTrue (is_linear (node_at p n)) → (us : List (Update T)) → IsTrue (are_wide (width_of p s) us) → IsTrue (are_wide (width_of p n) (linear_output (node_at p n) us))
    plan_gives plan n port s e l us w =
        wide_same (linear_output (node_at p n) us) (width_from (key_width p (node_at p n)) (node_at p n) (width_of p)) (width_of p n) (sym (width_by_sources p plan n))
        (wide_applied (node_at p n) l (faultless p plan n (has_source p n port s e)) port s e us w)

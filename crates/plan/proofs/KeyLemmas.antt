-- The keys by which a plan's nodes are arranged.
use Rattle.std.proofs.Common.{◌≡◌, ℕ, zero, suc, ◌<◌, ◌≤◌, false, not, ◌&&◌, eqb, nat_le, is_some, unwrap_or, IsTrue, Option, Some, None, List, [], ◌∷◌, length, slice_get, refl, ap, sym, ◌∙◌, subst, arith}
use Rattle.std.proofs.lemmas.Bool.{and_parts, leb-true, eqb-true}
use Rattle.std.proofs.lemmas.Option.{same_Some}
use Rattle.update.specs.declared.refusal.Refusal.TheVariants.{NotArranged, KeyMismatch, BadWidth, BadKey}
use Rattle.plan.specs.Nodes.{node_at, sources, arranged_by, key_of, key_width, is_linear}
use Rattle.plan.specs.Widths.{width_of, width_from}
use Rattle.plan.specs.Rules.{IsPlan, is_width, is_arranged, node_faults, first_refusal}
use Rattle.plan.specs.declared.node.Node.{Node}
use Rattle.plan.specs.declared.node.Node.TheVariants.{Arrange, Join, Reduce}
use Rattle.plan.proofs.PlanLemmas.{no_first, no_fault}
use Rattle.plan.proofs.StepLemmas.{width_by_sources}
use Rattle.plan.proofs.WidthLemmas.{faultless, width_bounds}

-- an arranged node has the key that `arranged_by` names
arranged_by_key : (arranged : Option ℕ) → IsTrue (is_some arranged) → arranged ≡ Some (unwrap_or arranged 0)
arranged_by_key (Some key) h = refl
arranged_by_key None h = cc

module _ (p : List Node) (plan : IsPlan p) where
  -- the bounds of a key, by the variant of the node
  arrange_bounds : (n : ℕ) → n < length p → (node : Node) → node_at p n ≡ node → (key : ℕ) → arranged_by node ≡ Some key → (1 ≤ key) × (key ≤ width_of p n)
  arrange_bounds n l (Arrange source columns) e key a =
      let same : columns ≡ key = same_Some columns key a in
      let fits = no_fault (nat_le 1 columns && nat_le columns (width_of p source)) (no_first (not (nat_le 1 columns && nat_le columns (width_of p source))) BadKey [] (subst (λ node. first_refusal (node_faults p node) ≡ None) e (faultless p plan n l))).0 in
      let parts = and_parts (nat_le 1 columns) (nat_le columns (width_of p source)) fits in
      let least = leb-true 1 columns parts.0 in
      let greatest = leb-true columns (width_of p source) parts.1 in
      let width : width_of p n ≡ width_of p source = width_by_sources p plan n ∙ ap (λ node. width_from (key_width p node) node (width_of p)) e in
      (subst (λ k. 1 ≤ k) same least, subst (λ k. k ≤ width_of p n) same (subst (λ w. columns ≤ w) (sym width) greatest))
  arrange_bounds n l node e key a = cc

  -- the key of an arrange node has at least one column and at most as many as its rows
  pub key_bounds : (n key : ℕ) → n < length p → arranged_by (node_at p n) ≡ Some key → (1 ≤ key) × (key ≤ width_of p n)
  key_bounds n key l a = arrange_bounds n l (node_at p n) refl key a

  -- a key has at most 8 columns
  pub key_few : (n : ℕ) → n < length p → key_of p n ≤ 8
  key_few n l = by_arranged (arranged_by (node_at p n)) refl
    where
      by_arranged : (arranged : Option ℕ) → arranged_by (node_at p n) ≡ arranged → unwrap_or arranged 0 ≤ 8
      by_arranged None e = omega arith
      by_arranged (Some key) e =
          let key_fits = (key_bounds n key l e).1 in
          let width_fits = leb-true (width_of p n) 8 (and_parts (nat_le 1 (width_of p n)) (nat_le (width_of p n) 8) (width_bounds p plan n l)).1 in
          omega arith

  -- the key of an arrange node has at least one column
  pub key_some : (n : ℕ) → n < length p → IsTrue (is_arranged p n) → 1 ≤ key_of p n
  key_some n l a = (key_bounds n (key_of p n) l (arranged_by_key (arranged_by (node_at p n)) a)).0

  -- the sources of a join or a reduction are arranged by the same key
  sources_of : (node : Node) → first_refusal (node_faults p node) ≡ None → is_linear node ≡ false → (port s : ℕ) → slice_get (sources node) port ≡ Some s → arranged_by (node_at p s) ≡ Some (key_width p node)
  sources_of (Join left right) h k port s e =
      let both = is_arranged p left && is_arranged p right in
      let first = no_first (not both) NotArranged ((not (eqb (key_of p left) (key_of p right)), KeyMismatch) ∷ (not (is_width (width_from (key_of p left) (Join left right) (width_of p))), BadWidth) ∷ []) h in
      let parts = and_parts (is_arranged p left) (is_arranged p right) (no_fault both first.0) in
      let same = eqb-true (key_of p left) (key_of p right) (no_fault (eqb (key_of p left) (key_of p right)) (no_first (not (eqb (key_of p left) (key_of p right))) KeyMismatch ((not (is_width (width_from (key_of p left) (Join left right) (width_of p))), BadWidth) ∷ []) first.1).0) in
      at_port port e (arranged_by_key (arranged_by (node_at p left)) parts.0) (arranged_by_key (arranged_by (node_at p right)) parts.1 ∙ ap (λ key. Some key) (sym same))
    where
      at_port : (port : ℕ) → slice_get (sources (Join left right)) port ≡ Some s → arranged_by (node_at p left) ≡ Some (key_of p left) → arranged_by (node_at p right) ≡ Some (key_of p left) → arranged_by (node_at p s) ≡ Some (key_of p left)
      at_port zero e l r = ap (λ m. arranged_by (node_at p m)) (sym (same_Some left s e)) ∙ l
      at_port (suc zero) e l r = ap (λ m. arranged_by (node_at p m)) (sym (same_Some right s e)) ∙ r
      at_port (suc (suc port)) e l r = cc
  sources_of (Reduce kind source) h k port s e =
      let fits = is_width (width_from (key_of p source) (Reduce kind source) (width_of p)) in
      let arranged = no_fault (is_arranged p source) (no_first (not (is_arranged p source)) NotArranged ((not fits, BadWidth) ∷ []) h).0 in
      at_port port e (arranged_by_key (arranged_by (node_at p source)) arranged)
    where
      at_port : (port : ℕ) → slice_get (sources (Reduce kind source)) port ≡ Some s → arranged_by (node_at p source) ≡ Some (key_of p source) → arranged_by (node_at p s) ≡ Some (key_of p source)
      at_port zero e l = ap (λ m. arranged_by (node_at p m)) (sym (same_Some source s e)) ∙ l
      at_port (suc port) e l = cc
  sources_of node h k port s e = cc

  -- the sources of a join or a reduction are arranged by the key of the node
  pub source_arranged : (n port s : ℕ) → n < length p → is_linear (node_at p n) ≡ false → slice_get (sources (node_at p n)) port ≡ Some s → arranged_by (node_at p s) ≡ Some (key_width p (node_at p n))
  source_arranged n port s l k e = sources_of (node_at p n) (faultless p plan n l) k port s e

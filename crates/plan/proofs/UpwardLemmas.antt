-- Recursion on a plan: a deeper recursion finds the same, and so do lists with the same nodes.
use Rattle.std.proofs.Common.{◌≡◌, ℕ, zero, suc, ◌<◌, Bool, true, false, ◌||◌, IsTrue, Option, Some, None, List, [], ◌∷◌, slice_get, refl, ap, ap₂, sym, ◌∙◌, arith}
use Rattle.std.specs.List.{list_any, list_all}
use Rattle.std.proofs.Math.Path.{fun_ext}
use Rattle.std.proofs.lemmas.Bool.{and_parts, or_left, or_right, true≢false}
use Rattle.std.proofs.lemmas.Option.{none-some, same_Some}
use Rattle.plan.specs.Nodes.{node_at, sources}
use Rattle.plan.specs.Upward.{found_within, found}
use Rattle.plan.specs.Queries.{source_value}
use Rattle.plan.specs.declared.node.Node.{Node}

-- strong induction, up to a limit
below_first : (P : ℕ → Type 0) → ((n : ℕ) → ((m : ℕ) → m < n → P m) → P n) → (k n : ℕ) → n < k → P n
below_first P h zero n l = absurd (omega arith)
below_first P h (suc k) n l = h n (λ m j. below_first P h k m (omega arith))

-- strong induction over the numbers of nodes
pub by_smaller : (P : ℕ → Type 0) → ((n : ℕ) → ((m : ℕ) → m < n → P m) → P n) → (n : ℕ) → P n
by_smaller P h n = below_first P h (suc n) n (omega arith)

-- `list_any` depends only on the test of the elements of the list
pub list_any_same : (f g : ℕ → Bool) (xs : List ℕ) → ((port s : ℕ) → slice_get xs port ≡ Some s → f s ≡ g s) → list_any f xs ≡ list_any g xs
list_any_same f g [] h = refl
list_any_same f g (x ∷ xs) h = ap₂ (λ a b. a || b) (h 0 x refl) (list_any_same f g xs (λ port s e. h (suc port) s e))

-- if one source passes, then `list_any` holds
pub list_any_from : (f : ℕ → Bool) (xs : List ℕ) (port s : ℕ) → slice_get xs port ≡ Some s → IsTrue (f s) → IsTrue (list_any f xs)
list_any_from f [] port s e h = absurd (none-some s e)
list_any_from f (x ∷ xs) zero s e h = or_left (f x) (list_any f xs) (ap f (same_Some x s e) ∙ h)
list_any_from f (x ∷ xs) (suc port) s e h = or_right (f x) (list_any f xs) (list_any_from f xs port s e h)

-- if `list_any` holds, then the source at some port passes
pub list_any_port : (f : ℕ → Bool) (xs : List ℕ) → IsTrue (list_any f xs) → (port : ℕ) × (s : ℕ) × (slice_get xs port ≡ Some s) × IsTrue (f s)
list_any_port f [] h = absurd (true≢false (sym h))
list_any_port f (x ∷ xs) h =
    elim (f x) as (λ b. f x ≡ b → IsTrue (b || list_any f xs) → (port : ℕ) × (s : ℕ) × (slice_get (x ∷ xs) port ≡ Some s) × IsTrue (f s)) [
      | true ↦ λ e k. (0, x, refl, e)
      | false ↦ λ e k. let r = list_any_port f xs k in (suc r.0, r.1, r.2, r.3)
    ] refl h

-- if all sources pass, then the source at each port does
pub list_all_port : (f : ℕ → Bool) (xs : List ℕ) (port s : ℕ) → IsTrue (list_all f xs) → slice_get xs port ≡ Some s → IsTrue (f s)
list_all_port f [] port s h e = absurd (none-some s e)
list_all_port f (x ∷ xs) zero s h e = ap f (sym (same_Some x s e)) ∙ (and_parts (f x) (list_all f xs) h).0
list_all_port f (x ∷ xs) (suc port) s h e = list_all_port f xs port s (and_parts (f x) (list_all f xs) h).1 e

-- a port gets the same if its source has the same
pub handed_same : {A : Type 0} (outside : A) (f g : ℕ → A) (source : Option ℕ) → ((s : ℕ) → source ≡ Some s → f s ≡ g s) → source_value outside f source ≡ source_value outside g source
handed_same outside f g None h = refl
handed_same outside f g (Some s) h = h s refl

-- all ports get the same if all sources have the same
pub ports_same : {A : Type 0} (outside : A) (f g : ℕ → A) (node : Node) → ((port s : ℕ) → slice_get (sources node) port ≡ Some s → f s ≡ g s) → ◌≡◌ {A = ℕ → A} (λ port. source_value outside f (slice_get (sources node) port)) (λ port. source_value outside g (slice_get (sources node) port))
ports_same outside f g node h = fun_ext (λ port. handed_same outside f g (slice_get (sources node) port) (h port))

-- below a limit, the sources of a node have smaller numbers than the node
abbrev pub Smaller : List Node → ℕ → Type 0
Smaller p limit = (n port s : ℕ) → n < limit → slice_get (sources (node_at p n)) port ≡ Some s → s < n

-- below a limit, the two steps give the same at a node of both lists if its sources have the same
abbrev pub Local : {A : Type 0} → List Node → List Node → (ℕ → Node → (ℕ → A) → A) → (ℕ → Node → (ℕ → A) → A) → ℕ → Type 0
Local {A} p q step other limit = (n : ℕ) → n < limit → (f g : ℕ → A) → ((port s : ℕ) → slice_get (sources (node_at p n)) port ≡ Some s → f s ≡ g s) → step n (node_at p n) f ≡ other n (node_at q n) g

-- what two lists find with two steps that agree in this sense
module _ {A : Type 0} (nothing : A) (p q : List Node) (step other : ℕ → Node → (ℕ → A) → A) (limit : ℕ) (smaller : Smaller p limit) (local : Local p q step other limit) where
  -- recursions that are deep enough find the same
  pub within_same : (d e n : ℕ) → n < limit → n < d → n < e → found_within nothing step p d n ≡ found_within nothing other q e n
  within_same zero e n l j k = absurd (omega arith)
  within_same (suc d) zero n l j k = absurd (omega arith)
  within_same (suc d) (suc e) n l j k =
      local n l (found_within nothing step p d) (found_within nothing other q e)
      (λ port s h. let i = smaller n port s l h in within_same d e s (omega arith) (omega arith) (omega arith))

  -- lists that agree below a limit find the same there
  pub found_same : (n : ℕ) → n < limit → found nothing step p n ≡ found nothing other q n
  found_same n l = within_same (suc n) (suc n) n l (omega arith) (omega arith)

-- the property of a node follows from the same property of its sources
pub found_by_sources : {A : Type 0} (nothing : A) (p : List Node) (step : ℕ → Node → (ℕ → A) → A) (limit : ℕ)
    → Smaller p limit → Local p p step step limit → (n : ℕ) → n < limit → found nothing step p n ≡ step n (node_at p n) (found nothing step p)
found_by_sources nothing p step limit smaller local n l =
    local n l (found_within nothing step p n) (found nothing step p)
    (λ port s h. let i = smaller n port s l h in within_same nothing p p step step limit smaller local n (suc s) s (omega arith) (omega arith) (omega arith))

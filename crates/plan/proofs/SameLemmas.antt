-- When two plans are equal.
use Rattle.std.proofs.Common.{◌≡◌, ℕ, suc, ◌<◌, List, [], ◌∷◌, length, get_or, refl, ap₂, sym, ◌∙◌, arith}
use Rattle.std.proofs.lemmas.Option.{unwrap_or-slice_get}
use Rattle.plan.specs.Nodes.{node_at}
use Rattle.plan.specs.declared.node.Node.{Node}
use Rattle.plan.specs.declared.node.Node.TheVariants.{Input}

-- lists of the same length with the same elements are equal
same_places : {X : Type 0} (xs ys : List X) (d : X) → length xs ≡ length ys → ((m : ℕ) → m < length xs → get_or xs m d ≡ get_or ys m d) → xs ≡ ys
same_places [] [] d e h = refl
same_places [] (y ∷ ys) d e h = absurd (omega arith)
same_places (x ∷ xs) [] d e h = absurd (omega arith)
same_places (x ∷ xs) (y ∷ ys) d e h = ap₂ (λ z zs. z ∷ zs) (h 0 (omega arith)) (same_places xs ys d (omega arith) (λ m l. h (suc m) (omega arith)))

-- plans of the same length with the same nodes are equal
pub same_nodes : (p q : List Node) → length p ≡ length q → ((m : ℕ) → m < length p → node_at p m ≡ node_at q m) → p ≡ q
same_nodes p q e h = same_places p q (Input 0) e (λ m l. sym (unwrap_or-slice_get p m (Input 0)) ∙ h m l ∙ unwrap_or-slice_get q m (Input 0))

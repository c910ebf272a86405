-- The bound of a node from the bounds at its ports. It grows with them, and only a reduction has a
-- bound of its own.
use Rattle.std.proofs.Common.{◌≡◌, ℕ, ◌+◌, ◌*◌, ◌<◌, ◌≤◌, false, ◌⊎◌, inl, inr, length, refl, ap, sym, ◌∙◌, arith, mul-le-mul}
use Rattle.std.proofs.lemmas.Bool.{true≢false}
use Rattle.plan.specs.Nodes.{sources, is_reduction}
use Rattle.plan.specs.Bounds.{output_bound}
use Rattle.plan.specs.declared.kind.Kind.{Kind}
use Rattle.plan.specs.declared.node.Node.{Node}
use Rattle.plan.specs.declared.node.Node.TheVariants.{Concat, Join, Reduce}

-- larger bounds at the ports give a larger bound
pub output_bound-le : (node : Node) (own : ℕ) (b c : ℕ → ℕ) → ((port : ℕ) → (port ≡ 0) ⊎ (port < length (sources node)) → b port ≤ c port) → output_bound node own b ≤ output_bound node own c
output_bound-le (Concat left right) own b c h = let x = h 0 (inl refl) in let y = h 1 (inr (omega arith)) in omega arith
output_bound-le (Join left right) own b c h = mul-le-mul (h 0 (inl refl)) (h 1 (inr (omega arith)))
output_bound-le (Reduce kind source) own b c h = omega arith
output_bound-le node own b c h = h 0 (inl refl)

-- the own bound matters only for a reduction
pub own_same_bound : (node : Node) (v w : ℕ) (bounds_at : ℕ → ℕ) → ((source : ℕ) (kind : Kind) → node ≡ Reduce kind source → v ≡ w) → output_bound node v bounds_at ≡ output_bound node w bounds_at
own_same_bound (Reduce kind source) v w bounds_at h = h source kind refl
own_same_bound node v w bounds_at h = refl

-- for any other node the own bound can be anything
pub own_free : (node : Node) (v w : ℕ) (bounds_at : ℕ → ℕ) → is_reduction node ≡ false → output_bound node v bounds_at ≡ output_bound node w bounds_at
own_free node v w bounds_at e = own_same_bound node v w bounds_at (λ source kind r. absurd (true≢false (sym (ap is_reduction r) ∙ e)))

-- sums over workers
module _ (sum : (ℕ → ℕ) → ℕ) (sums : (f g : ℕ → ℕ) → sum (λ k. f k + g k) ≡ sum f + sum g) (products : (f g : ℕ → ℕ) → sum (λ k. f k * g k) ≤ sum f * sum g) where
  -- the bounds of all workers add up to at most the bound of the sum of their inputs
  pub output_bound-sum : (node : Node) (own : ℕ) (b : ℕ → ℕ → ℕ) → is_reduction node ≡ false → sum (λ k. output_bound node 0 (b k)) ≤ output_bound node own (λ port. sum (λ k. b k port))
  output_bound-sum (Concat left right) own b e = let h = sums (λ k. b k 0) (λ k. b k 1) in omega arith
  output_bound-sum (Join left right) own b e = products (λ k. b k 0) (λ k. b k 1)
  output_bound-sum (Reduce kind source) own b e = absurd (true≢false e)
  output_bound-sum node own b e = omega arith

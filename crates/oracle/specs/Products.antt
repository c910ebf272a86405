-- Products of two counts that do not fit in 64 bits.
use Rattle.std.specs.Prelude.{◌≡◌, ℕ, true, List, take, FitsSigned, ◌*ℤ◌}
use Rattle.std.specs.Int.{w64}
use Rattle.std.specs.List.{Any}
use Rattle.update.specs.Bags.{Entry}
use Rattle.plan.specs.Reductions.{has_key}

-- of an entry and some entry on the right with the same key
abbrev pub HasLargeProduct : ℕ → Entry → List Entry → Type 0
HasLargeProduct k x right =
    Any (λ y. (has_key k (take k x.row) y ≡ true) × (FitsSigned w64 (x.count *ℤ y.count) → ⊥)) right

-- of some entry on the left and some entry on the right with the same key
abbrev pub HasLargePair : ℕ → List Entry → List Entry → Type 0
HasLargePair k left right = Any (λ x. HasLargeProduct k x right) left

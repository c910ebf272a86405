-- The list that an insertion leaves.
use Rattle.std.specs.Prelude.{cond, not, List, [], ◌∷◌}
use Rattle.std.specs.List.{filter}
use Rattle.std.specs.Ordering.{is_lt}
use Rattle.std.specs.declared.cmp.Ordering.{Ordering}
use Rattle.lattice.specs.Times.{Times}

-- the sorted list with t inserted before the first greater element
abbrev pub insertion : {T : Type 0} → (T → T → Ordering) → T → List T → List T
insertion cmp t [] = t ∷ []
insertion cmp t (x ∷ xs) = cond (is_lt (cmp t x)) (t ∷ (x ∷ xs)) (x ∷ insertion cmp t xs)

-- the elements that t is not at or before
abbrev pub not_above : {T : Type 0} → Times T → T → List T → List T
not_above times t xs = filter (λ x. not (times.below t x)) xs

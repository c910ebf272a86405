-- Adding new times to the joined times of a key: the joins that the new times take part in, and the
-- merge of two ascending lists.
use Rattle.std.specs.Prelude.{◌≡◌, ◌↔◌, ◌<◌, ◌-◌, IsTrue, List, ◌∷◌, ◌++◌, map, length, get_or, ◌⊎◌}
use Rattle.std.specs.List.Sorted.{IsStrictlySortedBy}
use Rattle.std.specs.declared.cmp.Ordering.{Ordering}
use Rattle.update.specs.Joins.{joins_of}
use Rattle.joined_times.specs.Joined.{Member}
use Rattle.lattice.specs.Times.{Times}

-- the two lists have the same members
abbrev pub SameMembers : {X : Type 0} → List X → List X → Type 0
SameMembers {X} xs ys = (x : X) → Member x xs ↔ Member x ys

-- x is the last of these
abbrev pub IsLast : {X : Type 0} → X → List X → Type 0
IsLast x xs = (0 < length xs) × (x ≡ get_or xs (length xs - 1) x)

-- `now` is `before` and, after it, those of which P holds
abbrev pub Appends : {X : Type 0} → List X → List X → (X → Type 0) → Type 0
Appends {X} before now P = (added : List X) × (now ≡ before ++ added) × ((x : X) → Member x added ↔ P x)

-- the time, and each of these times joined with it
abbrev pub joins_with : {T : Type 0} → Times T → T → List T → List T
joins_with times t ts = t ∷ map (λ s. times.joined s t) ts

-- t is a join of new times, or the join of one with a near time
abbrev pub IsFreshBy : {T : Type 0} → Times T → List T → List T → T → Type 0
IsFreshBy {T} times new near t =
    Member t (joins_of times new)
    ⊎ ((a : T) × (b : T) × Member a (joins_of times new) × Member b near × (times.joined a b ≡ t))

-- each of these times is at or after `low`, and at or before `high`
abbrev pub AreBetween : {T : Type 0} → Times T → T → T → List T → Type 0
AreBetween {T} times low high ts = (t : T) → Member t ts → IsTrue (times.below low t) × IsTrue (times.below t high)

-- `out` has been written, and `left` and `right` are the rest of `xs` and `ys`. Nothing in them
-- belongs before what was written.
pub record IsMerging {T : Type 0} (cmp : T → T → Ordering) (xs ys out left right : List T) : Type 0 where
  pub ascending_left : IsStrictlySortedBy cmp (out ++ left)
  pub ascending_right : IsStrictlySortedBy cmp (out ++ right)
  pub members : (t : T) → (Member t out ⊎ (Member t left ⊎ Member t right)) ↔ (Member t xs ⊎ Member t ys)

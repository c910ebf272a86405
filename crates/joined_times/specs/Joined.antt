-- The times at which the answer for a key can change: the joins of the times of its updates
-- (McSherry et al., Differential Dataflow, CIDR 2013).
use Rattle.std.specs.Prelude.{◌≡◌, ◌↔◌, ℕ, Bool, IsTrue, List, [], ◌∷◌, ℤ, map, take, ◌⊎◌}
use Rattle.std.specs.List.{filter}
use Rattle.lattice.specs.Times.{Times}
use Rattle.lattice.specs.Frontiers.{is_beyond}
use Rattle.update.specs.Bags.{same_row}
use Rattle.update.specs.Joins.{joins_of}
use Rattle.update.specs.declared.change.Update.{Update}

-- x is one of these
abbrev pub Member : {X : Type 0} → X → List X → Type 0
Member x [] = ⊥
Member x (y ∷ ys) = (x ≡ y) ⊎ Member x ys

-- each of these once
abbrev pub AreOnce : {X : Type 0} → List X → Type 0
AreOnce [] = Unit {0}
AreOnce (x ∷ xs) = (Member x xs → ⊥) × AreOnce xs

module _ {T : Type 0} where
  -- the update's row begins with the key, of k columns
  abbrev pub of_key : ℕ → List ℤ → Update T → Bool
  of_key k key u = same_row (take k u.row) key

  -- the times of a key's updates
  abbrev pub times_of : ℕ → List ℤ → List (Update T) → List T
  times_of k key us = map (λ u. u.time) (filter (of_key k key) us)

module _ {T : Type 0} (times : Times T) where
  -- t is a joined time of the key: the join of a set of times of its updates
  abbrev pub IsJoined : ℕ → List (Update T) → List ℤ → T → Type 0
  IsJoined k us key t = Member t (joins_of times (times_of k key us))

  -- t is the join of a set of new and old times that holds a new one
  abbrev pub IsFresh : List T → List T → T → Type 0
  IsFresh new old t =
      Member t (joins_of times new)
      ⊎ ((a : T) × (b : T) × Member a (joins_of times new) × Member b (joins_of times old) × (times.joined a b ≡ t))

  -- t is the join of n with one of these times
  abbrev pub IsJoinWith : T → List T → T → Type 0
  IsJoinWith n ts t = (s : T) × Member s ts × (times.joined n s ≡ t)

module _ {T : Type 0} (times : Times T) where
  -- joined with any time beyond the since, both lists make the same times
  abbrev pub JoinAlike : List T → List T → List T → Type 0
  JoinAlike since xs ys =
      (n t : T) → IsTrue (is_beyond times since n) → IsJoinWith times n xs t ↔ IsJoinWith times n ys t

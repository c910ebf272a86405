-- The times that a frontier has passed at which a view may change: the passed times of the changes
-- of the inputs that feed it, and all passed joins of them.
use Rattle.std.specs.Prelude.{ℕ, List, IsTrue}
use Rattle.std.specs.List.{All, Contains}
use Rattle.std.specs.List.Sorted.{IsStrictlySortedBy}
use Rattle.std.specs.declared.cmp.Ordering.{Ordering}
use Rattle.update.specs.declared.change.Update.{Update}
use Rattle.plan.specs.Ancestors.{feeds}
use Rattle.plan.specs.Changes.{has_passed}
use Rattle.plan.specs.declared.node.Node.{Node}
use Rattle.lattice.specs.Times.{Times}

module _ {T : Type 0} (times : Times T) where
  -- the frontier has passed each of the times
  abbrev pub HavePassed : List T → List T → Type 0
  HavePassed frontier ts = (t : T) → Contains ts t → IsTrue (has_passed times frontier t)

  -- with any two times, the list has their join if the frontier has passed it
  abbrev pub IsClosed : List T → List T → Type 0
  IsClosed frontier ts = (s t : T) → Contains ts s → Contains ts t
      → IsTrue (has_passed times frontier (times.joined s t)) → Contains ts (times.joined s t)

  -- the list has the time of each of the updates that the frontier has passed
  abbrev pub HasPassedTimes : List T → List T → List (Update T) → Type 0
  HasPassedTimes frontier ts us =
      All (λ u. IsTrue (has_passed times frontier u.time) → Contains ts u.time) us

  -- the list has the time of each passed change of each input that feeds the view
  abbrev pub Covers : List Node → (ℕ → List (Update T)) → List T → ℕ → List T → Type 0
  Covers p changes frontier view ts =
      (input : ℕ) → IsTrue (feeds p input view) → HasPassedTimes frontier ts (changes input)

  -- a sorted list without duplicates that is closed under passed joins and has the time of each
  -- passed change of each input that feeds the view; it may also have times that are still open
  pub record IsJoinClosure (cmp : T → T → Ordering) (p : List Node)
      (changes : ℕ → List (Update T)) (frontier : List T) (view : ℕ) (ts : List T) : Type 0 where
    pub ascending : IsStrictlySortedBy cmp ts
    pub closed : IsClosed frontier ts
    pub covers : Covers p changes frontier view ts

-- The frontiers that a tally keeps of each node, and what the calls of a tally make of them.
use Rattle.std.specs.Prelude.{◌≡◌, ◌<◌, ◌≤◌, ◌⊎◌, ℕ, Bool, true, false, eqb, IsTrue, List, ◌∷◌, map, length, slice_index_or, take}
use Rattle.std.specs.List.{list_any}
use Rattle.lattice.specs.Times.{Times}
use Rattle.lattice.specs.Frontiers.{is_beyond}
use Rattle.plan.specs.Ancestors.{reaches}
use Rattle.plan.specs.Rules.{IsPlan}
use Rattle.plan.specs.declared.node.Node.{Node}
use Rattle.progress.specs.declared.place.Place.{Place}
use Rattle.progress.specs.declared.counted.Counted.{Counted}
use Rattle.progress.specs.declared.kept.Kept.{Kept}
use Rattle.progress.specs.declared.scope.Scope.{Scope}
use Rattle.progress.specs.declared.scope.Scope.TheVariants.{Output, Input, Port}
use Rattle.progress.specs.Tallies.{node_of, times_where}
use Rattle.progress.specs.Scopes.{is_in_scope}

-- by node, whether it is marked
abbrev pub marks_of : {T : Type 0} → List (Kept T) → List Bool
marks_of ks = map (λ k. k.marked) ks

-- the first elements of a list have changed as R says, each by its number; the others are the same
pub record HaveChanged {A : Type 0} (R : ℕ → A → A → Type 0) (old new : List A) (number : ℕ) : Type 0 where
  pub len : length new ≡ length old
  pub changed : (n : ℕ) (d : A) → n < number → n < length old → R n (slice_index_or old n d) (slice_index_or new n d)
  pub same : (n : ℕ) (d : A) → number ≤ n → slice_index_or new n d ≡ slice_index_or old n d

-- somebody asked about node n
abbrev pub is_asked : List ℕ → ℕ → Bool
is_asked asked n = list_any (λ a. eqb a n) asked

-- the elements of these numbers have changed as R says, each by its number; the others are the same
pub record HaveChangedAt {A : Type 0} (R : ℕ → A → A → Type 0) (asked : List ℕ) (old new : List A) : Type 0 where
  pub len : length new ≡ length old
  pub changed : (n : ℕ) (d : A) → n < length old → is_asked asked n ≡ true → R n (slice_index_or old n d) (slice_index_or new n d)
  pub same : (n : ℕ) (d : A) → is_asked asked n ≡ false → slice_index_or new n d ≡ slice_index_or old n d

-- the numbers are of nodes, none is there twice, and each node that nobody asked about is marked
pub record AreAsked {T : Type 0} (asked : List ℕ) (ks : List (Kept T)) : Type 0 where
  pub once : (i d : ℕ) → i < length asked → is_asked (take i asked) (slice_index_or asked i d) ≡ false
  pub within : (i d : ℕ) → i < length asked → slice_index_or asked i d < length ks
  pub others : (n : ℕ) (d : Kept T) → n < length ks → is_asked asked n ≡ false → (slice_index_or ks n d).marked ≡ true

module _ {T : Type 0} (nodes : List Node) (place : Place) where
  -- only a node that counts the place may have changed, and not its mark
  pub record IsSpared (n : ℕ) (old new : Kept T) : Type 0 where
    pub others : reaches nodes (node_of place) n ≡ false → new ≡ old
    pub mark : new.marked ≡ old.marked

  -- a node that counts the place is marked, and another one is the same
  pub record IsMarked (n : ℕ) (old new : Kept T) : Type 0 where
    pub others : reaches nodes (node_of place) n ≡ false → new ≡ old
    pub below : reaches nodes (node_of place) n ≡ true → new.marked ≡ true

module _ {T : Type 0} (times : Times T) (nodes : List Node) where
  -- the same times are beyond the elements and beyond all times that count for the frontier
  abbrev pub IsFront : List (Counted T) → Scope → List T → Type 0
  IsFront items scope elements =
      (t : T) → is_beyond times elements t ≡ is_beyond times (times_where (is_in_scope nodes scope) items) t

  -- so it is for each frontier that is kept of node n
  pub record AreFronts (items : List (Counted T)) (n : ℕ) (k : Kept T) : Type 0 where
    pub output : IsFront items (Output n) k.output.items
    pub input : IsFront items (Input n) k.input.items
    pub first : IsFront items (Port n 0) k.first.items
    pub second : IsFront items (Port n 1) k.second.items

  -- so it is unless the node is marked
  abbrev pub IsCurrent : List (Counted T) → ℕ → Kept T → Type 0
  IsCurrent items n k = k.marked ≡ false → AreFronts items n k

  -- so it is for each node
  abbrev pub AreCurrent : List (Counted T) → List (Kept T) → Type 0
  AreCurrent items ks = (n : ℕ) (d : Kept T) → n < length ks → IsCurrent items n (slice_index_or ks n d)

  -- an item more is counted, and the mark stays
  pub record IsInserted (place : Place) (t : T) (n : ℕ) (old new : Kept T) : Type 0 where
    pub current : (items : List (Counted T)) → IsCurrent items n old → IsCurrent (record { place = place; time = t } ∷ items) n new
    pub mark : new.marked ≡ old.marked

  -- an item less is counted, or a later one in its place
  pub record IsForgotten (place : Place) (t : T) (n : ℕ) (old new : Kept T) : Type 0 where
    pub gone : (items : List (Counted T)) → IsCurrent (record { place = place; time = t } ∷ items) n old → IsCurrent items n new
    pub later : (items : List (Counted T)) (u : T) → IsTrue (times.below t u) → IsCurrent (record { place = place; time = t } ∷ items) n old → IsCurrent (record { place = place; time = u } ∷ items) n new
    pub stays : old.marked ≡ true → new.marked ≡ true
    pub reached : new.marked ≡ true → (old.marked ≡ true) ⊎ (reaches nodes (node_of place) n ≡ true)

  -- what a tally keeps of a plan's nodes while it counts these items
  pub record IsTally (items : List (Counted T)) (ks : List (Kept T)) : Type 0 where
    pub plan : IsPlan nodes
    pub len : length ks ≡ length nodes
    pub current : AreCurrent items ks

-- What was inserted into a trace, and which updates may be read in its place (McSherry et al.,
-- Shared Arrangements, VLDB 2020).
use Rattle.std.specs.Prelude.{◌≡◌, ◌≢◌, ◌≤◌, Bool, List, [], ◌∷◌, ◌++◌, ℤ, IsTrue, ◌⊎◌}
use Rattle.std.specs.List.{list_all, AllByRecursion, flat_map}
use Rattle.lattice.specs.Times.{Times}
use Rattle.lattice.specs.Frontiers.{is_beyond}
use Rattle.update.specs.Bags.{Alike}
use Rattle.update.specs.Updates.{as_of, size}
use Rattle.update.specs.declared.change.Update.{Update}
pub use Rattle.batch.specs.Compaction.{at_representative, compacted}

-- updates that were inserted into a trace, and the frontier that the trace had reached with them
pub record Insertion (T : Type 0) : Type 0 where
  pub upper : List T
  pub updates : List (Update T)

module _ {T : Type 0} where
  -- the updates of all insertions
  abbrev pub all_updates : List (Insertion T) → List (Update T)
  all_updates h = flat_map (λ i. i.updates) h

  -- the frontier that a trace has reached with some insertions, newest first, if it begins at
  -- `start`
  abbrev pub reached : List T → List (Insertion T) → List T
  reached start [] = start
  reached start (i ∷ h) = i.upper

  -- `seen` are the insertions up to the frontier `upto`: of all insertions, newest first, the
  -- newest that reached it, and all before that one
  pub record IsUpTo (upto : List T) (h seen : List (Insertion T)) : Type 0 where
    pub last : Insertion T
    pub before : List (Insertion T)
    pub later : List (Insertion T)
    pub is : seen ≡ last ∷ before
    pub split : h ≡ later ++ seen
    pub ends : last.upper ≡ upto
    pub newest : AllByRecursion (λ i. i.upper ≢ upto) later

  -- the insertions up to a boundary; up to the frontier at which a trace begins, there need be none
  abbrev pub AreUpTo : List T → List T → List (Insertion T) → List (Insertion T) → Type 0
  AreUpTo start upto h seen = IsUpTo upto h seen ⊎ ((upto ≡ start) × (seen ≡ []))

  -- the updates of all batches, if `content` gives those of one
  abbrev pub all_content : {B : Type 0} → (B → List (Update T)) → List B → List (Update T)
  all_content content bs = flat_map content bs

  -- the rows of us are among those of vs: a test that each row of vs passes is passed by each row
  -- of us
  abbrev pub RowsAmong : List (Update T) → List (Update T) → Type 0
  RowsAmong us vs =
      (p : List ℤ → Bool)
      → IsTrue (list_all (λ u. p u.row) vs)
      → IsTrue (list_all (λ u. p u.row) us)

module _ {T : Type 0} (times : Times T) where
  -- us and vs sum to the same bag at each time beyond the frontier
  abbrev pub SameBeyond : List T → List (Update T) → List (Update T) → Type 0
  SameBeyond since us vs =
      (t : T) → IsTrue (is_beyond times since t) → Alike (as_of times t us) (as_of times t vs)

  -- at times beyond the frontier us may be read in the place of vs: the sums are the same, no row
  -- is new, and us is no larger
  pub record IsReadable (since : List T) (us vs : List (Update T)) : Type 0 where
    pub sums : SameBeyond since us vs
    pub rows : RowsAmong us vs
    pub smaller : size us ≤ size vs

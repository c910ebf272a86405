-- A batch list: the plainest trace. It grows at its end, and two neighbouring batches may become
-- one.
use Rattle.std.specs.Prelude.{◌≡◌, ℕ, zero, suc, ℤ, Bool, cond, List, [], ◌∷◌, ◌++◌, map, reverse, slice_get, Some, ⊤, IsTrue}
use Rattle.std.specs.List.{list_all}
use Rattle.std.specs.declared.cmp.Ordering.{Ordering}
use Rattle.lattice.specs.Times.{Times}
use Rattle.lattice.specs.Frontiers.{all_beyond}
use Rattle.antichain.specs.Antichains.{IsFrontier}
use Rattle.update.specs.declared.change.Update.{Update}
use Rattle.batch.specs.Compaction.{IsUpward}
use Rattle.batch.specs.Descriptions.{BatchState, IsEmptyIfStill}
use Rattle.trace.specs.Readings.{Insertion, IsReadable}

-- whose updates these are, the frontier at which the list begins, its batches in order, and whether
-- there is memory for one more
pub record BatchListState (T : Type 0) : Type 0 where
  pub worker : ℕ
  pub node : ℕ
  pub start : List T
  pub batches : List (BatchState T)
  pub reserved : Bool

module _ {T : Type 0} where
  -- the updates of a batch
  abbrev pub updates_of : BatchState T → List (Update T)
  updates_of b = b.updates

  -- the frontier at which the last of some batches ends, if the first of them begins at `from`
  abbrev pub end_of : List T → List (BatchState T) → List T
  end_of from [] = from
  end_of from (b ∷ bs) = end_of b.description.upper bs

  -- each boundary of a batch list: where it begins, and where a batch ends
  abbrev pub ends_of : BatchListState T → List (List T)
  ends_of s = s.start ∷ map (λ b. b.description.upper) s.batches

  -- the insertion of a batch
  abbrev pub insertion_of : BatchState T → Insertion T
  insertion_of b = record { upper = b.description.upper; updates = b.updates }

  -- the insertions that a batch list stands for: its batches, newest first
  abbrev pub insertions_of : List (BatchState T) → List (Insertion T)
  insertions_of bs = reverse (map insertion_of bs)

  -- the batches up to a boundary, which a test recognizes, if the first of them begins at `from`
  abbrev pub batches_to : (List T → Bool) → List T → List (BatchState T) → List (BatchState T)
  batches_to is_boundary from [] = []
  batches_to is_boundary from (b ∷ bs) =
      cond (is_boundary from) [] (b ∷ batches_to is_boundary b.description.upper bs)

  -- the batches, with one of them in the place of two: of the batch with this number, and of the
  -- next one
  abbrev pub merged_at : ℕ → BatchState T → List (BatchState T) → List (BatchState T)
  merged_at i m [] = []
  merged_at zero m (a ∷ []) = a ∷ []
  merged_at zero m (a ∷ b ∷ bs) = m ∷ bs
  merged_at (suc i) m (a ∷ bs) = a ∷ merged_at i m bs

  -- the batch has the worker and node, and begins at `from`
  abbrev pub Continues : ℕ → ℕ → List T → BatchState T → Type 0
  Continues worker node from b =
      (b.description.worker ≡ worker)
      × (b.description.node ≡ node)
      × (b.description.lower ≡ from)

module _ {T : Type 0} (times : Times T) where
  -- one batch for two neighbours: it reaches over both intervals, may be read in the place of both
  -- beyond the frontier, and has only rows of theirs, and times at or after theirs
  pub record IsMergeOf (since : List T) (m a b : BatchState T) : Type 0 where
    pub described : m.description ≡ record {
      worker = a.description.worker;
      node = a.description.node;
      lower = a.description.lower;
      upper = b.description.upper;
      since = since;
    }
    pub reads : IsReadable times since m.updates (a.updates ++ b.updates)
    pub among : (p : List ℤ → T → Bool)
        → IsUpward times p
        → IsTrue (list_all (λ u. p u.row u.time) (a.updates ++ b.updates))
        → IsTrue (list_all (λ u. p u.row u.time) m.updates)

  -- one batch for the one with this number and the next one
  abbrev pub IsMergeAt : List T → BatchState T → ℕ → List (BatchState T) → Type 0
  IsMergeAt since m i bs =
      (a b : BatchState T)
      → slice_get bs i ≡ Some a
      → slice_get bs (suc i) ≡ Some b
      → IsMergeOf since m a b

  -- one batch for another: it has the same interval, may be read in the place of the other beyond
  -- the frontier, and has only rows of the other's, and times at or after its times
  pub record IsRewriteOf (since : List T) (m a : BatchState T) : Type 0 where
    pub described : m.description ≡ record a.description { since = since }
    pub reads : IsReadable times since m.updates a.updates
    pub among : (p : List ℤ → T → Bool)
        → IsUpward times p
        → IsTrue (list_all (λ u. p u.row u.time) a.updates)
        → IsTrue (list_all (λ u. p u.row u.time) m.updates)

  -- one batch for the one with this number
  abbrev pub IsRewriteAt : List T → BatchState T → ℕ → List (BatchState T) → Type 0
  IsRewriteAt since m i bs = (a : BatchState T) → slice_get bs i ≡ Some a → IsRewriteOf since m a

module _ {T : Type 0} (times : Times T) (cmp : T → T → Ordering) where
  -- the batch continues a batch list, and ends at a frontier beyond the one at which it begins; it
  -- has no updates if that is the same frontier
  pub record IsLink (worker node : ℕ) (from : List T) (b : BatchState T) : Type 0 where
    pub continues : Continues worker node from b
    pub still : IsEmptyIfStill b
    pub frontier : IsFrontier times cmp b.description.upper
    pub forward : IsTrue (all_beyond times from b.description.upper)

  -- each batch continues those before it
  abbrev pub AreLinked : ℕ → ℕ → List T → List (BatchState T) → Type 0
  AreLinked worker node from [] = ⊤
  AreLinked worker node from (b ∷ bs) =
      IsLink worker node from b × AreLinked worker node b.description.upper bs

  -- a batch list begins at a frontier, and its batches continue one another
  pub record IsBatchList (s : BatchListState T) : Type 0 where
    pub start : IsFrontier times cmp s.start
    pub linked : AreLinked s.worker s.node s.start s.batches

-- What is left of a list of linked batches when two neighbours become one, or one is rewritten.
use Rattle.std.proofs.Common.{◌≡◌, ℕ, zero, suc, ◌<◌, ◌≤◌, Bool, true, false, List, [], ◌∷◌, ◌++◌, set, length, slice_get, Some, IsTrue, refl, sym, ◌∙◌, ap, subst, arith}
use Rattle.std.specs.Prelude.{ℤ}
use Rattle.std.specs.List.{list_all, remove}
use Rattle.std.specs.Cmp.{IsTotalOrder}
use Rattle.std.specs.declared.cmp.Ordering.{Ordering}
use Rattle.std.proofs.lemmas.List.{append-nil}
use Rattle.lattice.specs.Times.{Times}
use Rattle.lattice.specs.Order.{PartialOrderLaws, LatticeLaws}
use Rattle.lattice.specs.Frontiers.{is_beyond, all_beyond}
use Rattle.lattice.proofs.FrontierLemmas.{all_beyond_later}
use Rattle.antichain.specs.Antichains.{IsFrontier}
use Rattle.update.specs.Bags.{Alike}
use Rattle.update.specs.Updates.{as_of, size}
use Rattle.update.specs.declared.change.Update.{Update}
use Rattle.batch.specs.Compaction.{IsUpward, StandFor, compacted}
use Rattle.batch.specs.Descriptions.{BatchState, DescriptionState, Follows}
use Rattle.batch.proofs.CompactionLemmas.{stand_sums, stand_upward, stand_size}
use Rattle.trace.specs.Readings.{IsReadable}
use Rattle.trace.specs.BatchLists.{BatchListState, merged_at, IsMergeOf, IsMergeAt, IsRewriteOf, IsRewriteAt, IsLink, AreLinked, IsBatchList}
use Rattle.batch.proofs.IntervalLemmas.{none_left}
use Rattle.trace.proofs.ReadLemmas.{readable_later}
use Rattle.trace.proofs.BoundaryLemmas.{some_same, none_some, stays}

module _ {T : Type 0} where
  -- there is a batch with each number below the length
  pub found_at : (bs : List (BatchState T)) (i : ℕ) → i < length bs → (a : BatchState T) × (slice_get bs i ≡ Some a)
  found_at [] i l = absurd (omega (arith, l))
  found_at (b ∷ bs) zero l = (b, refl)
  found_at (b ∷ bs) (suc i) l = found_at bs i (omega (arith, l))

  -- to put a batch in the first one's place, and to remove the second one, is to put it in the
  -- place of both
  pub put_for_two : (i : ℕ) (m : BatchState T) (bs : List (BatchState T)) → suc i < length bs → remove (set bs i m) (suc i) ≡ merged_at i m bs
  put_for_two i m [] l = absurd (omega (arith, l))
  put_for_two zero m (a ∷ []) l = absurd (omega (arith, l))
  put_for_two zero m (a ∷ b ∷ bs) l = refl
  put_for_two (suc i) m (a ∷ bs) l = ap (λ cs. a ∷ cs) (put_for_two i m bs (omega (arith, l)))

  -- linked batches follow one another
  pub linked_follow : (times : Times T) (cmp : T → T → Ordering) (worker node : ℕ) (from : List T) (bs : List (BatchState T)) (i : ℕ) (a b : BatchState T) → AreLinked times cmp worker node from bs → slice_get bs i ≡ Some a → slice_get bs (suc i) ≡ Some b → Follows a.description b.description
  linked_follow times cmp worker node from [] i a b l e f = absurd (none_some e)
  linked_follow times cmp worker node from (x ∷ []) zero a b l e f = absurd (none_some f)
  linked_follow times cmp worker node from (x ∷ y ∷ bs) zero a b l e f =
      subst (λ (z : BatchState T). Follows z.description b.description) (some_same e)
      (subst (λ (z : BatchState T). Follows x.description z.description) (some_same f)
      (l.0.continues.0 ∙ sym l.1.0.continues.0, l.0.continues.1 ∙ sym l.1.0.continues.1, sym l.1.0.continues.2))
  linked_follow times cmp worker node from (x ∷ bs) (suc i) a b l e f = linked_follow times cmp worker node x.description.upper bs i a b l.1 e f

  -- what a merge promises makes one batch for two
  pub merge_of : (times : Times T) (since : List T) (m a b : BatchState T)
      → m.description ≡ record { worker = a.description.worker; node = a.description.node; lower = a.description.lower; upper = b.description.upper; since = since }
      → ((t : T) → IsTrue (is_beyond times since t) → Alike (as_of times t m.updates) (as_of times t (a.updates ++ b.updates)))
      → ((p : List ℤ → T → Bool) → IsUpward times p → IsTrue (list_all (λ u. p u.row u.time) (a.updates ++ b.updates)) → IsTrue (list_all (λ u. p u.row u.time) m.updates))
      → size m.updates ≤ size (a.updates ++ b.updates)
      → IsMergeOf times since m a b
  merge_of times since m a b described sums upward smaller = record {
    described = described;
    reads = record {
      sums = sums;
      rows = λ p h. upward (λ r t. p r) (λ r t u l k. k) h;
      smaller = smaller;
    };
    among = upward;
  }

module _ {T : Type 0} {times : Times T} {cmp : T → T → Ordering} (o : PartialOrderLaws times) (total : IsTotalOrder cmp) (worker node : ℕ) (since : List T) where
  -- one batch for two goes on where the first begins
  link_for_two : (from : List T) (m a b : BatchState T) → IsFrontier times cmp from → IsMergeOf times since m a b → AreLinked times cmp worker node from (a ∷ b ∷ []) → IsLink times cmp worker node from m
  link_for_two from m a b f is l = record {
    continues = (
      ap (λ (d : DescriptionState T). d.worker) is.described ∙ l.0.continues.0,
      ap (λ (d : DescriptionState T). d.node) is.described ∙ l.0.continues.1,
      lower ∙ l.0.continues.2,
    );
    still = still;
    frontier = subst (IsFrontier times cmp) (sym upper) l.1.0.frontier;
    forward = subst (λ F. IsTrue (all_beyond times from F)) (sym upper) (all_beyond_later o from a.description.upper b.description.upper l.0.forward l.1.0.forward);
  }
    where
      upper : m.description.upper ≡ b.description.upper
      upper = ap (λ (d : DescriptionState T). d.upper) is.described

      lower : m.description.lower ≡ a.description.lower
      lower = ap (λ (d : DescriptionState T). d.lower) is.described

      still : m.description.lower ≡ m.description.upper → m.updates ≡ []
      still e =
          let none : a.updates ++ (b.updates ++ []) ≡ [] = stays o total worker node from (a ∷ b ∷ []) f l (sym upper ∙ sym e ∙ lower ∙ l.0.continues.2) in
          let empty : a.updates ++ b.updates ≡ [] = ap (λ us. a.updates ++ us) (sym (append-nil b.updates)) ∙ none in
          none_left m.updates (is.among (λ r t. false) (λ r t u l k. k) (subst (λ us. IsTrue (list_all (λ (u : Update T). false) us)) (sym empty) refl))

  -- linked batches stay linked
  pub linked_merged : (i : ℕ) (m : BatchState T) (from : List T) (bs : List (BatchState T)) → IsFrontier times cmp from → IsMergeAt times since m i bs → AreLinked times cmp worker node from bs → AreLinked times cmp worker node from (merged_at i m bs)
  linked_merged i m from [] f is l = tt
  linked_merged zero m from (a ∷ []) f is l = l
  linked_merged zero m from (a ∷ b ∷ bs) f is l =
      let one = is a b refl refl in
      let upper = ap (λ (d : DescriptionState T). d.upper) one.described in
      (link_for_two from m a b f one (l.0, (l.1.0, tt)), subst (λ F. AreLinked times cmp worker node F bs) (sym upper) l.1.1)
  linked_merged (suc i) m from (a ∷ bs) f is l = (l.0, linked_merged i m a.description.upper bs l.0.frontier is l.1)

module _ {T : Type 0} {times : Times T} {cmp : T → T → Ordering} (o : PartialOrderLaws times) (total : IsTotalOrder cmp) (since : List T) where
  -- a batch list stays one
  pub list_merged : (worker node : ℕ) (start : List T) (bs : List (BatchState T)) (i : ℕ) (m : BatchState T) (old new : Bool) → IsBatchList times cmp (record { worker = worker; node = node; start = start; batches = bs; reserved = old }) → IsMergeAt times since m i bs → IsBatchList times cmp (record { worker = worker; node = node; start = start; batches = merged_at i m bs; reserved = new })
  list_merged worker node start bs i m old new is one = record { start = is.start; linked = linked_merged o total worker node since i m start bs is.start one is.linked }

module _ {T : Type 0} where
  -- two parts of a batch list that changed
  pub same_merged : (s t : BatchListState T) (i : ℕ) (m : BatchState T) (bs : List (BatchState T)) (reserved : Bool) → s ≡ t → bs ≡ merged_at i m s.batches → reserved ≡ true → record s { batches = bs; reserved = reserved } ≡ record t { batches = merged_at i m t.batches; reserved = true }
  same_merged s t i m bs reserved e f r = (λ k. record s { batches = f k; reserved = r k }) ∙ ap (λ (x : BatchListState T). record x { batches = merged_at i m x.batches; reserved = true }) e

-- a merge that has read both batches makes one batch for two
pub finished_merge : {T : Type 0} {times : Times T} (o : PartialOrderLaws times) (l : LatticeLaws times) (since : List T) (m a b : BatchState T)
    → m.description ≡ record { worker = a.description.worker; node = a.description.node; lower = a.description.lower; upper = b.description.upper; since = since }
    → StandFor m.updates (compacted times since (a.updates ++ b.updates))
    → IsMergeOf times since m a b
finished_merge {times = times} o l since m a b described stand =
    merge_of times since m a b described
    (stand_sums o l since m.updates (a.updates ++ b.updates) stand)
    (stand_upward o l since m.updates (a.updates ++ b.updates) stand)
    (stand_size o l since m.updates (a.updates ++ b.updates) stand)

-- what may be read as of a frontier may be read as of a later one, so a merge that began as of an
-- earlier since is one
pub merge_later : {T : Type 0} {times : Times T} (o : PartialOrderLaws times) (first since : List T) (m a b : BatchState T) → IsTrue (all_beyond times first since) → IsMergeOf times first m a b → IsReadable times since m.updates (a.updates ++ b.updates)
merge_later {times = times} o first since m a b later is = readable_later times o first since m.updates (a.updates ++ b.updates) later is.reads

-- ---- one batch for one

module _ {T : Type 0} {times : Times T} (cmp : T → T → Ordering) (worker node : ℕ) (since : List T) where
  -- a rewritten batch goes on where the old one begins
  link_for_one : (from : List T) (m a : BatchState T) → IsRewriteOf times since m a → IsLink times cmp worker node from a → IsLink times cmp worker node from m
  link_for_one from m a is l = record {
    continues = (
      ap (λ (d : DescriptionState T). d.worker) is.described ∙ l.continues.0,
      ap (λ (d : DescriptionState T). d.node) is.described ∙ l.continues.1,
      lower ∙ l.continues.2,
    );
    still = still;
    frontier = subst (IsFrontier times cmp) (sym upper) l.frontier;
    forward = subst (λ F. IsTrue (all_beyond times from F)) (sym upper) l.forward;
  }
    where
      upper : m.description.upper ≡ a.description.upper
      upper = ap (λ (d : DescriptionState T). d.upper) is.described

      lower : m.description.lower ≡ a.description.lower
      lower = ap (λ (d : DescriptionState T). d.lower) is.described

      still : m.description.lower ≡ m.description.upper → m.updates ≡ []
      still e =
          let empty : a.updates ≡ [] = l.still (sym lower ∙ e ∙ upper) in
          none_left m.updates (is.among (λ r t. false) (λ r t u l k. k) (subst (λ us. IsTrue (list_all (λ (u : Update T). false) us)) (sym empty) refl))

  -- linked batches stay linked
  linked_rewritten : (i : ℕ) (m : BatchState T) (from : List T) (bs : List (BatchState T)) → IsRewriteAt times since m i bs → AreLinked times cmp worker node from bs → AreLinked times cmp worker node from (set bs i m)
  linked_rewritten i m from [] is l = tt
  linked_rewritten zero m from (a ∷ bs) is l =
      let one = is a refl in
      (link_for_one from m a one l.0, subst (λ F. AreLinked times cmp worker node F bs) (sym (ap (λ (d : DescriptionState T). d.upper) one.described)) l.1)
  linked_rewritten (suc i) m from (a ∷ bs) is l = (l.0, linked_rewritten i m a.description.upper bs is l.1)

-- a batch list stays one if a batch is rewritten
pub list_rewritten : {T : Type 0} {times : Times T} (cmp : T → T → Ordering) (since : List T) (s : BatchListState T) (i : ℕ) (m : BatchState T) → IsBatchList times cmp s → IsRewriteAt times since m i s.batches → IsBatchList times cmp (record s { batches = set s.batches i m })
list_rewritten cmp since s i m is one = record { start = is.start; linked = linked_rewritten cmp s.worker s.node since i m s.start s.batches one is.linked }

-- the rewriting of a batch that has read it makes one batch for one
pub finished_rewrite : {T : Type 0} {times : Times T} (o : PartialOrderLaws times) (l : LatticeLaws times) (since : List T) (m a : BatchState T)
    → m.description ≡ record a.description { since = since }
    → StandFor m.updates (compacted times since (a.updates ++ []))
    → IsRewriteOf times since m a
finished_rewrite {times = times} o l since m a described both =
    let stand = subst (λ us. StandFor m.updates (compacted times since us)) (append-nil a.updates) both in
    let upward = stand_upward o l since m.updates a.updates stand in
    record {
      described = described;
      reads = record {
        sums = stand_sums o l since m.updates a.updates stand;
        rows = λ p h. upward (λ r t. p r) (λ r t u l k. k) h;
        smaller = stand_size o l since m.updates a.updates stand;
      };
      among = upward;
    }

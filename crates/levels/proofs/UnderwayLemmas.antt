-- What a merge reads, how far it has read, and what it makes. Both kinds of merges are one here:
-- the merge of two lists of updates, of which the second is empty if a batch is rewritten.
use Rattle.std.proofs.Common.{◌≡◌, ◌⊎◌, ℕ, zero, suc, ◌+◌, ◌-◌, ◌≤◌, ◌<◌, Bool, true, false, List, [], ◌∷◌, ◌++◌, take, drop, length, slice_get, get_or, Some, inl, inr, ⊎_elim, refl, sym, ◌∙◌, ap, subst, arith}
use Rattle.std.specs.declared.cmp.Ordering.{Ordering}
use Rattle.std.proofs.lemmas.List.{append-nil}
use Rattle.std.proofs.lemmas.Bool.{true≢false}
use Rattle.std.proofs.lemmas.Option.{slice_get_read}
use Rattle.lattice.specs.Times.{Times}
use Rattle.lattice.specs.Order.{PartialOrderLaws, LatticeLaws}
use Rattle.update.specs.declared.change.Update.{Update}
use Rattle.update.specs.Updates.{HasLargeTotal}
use Rattle.update.specs.Refusals.{IsMemoryOrOverflow}
use Rattle.update.specs.declared.refusal.Refusal.{Refusal}
use Rattle.batch.specs.Compaction.{StandFor, compacted}
use Rattle.batch.specs.Descriptions.{BatchState, DescriptionState}
use Rattle.batch.specs.Merges.{MergingState, IsUnderway, IsRead}
use Rattle.trace.specs.Readings.{all_content}
use Rattle.trace.specs.BatchLists.{BatchListState, IsMergeOf, IsRewriteOf, updates_of}
use Rattle.trace.proofs.BoundaryLemmas.{some_same, none_some}
use Rattle.trace.proofs.NeighbourLemmas.{finished_merge, finished_rewrite}
use Rattle.levels.proofs.PlaceLemmas.{in_within}
use Rattle.levels.specs.Levels.{UnderwayState, Merged, Rewritten, width_of, read_of, sources_of, unread_of, IsSameMerge, IsChangeAs, HasLargeSources, IsOf, IsOfTwo, IsOfOne, IsIn, IsAt}

module _ {T : Type 0} where
  sources_two : (bs : List (BatchState T)) (i : ℕ) (a b : BatchState T) → slice_get bs i ≡ Some a → slice_get bs (suc i) ≡ Some b → all_content updates_of (take 2 (drop i bs)) ≡ a.updates ++ b.updates
  sources_two [] i a b e f = absurd (none_some e)
  sources_two (x ∷ []) zero a b e f = absurd (none_some f)
  sources_two (x ∷ y ∷ bs) zero a b e f =
      ap (λ us. x.updates ++ us) (append-nil y.updates)
      ∙ ap (λ (z : BatchState T). z.updates ++ y.updates) (some_same e)
      ∙ ap (λ (z : BatchState T). a.updates ++ z.updates) (some_same f)
  sources_two (x ∷ bs) (suc i) a b e f = sources_two bs i a b e f

  sources_one : (bs : List (BatchState T)) (i : ℕ) (a : BatchState T) → slice_get bs i ≡ Some a → all_content updates_of (take 1 (drop i bs)) ≡ a.updates ++ []
  sources_one [] i a e = absurd (none_some e)
  sources_one (x ∷ bs) zero a e = ap (λ (z : BatchState T). z.updates ++ []) (some_same e)
  sources_one (x ∷ bs) (suc i) a e = sources_one bs i a e

  all_length : (us vs : List (Update T)) → length (us ++ vs) ≡ length us + length vs
  all_length [] vs = omega arith
  all_length (u ∷ us) vs = let r = all_length us vs in omega (arith, r)

  -- a changed list, whether or not there is memory for one more batch
  pub same_reserved : (s t : BatchListState T) (bs : List (BatchState T)) (r : Bool) → s ≡ record t { batches = bs; reserved = r } → s ≡ record t { batches = bs; reserved = s.reserved }
  same_reserved s t bs r e = e ∙ (λ k. record t { batches = bs; reserved = sym (ap (λ (x : BatchListState T). x.reserved) e) k })

module _ {T : Type 0} (times : Times T) (cmp : T → T → Ordering) where
  -- a merge reads these two lists, and each merge of them with its place is at its place too
  pub record HasSources (bs : List (BatchState T)) (u : UnderwayState T) (d : DescriptionState T) (us vs : List (Update T)) : Type 0 where
    pub of : IsOf times cmp d us vs u.merging
    pub sources : sources_of bs u ≡ us ++ vs
    pub back : (m : MergingState T) → IsOf times cmp d us vs m → IsAt times cmp bs (record u { merging = m })

  -- the merge of two batches, and where these are
  pub record TwoHere (bs : List (BatchState T)) (u : UnderwayState T) (x y : BatchState T) : Type 0 where
    pub two : u.alone ≡ false
    pub here : slice_get bs u.number ≡ Some x
    pub next : slice_get bs (suc u.number) ≡ Some y
    pub has : HasSources bs u (record x.description { upper = y.description.upper }) x.updates y.updates

  -- the rewriting of one batch, and where this is
  pub record OneHere (bs : List (BatchState T)) (u : UnderwayState T) (x : BatchState T) : Type 0 where
    pub one : u.alone ≡ true
    pub here : slice_get bs u.number ≡ Some x
    pub has : HasSources bs u x.description x.updates []

  two_in : (bs : List (BatchState T)) (alone : Bool) (n : ℕ) (m : MergingState T) (x y : BatchState T) → alone ≡ false → slice_get bs n ≡ Some x → slice_get bs (suc n) ≡ Some y → IsIn times cmp alone n m bs
      → HasSources bs (record { number = n; alone = alone; merging = m }) (record x.description { upper = y.description.upper }) x.updates y.updates
  two_in bs true n m x y e f g is = absurd (true≢false e)
  two_in bs false n m x y e f g is = record {
    of =
        subst (λ (z : BatchState T). IsOfTwo times cmp z y m) (some_same (sym is.2 ∙ f))
        (subst (λ (z : BatchState T). IsOfTwo times cmp is.0 z m) (some_same (sym is.3 ∙ g)) is.4);
    sources = sources_two bs n x y f g;
    back = λ k of. (x, y, f, g, of);
  }

  one_in : (bs : List (BatchState T)) (alone : Bool) (n : ℕ) (m : MergingState T) (x : BatchState T) → alone ≡ true → slice_get bs n ≡ Some x → IsIn times cmp alone n m bs
      → HasSources bs (record { number = n; alone = alone; merging = m }) x.description x.updates []
  one_in bs false n m x e f is = absurd (true≢false (sym e))
  one_in bs true n m x e f is = record {
    of = subst (λ (z : BatchState T). IsOfOne times cmp z m) (some_same (sym is.1 ∙ f)) is.2;
    sources = sources_one bs n x f;
    back = λ k of. (x, f, of);
  }

  -- both batches of a merge are within the list
  pub two_within : (bs cs : List (BatchState T)) (u w : UnderwayState T) → bs ≡ cs → u ≡ w → w.alone ≡ false → IsAt times cmp cs w → suc u.number < length bs
  two_within bs cs u w same e two is =
      let l = in_within times cmp w.alone w.number w.merging cs is in
      let width = ap width_of two in
      let n = ap (λ (v : UnderwayState T). v.number) e in
      let all = ap length same in
      omega (arith, l, width, n, all)

  -- the batch of a rewriting is within the list
  pub one_within : (bs cs : List (BatchState T)) (u w : UnderwayState T) → bs ≡ cs → u ≡ w → w.alone ≡ true → IsAt times cmp cs w → u.number < length bs
  one_within bs cs u w same e one is =
      let l = in_within times cmp w.alone w.number w.merging cs is in
      let width = ap width_of one in
      let n = ap (λ (v : UnderwayState T). v.number) e in
      let all = ap length same in
      omega (arith, l, width, n, all)

  -- what is read at the place of a merge are its two batches
  pub two_here : (bs cs : List (BatchState T)) (u w : UnderwayState T) (x y : BatchState T) → bs ≡ cs → u ≡ w → w.alone ≡ false → IsAt times cmp cs w → x ≡ get_or bs u.number x → y ≡ get_or bs (u.number + 1) y → TwoHere cs u x y
  two_here bs cs u w x y same e two is f g =
      let l = two_within bs cs u w same e two is in
      let next : suc u.number ≡ u.number + 1 = omega arith in
      let at = subst (λ (v : UnderwayState T). IsAt times cmp cs v) (sym e) is in
      let alone = ap (λ (v : UnderwayState T). v.alone) e ∙ two in
      let first = subst (λ ds. slice_get ds u.number ≡ Some x) same (slice_get_read bs (length bs) u.number x refl (omega (arith, l)) f) in
      let second = subst (λ n. slice_get bs n ≡ Some y) (sym next) (slice_get_read bs (length bs) (u.number + 1) y refl (omega (arith, l)) g) in
      let behind = subst (λ ds. slice_get ds (suc u.number) ≡ Some y) same second in
      record { two = alone; here = first; next = behind; has = two_in cs u.alone u.number u.merging x y alone first behind at }

  -- what is read at the place of a rewriting is its batch
  pub one_here : (bs cs : List (BatchState T)) (u w : UnderwayState T) (x : BatchState T) → bs ≡ cs → u ≡ w → w.alone ≡ true → IsAt times cmp cs w → x ≡ get_or bs u.number x → OneHere cs u x
  one_here bs cs u w x same e one is f =
      let l = one_within bs cs u w same e one is in
      let at = subst (λ (v : UnderwayState T). IsAt times cmp cs v) (sym e) is in
      let alone = ap (λ (v : UnderwayState T). v.alone) e ∙ one in
      let first = subst (λ ds. slice_get ds u.number ≡ Some x) same (slice_get_read bs (length bs) u.number x refl (omega (arith, l)) f) in
      record { one = alone; here = first; has = one_in cs u.alone u.number u.merging x alone first at }

  in_sources : (bs : List (BatchState T)) (alone : Bool) (n : ℕ) (m : MergingState T) → IsIn times cmp alone n m bs → m.left + m.right ≤ length (all_content updates_of (take (width_of alone) (drop n bs)))
  in_sources bs true n m is =
      let l = is.2.underway in
      let e = ap length (sources_one bs n is.0 is.1) ∙ all_length is.0.updates [] in
      omega (arith, l.left, l.right, e)
  in_sources bs false n m is =
      let l = is.4.underway in
      let e = ap length (sources_two bs n is.0 is.1 is.2 is.3) ∙ all_length is.0.updates is.1.updates in
      omega (arith, l.left, l.right, e)

  -- no more is read than there is
  pub reads_within : (bs : List (BatchState T)) (u : UnderwayState T) → IsAt times cmp bs u → read_of u ≤ length (sources_of bs u)
  reads_within bs u is = in_sources bs u.alone u.number u.merging is

  -- what a merge cost that is whole
  pub put_spent : (bs : List (BatchState T)) (n u : UnderwayState T) (left fuel : ℕ) → IsAt times cmp bs n → IsAt times cmp bs u → IsSameMerge n u → read_of u + left ≡ read_of n + fuel → (left ≡ 0) ⊎ (unread_of bs u ≡ 0) → 1 ≤ left → (left - 1) + suc (unread_of bs n) ≡ fuel
  put_spent bs n u left fuel at there same e on more =
      let l = reads_within bs n at in
      let k = reads_within bs u there in
      let sources : length (sources_of bs u) ≡ length (sources_of bs n) = ap (λ (v : UnderwayState T). length (sources_of bs v)) same.place in
      ⊎_elim (λ none. absurd (omega (arith, none, more))) (λ none. omega (arith, l, k, sources, e, none, more)) on

  module _ (bs : List (BatchState T)) (u : UnderwayState T) (d : DescriptionState T) (us vs : List (Update T)) (has : HasSources bs u d us vs) where
    -- a merge that goes on stays at its place
    pub stepped_at : (m : MergingState T) → m.description ≡ u.merging.description → IsUnderway times cmp us vs m → IsAt times cmp bs (record u { merging = m })
    stepped_at m e is = has.back m (record {
      described = e ∙ has.of.described ∙ ap (λ (f : DescriptionState T). record d { since = f.since }) (sym e);
      underway = is;
    })

    -- a merge that has read both lists has nothing to read
    pub stepped_all : (m : MergingState T) → IsRead us vs m → unread_of bs (record u { merging = m }) ≡ 0
    stepped_all m is =
        let e = ap length has.sources ∙ all_length us vs in
        omega (arith, e, is.left, is.right)

    module _ (w : UnderwayState T) (same : u ≡ w) where
      -- a merge that has nothing to read has read both lists
      pub all_read : unread_of bs w ≡ 0 → IsRead us vs u.merging
      all_read nothing =
          let none = subst (λ (v : UnderwayState T). unread_of bs v ≡ 0) (sym same) nothing in
          let e = ap length has.sources ∙ all_length us vs in
          let l = has.of.underway in
          record { left = omega (arith, e, none, l.left, l.right); right = omega (arith, e, none, l.left, l.right) }

      -- why a step or the end of a merge was refused
      pub refused_at : (r : Refusal) → IsMemoryOrOverflow (HasLargeTotal times (compacted times u.merging.description.since (us ++ vs))) r → IsMemoryOrOverflow (HasLargeSources times bs w) r
      refused_at r h =
          ⊎_elim (λ e. inl e) (λ large. inr (
            large.0,
            subst (λ (v : UnderwayState T). HasLargeSources times bs v) same
                (subst (λ ws. HasLargeTotal times (compacted times u.merging.description.since ws)) (sym has.sources) large.1),
          )) h

module _ {T : Type 0} {times : Times T} (cmp : T → T → Ordering) (o : PartialOrderLaws times) (l : LatticeLaws times) (bs : List (BatchState T)) (u w : UnderwayState T) (same : u ≡ w) where
  -- a merge that has read all makes one batch for two
  pub change_two : (x y merged : BatchState T) → TwoHere times cmp bs u x y → merged.description ≡ u.merging.description → StandFor merged.updates (compacted times u.merging.description.since (x.updates ++ y.updates)) → IsChangeAs times bs w (Merged u.number merged)
  change_two x y merged h e stand =
      let since = ap (λ (d : DescriptionState T). d.since) e in
      let is = subst (λ F. IsMergeOf times F merged x y) (sym since) (finished_merge o l u.merging.description.since merged x y (e ∙ h.has.of.described) stand) in
      subst (λ (v : UnderwayState T). IsChangeAs times bs v (Merged u.number merged)) same (
        h.two,
        refl,
        since,
        λ a b p q.
            subst (λ (z : BatchState T). IsMergeOf times merged.description.since merged z b) (some_same (sym h.here ∙ p))
            (subst (λ (z : BatchState T). IsMergeOf times merged.description.since merged x z) (some_same (sym h.next ∙ q)) is),
      )

  -- a rewriting that has read all makes one batch for one
  pub change_one : (x rewritten : BatchState T) → OneHere times cmp bs u x → rewritten.description ≡ u.merging.description → StandFor rewritten.updates (compacted times u.merging.description.since (x.updates ++ [])) → IsChangeAs times bs w (Rewritten u.number rewritten)
  change_one x rewritten h e stand =
      let since = ap (λ (d : DescriptionState T). d.since) e in
      let is = subst (λ F. IsRewriteOf times F rewritten x) (sym since) (finished_rewrite o l u.merging.description.since rewritten x (e ∙ h.has.of.described) stand) in
      subst (λ (v : UnderwayState T). IsChangeAs times bs v (Rewritten u.number rewritten)) same
      (h.one, refl, since, λ a p. subst (λ (z : BatchState T). IsRewriteOf times rewritten.description.since rewritten z) (some_same (sym h.here ∙ p)) is)

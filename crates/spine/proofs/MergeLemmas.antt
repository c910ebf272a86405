-- That a spine was worked on: by nothing, by a step without a change, by a change, and by more
-- work.
use Rattle.std.proofs.Common.{◌≡◌, ℕ, suc, ◌+◌, Bool, List, [], ◌∷◌, ◌++◌, length, inl, inr, ⊎_elim, refl, sym, ◌∙◌, ap, subst, arith}
use Rattle.antichain.proofs.Lists.{among_contains, contains_among}
use Rattle.lattice.specs.Times.{Times}
use Rattle.lattice.specs.Order.{PartialOrderLaws}
use Rattle.lattice.proofs.FrontierLemmas.{beyond_itself}
use Rattle.batch.specs.Descriptions.{BatchState}
use Rattle.trace.specs.BatchLists.{BatchListState, ends_of}
use Rattle.trace.specs.Holds.{HoldState}
use Rattle.levels.specs.Levels.{Change, changed}
use Rattle.spine.specs.HoldRules.{forbids}
use Rattle.spine.specs.Spines.{ProgressState, SpineState, IsAllowed, AreAllowed, IsWorked, IsWorkedOn, IsCountAfter, after, all_reads, read_by, reads_of}
use Rattle.spine.proofs.ChangeLemmas.{fewer_changed, open_changed, among_changed}
use Rattle.spine.proofs.StandLemmas.{stands_changed, stands_later, whole_changed}

module _ {T : Type 0} (times : Times T) (o : PartialOrderLaws times) where
  -- no batch was changed
  pub same_worked : (s : SpineState T) (p : ProgressState T) (copies lost : ℕ) → IsCountAfter s.progress.copied copies p.copied → read_by p.underway + lost ≡ read_by s.progress.underway + copies
      → IsWorked times copies lost s (record s { progress = p })
  same_worked s p copies lost count read = record {
    changes = [];
    allowed = tt;
    batches = refl;
    copies = copies;
    cost = omega arith;
    copied = count;
    read = omega (arith, read);
    kept = refl;
    stands = λ h st. stands_later times o s (record s { progress = p }) refl (beyond_itself o s.since) h st;
    fewer = λ u h. h;
    kept_open = λ u h f. h;
    among = λ q up h. h;
    smaller = omega arith;
  }

  -- nothing was done
  pub nothing_worked : (s : SpineState T) → IsWorkedOn times 0 s s
  nothing_worked s = record {
    lost = 0;
    worked = same_worked s s.progress 0 0 (λ l. omega (arith, l)) (omega arith);
    in_vain = omega arith;
  }

  -- one change was made
  pub change_worked : (s : SpineState T) (c : Change T) (reserved : Bool) (p : ProgressState T) (copies lost : ℕ) → IsAllowed times s.since s.holds c s.list.batches → IsCountAfter s.progress.copied copies p.copied → (reads_of c s.list.batches + read_by p.underway) + lost ≡ read_by s.progress.underway + copies
      → IsWorked times (suc copies) lost s (record s { list = record s.list { batches = changed c s.list.batches; reserved = reserved }; progress = p })
  change_worked s c reserved p copies lost is count read =
      let new : BatchListState T = record s.list { batches = changed c s.list.batches; reserved = reserved } in
      record {
        changes = c ∷ [];
        allowed = (is, tt);
        batches = refl;
        copies = copies;
        cost = omega arith;
        copied = count;
        read = omega (arith, read);
        kept = refl;
        stands = λ h st. stands_changed times o s _ s.holds c refl refl refl is h st;
        fewer = λ u h. contains_among u (ends_of s.list) (⊎_elim (λ e. inl e) (λ k. inr (fewer_changed times s.since s.holds c s.list.batches is u k)) (among_contains u (ends_of new) h));
        kept_open = λ u h k. contains_among u (ends_of new) (⊎_elim (λ e. inl e) (λ n. inr (open_changed times s.since s.holds c s.list.batches is u k n)) (among_contains u (ends_of s.list) h));
        among = among_changed times s.since s.holds c s.list.batches is;
        smaller = (whole_changed times o s.since s.holds c s.list.batches is).smaller;
      }

module _ {T : Type 0} (times : Times T) where
  -- ---- work after work

  after-append : (ms ns : List (Change T)) (bs : List (BatchState T)) → after (ms ++ ns) bs ≡ after ms (after ns bs)
  after-append [] ns bs = refl
  after-append (m ∷ ms) ns bs = ap (changed m) (after-append ms ns bs)

  reads-append : (ms ns : List (Change T)) (bs : List (BatchState T)) → all_reads (ms ++ ns) bs ≡ all_reads ms (after ns bs) + all_reads ns bs
  reads-append [] ns bs = omega arith
  reads-append (m ∷ ms) ns bs =
      let h = reads-append ms ns bs in
      let e = ap (reads_of m) (after-append ms ns bs) in
      omega (arith, h, e)

  length-append : (ms ns : List (Change T)) → length (ms ++ ns) ≡ length ms + length ns
  length-append [] ns = omega arith
  length-append (m ∷ ms) ns = let h = length-append ms ns in omega (arith, h)

  allowed-append : (since : List T) (holds : List (HoldState T)) (ms ns : List (Change T)) (bs : List (BatchState T)) → AreAllowed times since holds ms (after ns bs) → AreAllowed times since holds ns bs → AreAllowed times since holds (ms ++ ns) bs
  allowed-append since holds [] ns bs a b = b
  allowed-append since holds (m ∷ ms) ns bs a b = (
    subst (IsAllowed times since holds m) (sym (after-append ms ns bs)) a.0,
    allowed-append since holds ms ns bs a.1 b,
  )

  -- work after work is work
  pub more_worked : (m n j k : ℕ) (r s t : SpineState T) → IsWorked times m j r s → IsWorked times n k s t → IsWorked times (m + n) (j + k) r t
  more_worked m n j k r s t v w = record {
    changes = w.changes ++ v.changes;
    allowed = allowed-append r.since r.holds w.changes v.changes r.list.batches
        (subst (λ (bs : List (BatchState T)). AreAllowed times r.since r.holds w.changes bs) v.batches
        (subst (λ F. AreAllowed times F r.holds w.changes s.list.batches) (ap (λ (x : SpineState T). x.since) v.kept)
        (subst (λ hs. AreAllowed times s.since hs w.changes s.list.batches) (ap (λ (x : SpineState T). x.holds) v.kept) w.allowed)))
        v.allowed;
    batches = w.batches ∙ ap (after w.changes) v.batches ∙ sym (after-append w.changes v.changes r.list.batches);
    copies = v.copies + w.copies;
    cost =
        let a = v.cost in
        let b = w.cost in
        let e = length-append w.changes v.changes in
        omega (arith, a, b, e);
    copied =
        λ l.
        let c = v.copied l in
        let d = w.copied (omega (arith, c)) in
        omega (arith, c, d);
    read =
        let a = reads-append w.changes v.changes r.list.batches in
        let b = ap (all_reads w.changes) v.batches in
        let c = v.read in
        let d = w.read in
        omega (arith, a, b, c, d);
    kept = w.kept ∙ ap (λ (x : SpineState T). record x { list = record x.list { batches = t.list.batches; reserved = t.list.reserved }; progress = t.progress }) v.kept;
    stands = λ h st. w.stands h (v.stands h st);
    fewer = λ u h. v.fewer u (w.fewer u h);
    kept_open = λ u h k. w.kept_open u (v.kept_open u h k) (ap (λ (x : SpineState T). forbids times x.holds u) v.kept ∙ k);
    among = λ p up h. w.among p up (v.among p up h);
    smaller =
        let a = v.smaller in
        let b = w.smaller in
        omega (arith, a, b);
  }

  pub more_worked_on : (m n : ℕ) (r s t : SpineState T) → IsWorkedOn times m r s → IsWorkedOn times n s t → IsWorkedOn times (m + n) r t
  more_worked_on m n r s t v w = record {
    lost = v.lost + w.lost;
    worked = more_worked m n v.lost w.lost r s t v.worked w.worked;
    in_vain =
        let a = v.in_vain in
        let b = w.in_vain in
        omega (arith, a, b);
  }

-- What is wanted less what was given, gathered, corrects; and what a number that is too large says.
use Rattle.std.proofs.Common.{◌≡◌, ◌≢◌, ℕ, ◌≤◌, Bool, true, false, cond, ◌&&◌, List, [], ◌∷◌, ◌++◌, map, take, sym, refl, ap, ◌∙◌, subst, inl, arith, w64}
use Rattle.std.specs.Prelude.{IsTrue, FitsSigned}
use Rattle.std.specs.List.{filter, list_all, list_any, AllByRecursion}
use Rattle.std.specs.List.Sorted.{IsStrictlySortedBy}
use Rattle.std.specs.Cmp.{IsTotalOrder}
use Rattle.std.specs.declared.cmp.Ordering.{Ordering}
use Rattle.std.specs.declared.cmp.Ordering.TheVariants.{Less, Equal, Greater}
use Rattle.std.specs.Cmp.Lexicographic.{slice_cmp}
use Rattle.std.specs.Ordering.{int_cmp, ordering_then, ordering_reverse}
use Rattle.std.proofs.lemmas.Int.{ints}
use Rattle.std.proofs.lemmas.Bool.{and_parts, and_from}
use Rattle.std.proofs.Math.IntN.{ℤ, pos, ◌+ℤ◌, neg_ℤ}
use Rattle.lattice.specs.Times.{Times}
use Rattle.lattice.specs.Order.{PartialOrderLaws}
use Rattle.update.specs.Bags.{Entry, count_of, Alike, IsBag, same_row, bag_size}
use Rattle.update.specs.Updates.{entry, as_of, size, AreApart, is_doubled, HasLargeTotal, IsConsolidated, by_time_then_row}
use Rattle.update.specs.declared.change.Update.{Update}
use Rattle.update.proofs.UniqueLemmas.{not_in_order}
use Rattle.plan.specs.Reductions.{has_key}
use Rattle.plan.specs.Operators.{negated_entry}
use Rattle.plan.proofs.CountLemmas.{row_same, count_of-append, count_of-negated_entry}
use Rattle.joined_times.specs.Joined.{of_key}
use Rattle.correction.specs.Evaluations.{IsDraft}
use Rattle.correction.specs.Corrections.{IsTooLarge, IsTooMuch, HasLargeChange, Corrects, AllAt, put, had}
use Rattle.correction.proofs.JoinedLemmas.{sum_at-append}
use Rattle.correction.proofs.KeyedLemmas.{rows_pass, had_own}
use Rattle.correction.proofs.CorrectionLemmas.{as_of-keyed, had-alike, as_of-put, change, change-count, change-keyed, large_draft, at_key, entry_weight, entry_weight_is, weight, weight_is}

-- the size of a list's sum at a time is within that of the list
pub had_small : {T : Type 0} (times : Times T) (k : ℕ) (key : List ℤ) (t : T) (us : List (Update T)) → bag_size (had times k key t us) ≤ size us
had_small {T} times k key t us =
    let h = go us in
    let a = entry_weight_is (had times k key t us) in
    let b = weight_is us in
    omega (arith, h, a, b)
  where
    go : (us : List (Update T)) → entry_weight (had times k key t us) ≤ weight us
    go [] = omega arith
    go (u ∷ us) = step (times.below u.time t) (go us)
      where
        kept : (c : Bool) → entry_weight (had times k key t us) ≤ weight us → entry_weight (cond c (record { row = u.row; count = u.diff } ∷ had times k key t us) (had times k key t us)) ≤ weight (u ∷ us)
        kept true h = omega (arith, h)
        kept false h = omega (arith, h)

        step : (b : Bool) → entry_weight (had times k key t us) ≤ weight us → entry_weight (filter (has_key k key) (map (λ (v : Update T). record { row = v.row; count = v.diff }) (cond b (u ∷ filter (λ v. times.below v.time t) us) (filter (λ v. times.below v.time t) us)))) ≤ weight (u ∷ us)
        step false h = omega (arith, h)
        step true h = kept (same_row (take k u.row) key) h

module _ {T : Type 0} {times : Times T} (o : PartialOrderLaws times) where
  pub apart_consolidated : {cmp : T → T → Ordering} → IsTotalOrder cmp → (us : List (Update T)) → IsStrictlySortedBy (by_time_then_row cmp) us → AreApart times us
  unfolding IsStrictlySortedBy
  apart_consolidated total [] s = tt
  apart_consolidated {cmp} total (u ∷ us) s = (none us s.0, apart_consolidated total us s.1)
    where
      none : (vs : List (Update T)) → AllByRecursion (λ v. by_time_then_row cmp u v ≡ Less) vs → list_any (is_doubled times u) vs ≡ false
      none [] a = refl
      none (v ∷ vs) a = step (is_doubled times u v) refl (none vs a.1)
        where
          step : (b : Bool) → is_doubled times u v ≡ b → list_any (is_doubled times u) vs ≡ false → list_any (is_doubled times u) (v ∷ vs) ≡ false
          step false e h = rw e h
          step true e h =
              let p = and_parts (times.below u.time v.time && times.below v.time u.time) (same_row u.row v.row) e in
              let q = and_parts (times.below u.time v.time) (times.below v.time u.time) p.0 in
              absurd (not_in_order o total u v (sym (row_same u.row v.row p.1)) (o.antisymmetric v.time u.time q.1 q.0) a.0)

  module _ (k : ℕ) (key : List ℤ) (t : T) where
    pub all_at : (us : List (Update T)) → IsTrue (list_all (λ u. at_key times k key t u.row u.time) us) → AllAt k key t us
    all_at [] a = tt
    all_at (u ∷ us) a =
        let h = and_parts (at_key times k key t u.row u.time) (list_all (λ u. at_key times k key t u.row u.time) us) a in
        let p = and_parts (same_row (take k u.row) key) (times.below u.time t && times.below t u.time) h.0 in
        let q = and_parts (times.below u.time t) (times.below t u.time) p.1 in
        (row_same (take k u.row) key p.0, o.antisymmetric u.time t q.0 q.1, all_at us h.1)

    -- ---- a consolidated list at one time is a bag

    abbrev at_time : T → Bool
    at_time s = times.below s t && times.below t s

    put_at_time : (es : List Entry) → IsTrue (list_all (λ u. at_time u.time) (put t es))
    put_at_time [] = refl
    put_at_time (e ∷ es) = and_from (at_time t) (list_all (λ u. at_time u.time) (put t es)) (and_from (times.below t t) (times.below t t) (o.reflexive t) (o.reflexive t)) (put_at_time es)

    at_is : (s : T) → IsTrue (at_time s) → s ≡ t
    at_is s h = let q = and_parts (times.below s t) (times.below t s) h in o.antisymmetric s t q.0 q.1

    sum_is : (us : List (Update T)) → IsTrue (list_all (λ u. at_time u.time) us) → as_of times t us ≡ map entry us
    sum_is [] a = refl
    sum_is (u ∷ us) a =
        let h = and_parts (at_time u.time) (list_all (λ u. at_time u.time) us) a in
        let q = and_parts (times.below u.time t) (times.below t u.time) h.0 in
        rw q.0 (ap (λ z. entry u ∷ z) (sum_is us h.1))

    module _ {cmp : T → T → Ordering} (total : IsTotalOrder cmp) where
      self_equal : (s : T) → cmp s s ≡ Equal
      self_equal s =
          elim (cmp s s) as (λ z. z ≡ ordering_reverse z → z ≡ Equal) [
            | Less ↦ λ e. cc
            | Equal ↦ λ e. refl
            | Greater ↦ λ e. cc
          ] (total.antisymm s s)

      by_row_alone : (u v : Update T) → u.time ≡ t → v.time ≡ t → by_time_then_row cmp u v ≡ Less → slice_cmp int_cmp u.row v.row ≡ Less
      by_row_alone u v a b h =
          let same : cmp u.time v.time ≡ Equal = ap (λ z. cmp z v.time) (a ∙ sym b) ∙ self_equal v.time in
          sym (ap (λ z. ordering_then z (slice_cmp int_cmp u.row v.row)) same) ∙ h

      rows_ascend : (us : List (Update T)) → IsTrue (list_all (λ u. at_time u.time) us) → IsStrictlySortedBy (by_time_then_row cmp) us → IsStrictlySortedBy (λ a b. slice_cmp int_cmp a.row b.row) (map entry us)
      unfolding IsStrictlySortedBy
      rows_ascend [] a s = tt
      rows_ascend (u ∷ us) a s =
          let h = and_parts (at_time u.time) (list_all (λ u. at_time u.time) us) a in
          (each us h.1 s.0, rows_ascend us h.1 s.1)
        where
          each : (vs : List (Update T)) → IsTrue (list_all (λ u. at_time u.time) vs) → AllByRecursion (λ v. by_time_then_row cmp u v ≡ Less) vs → AllByRecursion (λ e. slice_cmp int_cmp u.row e.row ≡ Less) (map entry vs)
          each [] b r = tt
          each (v ∷ vs) b r =
              let h = and_parts (at_time u.time) (list_all (λ u. at_time u.time) us) a in
              let g = and_parts (at_time v.time) (list_all (λ u. at_time u.time) vs) b in
              (by_row_alone u v (at_is u.time h.0) (at_is v.time g.0) r.0, each vs g.1 r.1)

      some_count : (us : List (Update T)) → AllByRecursion (λ u. u.diff ≢ pos 0) us → AllByRecursion (λ e. e.count ≢ pos 0) (map entry us)
      some_count [] h = tt
      some_count (u ∷ us) h = (h.0, some_count us h.1)

      bag_there : (us : List (Update T)) → IsTrue (list_all (λ u. at_time u.time) us) → IsConsolidated cmp us → IsBag (map entry us)
      bag_there us a c = record { ascending = rows_ascend us a c.ascending; nonzero = some_count us c.nonzero }

      both_tests : (us : List (Update T)) → IsTrue (list_all (λ u. at_time u.time) us) → IsTrue (list_all (λ e. same_row (take k e.row) key) (map entry us)) → IsTrue (list_all (λ u. at_key times k key t u.row u.time) us)
      both_tests [] a b = refl
      both_tests (u ∷ us) a b =
          let h = and_parts (at_time u.time) (list_all (λ u. at_time u.time) us) a in
          let g = and_parts (same_row (take k u.row) key) (list_all (λ e. same_row (take k e.row) key) (map entry us)) b in
          and_from (at_key times k key t u.row u.time) (list_all (λ u. at_key times k key t u.row u.time) us) (and_from (same_row (take k u.row) key) (at_time u.time) g.0 h.0) (both_tests us h.1 g.1)

    -- what is too large of a key's rows is so of all that was taken
    pub too_large : (reduce : List ℤ → List Entry → List Entry) (content given rows : List (Update T)) → rows ≡ filter (of_key k key) content → IsTooLarge (as_of times t rows) → IsTooMuch times k reduce content given key t
    too_large reduce content given rows e h = inl (subst IsTooLarge (ap (as_of times t) e ∙ as_of-keyed times k key t content) h)

    module _ (reduce : List ℤ → List Entry → List Entry) (content given rows : List (Update T)) (want : List Entry) (own : IsTrue (list_all (of_key k key) given)) (draft : List (Update T)) (d : IsDraft times t want given draft) where
      -- the draft's entries are those of the change
      drafted : Alike d.entries (change times k key want t given)
      drafted row = d.adds_up row ∙ ap (λ z. count_of (want ++ map negated_entry z) row) (sym (had_own times k key t given own))

      module _ {cmp : T → T → Ordering} (total : IsTotalOrder cmp) (more : List (Update T)) (c : IsConsolidated cmp more)
          (among : (p : List ℤ → T → Bool) → IsTrue (list_all (λ u. p u.row u.time) draft) → IsTrue (list_all (λ u. p u.row u.time) more))
          (sums : (s : T) → Alike (as_of times s more) (as_of times s draft)) where
        there : IsTrue (list_all (λ u. at_time u.time) more)
        there = among (λ _ s. at_time s) (subst (λ z. IsTrue (list_all (λ u. at_time u.time) z)) (sym d.draft_is) (put_at_time d.entries))

        -- at the time they add up to what is wanted less what was given
        changes : (row : List ℤ) → count_of (as_of times t more) row ≡ count_of want row +ℤ neg_ℤ (count_of (as_of times t given) row)
        changes row =
            sums t row
            ∙ (ap (λ z. count_of (as_of times t z) row) d.draft_is
            ∙ (ap (λ z. count_of z row) (as_of-put times k key t (o.reflexive t) d.entries)
            ∙ (d.adds_up row ∙ (count_of-append want (map negated_entry (as_of times t given)) row ∙ ap (λ z. count_of want row +ℤ z) (count_of-negated_entry (as_of times t given) row)))))

        settle : (x y : ℤ) → x +ℤ (y +ℤ neg_ℤ x) ≡ y
        settle x y = omega (arith, ints)

        -- with them all that was given adds up to what is wanted
        pub wanted_there : Alike want (as_of times t (given ++ more))
        wanted_there row =
            sym (sum_at-append times t given more row ∙ (ap (λ z. count_of (as_of times t given) row +ℤ z) (changes row) ∙ settle (count_of (as_of times t given) row) (count_of want row)))

        module _ (e : rows ≡ filter (of_key k key) content) (v : (entries : List Entry) → Alike (as_of times t rows) entries → Alike want (reduce key entries)) (a : IsTrue (list_all (has_key k key) want)) where
          pub corrects : Corrects times k reduce content given key t more
          corrects = record {
            at = all_at more (both_tests total more there (rows_pass (λ row. same_row (take k row) key) (map entry more) (change times k key want t given) (bag_there total more there c) alike (change-keyed times k key want t given a)));
            apart = apart_consolidated total more c.ascending;
            right = λ taken s row n.
                let same : Alike (as_of times t rows) (had times k key t taken) = λ r. ap (λ z. count_of z r) (ap (as_of times t) e ∙ as_of-keyed times k key t content) ∙ had-alike times k key t content taken s r in
                sym (wanted_there row) ∙ v (had times k key t taken) same row;
          }
            where
              alike : Alike (map entry more) (change times k key want t given)
              alike row =
                  ap (λ z. count_of z row) (sym (sum_is more there))
                  ∙ (sums t row ∙ (ap (λ z. count_of (as_of times t z) row) d.draft_is ∙ (ap (λ z. count_of z row) (as_of-put times k key t (o.reflexive t) d.entries) ∙ drafted row)))

      pub too_far : rows ≡ filter (of_key k key) content
          → ((entries : List Entry) → Alike (as_of times t rows) entries → Alike want (reduce key entries))
          → IsTrue (list_all (has_key k key) want) → HasLargeTotal times draft → HasLargeChange times k reduce content given key t
      too_far e v a h =
          let l = large_draft times k key d.entries (change times k key want t given) t drafted (change-keyed times k key want t given a) (subst (HasLargeTotal times) d.draft_is h) in
          let w : count_of want l.0 ≡ count_of (reduce key (had times k key t content)) l.0 = v (had times k key t content) (λ r. ap (λ z. count_of z r) (ap (as_of times t) e ∙ as_of-keyed times k key t content)) l.0 in
          (l.0, l.1, λ f. l.2 (subst (FitsSigned w64) (sym (drafted l.0 ∙ (change-count times k key want t given l.0 l.1 ∙ ap (λ z. z +ℤ neg_ℤ (count_of (as_of times t given) l.0)) w))) f))

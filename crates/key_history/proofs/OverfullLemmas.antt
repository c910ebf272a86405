-- What is to change at a time, in whole numbers without bounds; and a number that is too large is
-- one of a large list: of what was taken, or of what is owed.
use Rattle.std.proofs.Common.{◌≡◌, ℕ, ◌≤◌, ◌^◌, Bool, true, false, cond, not, ◌&&◌, ◌||◌, List, [], ◌∷◌, ◌++◌, map, take, sym, refl, ap, ◌∙◌, subst, inl, inr, ◌⊎◌, ⊎_elim, arith, w64}
use Rattle.std.specs.Prelude.{IsTrue, FitsSigned, unsigned_abs}
use Rattle.std.specs.List.{filter, list_all, list_any}
use Rattle.std.proofs.lemmas.Int.{ints}
use Rattle.std.proofs.lemmas.Bool.{and_from, or_parts, true≢false}
use Rattle.std.proofs.lemmas.List.Folds.{list_all-append}
use Rattle.std.proofs.Math.IntN.{ℤ, pos, ◌+ℤ◌, neg_ℤ}
use Rattle.lattice.specs.Times.{Times}
use Rattle.lattice.specs.Order.{PartialOrderLaws}
use Rattle.update.specs.Bags.{Entry, Alike, count_of, same_row}
use Rattle.update.specs.Updates.{as_of, size, AreApart, is_doubled}
use Rattle.update.specs.declared.change.Update.{Update}
use Rattle.update.proofs.SumLemmas.{total_by-map}
use Rattle.update.proofs.TotalLemmas.{fits_zero}
use Rattle.antichain.proofs.Lists.{Among}
use Rattle.plan.specs.Changes.{has_passed}
use Rattle.plan.specs.Reductions.{has_key, IsReducer, each_once, sum_of_counts}
use Rattle.plan.proofs.CountLemmas.{row_same, row_itself, count_of-filter}
use Rattle.plan.proofs.ReductionLemmas.{total_by-once, each_once_among}
use Rattle.joined_times.specs.Joined.{Member, of_key}
use Rattle.joined_times.proofs.MemberLemmas.{in_either}
use Rattle.correction.specs.Corrections.{AllAt, Corrects, HasLargeChange, IsRight, IsTooLarge, IsTooMuch, put, had, wanted}
use Rattle.key_history.specs.Debts.{IsOwed, IsOverfull, IsOverfullAt}
use Rattle.key_history.proofs.ApartLemmas.{apart_both, doubled_is}
use Rattle.correction.proofs.JoinedLemmas.{sum_at-append}
use Rattle.correction.proofs.KeyedLemmas.{both_own, own_kept}
use Rattle.correction.proofs.CorrectionLemmas.{as_of-keyed, count-had, had-alike, as_of-put, put-at, change, change-count, count_small, entry_weight, entry_weight_is, not_fits, size_right, too_large_alike}
use Rattle.correction.proofs.CorrectLemmas.{all_at, had_small}

-- ---- a list in whole numbers without bounds: each row once, with what it counts

abbrev rows_of : List Entry → List (List ℤ)
rows_of es = map (λ e. e.row) es

abbrev counted_once : List Entry → List (List ℤ) → List Entry
counted_once es rows = map (λ row. record { row = row; count = count_of es row }) rows

abbrev pub settled : List Entry → List Entry
settled es = counted_once es (each_once (rows_of es))

absent : (es : List Entry) (row : List ℤ) → list_any (λ r. same_row r row) (rows_of es) ≡ false → count_of es row ≡ pos 0
absent [] row h = refl
absent (e ∷ es) row h =
    let p = or_parts (same_row e.row row) (list_any (λ r. same_row r row) (rows_of es)) h in
    rw (p.0, absent es row p.1) refl

pub count-settled : (es : List Entry) (row : List ℤ) → count_of (settled es) row ≡ count_of es row
count-settled es row =
    total_by-map (λ e. cond (same_row e.row row) e.count (pos 0)) (λ r. record { row = r; count = count_of es r }) (each_once (rows_of es))
    ∙ (total_by-once (λ r. cond (same_row r row) (count_of es r) (pos 0)) row (rows_of es) (λ r m d. ap (λ b. cond b (count_of es r) (pos 0)) d)
    ∙ step (list_any (λ r. same_row r row) (rows_of es)) refl)
  where
    step : (b : Bool) → list_any (λ r. same_row r row) (rows_of es) ≡ b → cond b (cond (same_row row row) (count_of es row) (pos 0)) (pos 0) ≡ count_of es row
    step true e = rw (row_itself row) refl
    step false e = sym (absent es row e)

-- each row once
abbrev AreOnce : List (List ℤ) → Type 0
AreOnce [] = Unit {0}
AreOnce (r ∷ rs) = (list_any (same_row r) rs ≡ false) × AreOnce rs

any_fewer : (r : List ℤ) (q : List ℤ → Bool) (rs : List (List ℤ)) → list_any (same_row r) rs ≡ false → list_any (same_row r) (filter q rs) ≡ false
any_fewer r q [] h = refl
any_fewer r q (x ∷ rs) h = let e = or_parts (same_row r x) (list_any (same_row r) rs) h in step (q x) e.0 (any_fewer r q rs e.1)
  where
    step : (b : Bool) → same_row r x ≡ false → list_any (same_row r) (filter q rs) ≡ false → list_any (same_row r) (cond b (x ∷ filter q rs) (filter q rs)) ≡ false
    step true e h = rw e h
    step false e h = h

once_fewer : (q : List ℤ → Bool) (rs : List (List ℤ)) → AreOnce rs → AreOnce (filter q rs)
once_fewer q [] h = h
once_fewer q (x ∷ rs) h = step (q x) (any_fewer x q rs h.0) (once_fewer q rs h.1)
  where
    step : (b : Bool) → list_any (same_row x) (filter q rs) ≡ false → AreOnce (filter q rs) → AreOnce (cond b (x ∷ filter q rs) (filter q rs))
    step true e h = (e, h)
    step false e h = h

any_others : (r : List ℤ) (rs : List (List ℤ)) → list_any (same_row r) (filter (λ o. not (same_row o r)) rs) ≡ false
any_others r [] = refl
any_others r (x ∷ rs) = step (same_row x r) refl (any_others r rs)
  where
    step : (b : Bool) → same_row x r ≡ b → list_any (same_row r) (filter (λ o. not (same_row o r)) rs) ≡ false → list_any (same_row r) (cond (not b) (x ∷ filter (λ o. not (same_row o r)) rs) (filter (λ o. not (same_row o r)) rs)) ≡ false
    step true e h = h
    step false e h = go (same_row r x) refl
      where
        go : (c : Bool) → same_row r x ≡ c → list_any (same_row r) (x ∷ filter (λ o. not (same_row o r)) rs) ≡ false
        go false f = rw f h
        go true f = absurd (true≢false (sym (ap (λ z. same_row z r) (sym (row_same r x f)) ∙ row_itself r) ∙ e))

once : (rs : List (List ℤ)) → AreOnce (each_once rs)
once [] = tt
once (r ∷ rs) = (any_others r (each_once rs), once_fewer (λ o. not (same_row o r)) (each_once rs) (once rs))

keyed_all : (k : ℕ) (key : List ℤ) (es : List Entry) (rs : List (List ℤ)) → ((r : List ℤ) → Among r rs → same_row (take k r) key ≡ true) → IsTrue (list_all (has_key k key) (counted_once es rs))
keyed_all k key es [] h = refl
keyed_all k key es (r ∷ rs) h = and_from (same_row (take k r) key) (list_all (has_key k key) (counted_once es rs)) (h r (inl refl)) (keyed_all k key es rs (λ x m. h x (inr m)))

keyed_row : (k : ℕ) (key : List ℤ) (es : List Entry) (r : List ℤ) → Among r (rows_of (filter (has_key k key) es)) → same_row (take k r) key ≡ true
keyed_row k key [] r m = absurd m
keyed_row k key (e ∷ es) r m = step (same_row (take k e.row) key) refl m (keyed_row k key es r)
  where
    step : (b : Bool) → same_row (take k e.row) key ≡ b → Among r (rows_of (cond b (e ∷ filter (has_key k key) es) (filter (has_key k key) es))) → (Among r (rows_of (filter (has_key k key) es)) → same_row (take k r) key ≡ true) → same_row (take k r) key ≡ true
    step true f (inl x) ih = ap (λ z. same_row (take k z) key) (sym x) ∙ f
    step true f (inr x) ih = ih x
    step false f x ih = ih x

module _ {T : Type 0} {times : Times T} (o : PartialOrderLaws times) (k : ℕ) (key : List ℤ) (t : T) (reduce : List ℤ → List Entry → List Entry) (content given : List (Update T)) where
  abbrev want : List Entry
  want = reduce key (had times k key t content)

  -- what is to change, in whole numbers without bounds
  abbrev entries : List Entry
  entries = filter (has_key k key) (change times k key want t given)

  abbrev pub ideal : List (Update T)
  ideal = put t (settled entries)

  ideal_count : (row : List ℤ) → same_row (take k row) key ≡ true → count_of (as_of times t ideal) row ≡ count_of want row +ℤ neg_ℤ (count_of (as_of times t given) row)
  ideal_count row d =
      ap (λ z. count_of z row) (as_of-put times k key t (o.reflexive t) (settled entries))
      ∙ (count-settled entries row
      ∙ (count_of-filter (λ r. same_row (take k r) key) (change times k key want t given) row
      ∙ (ap (λ b. cond b (count_of (change times k key want t given) row) (pos 0)) d
      ∙ change-count times k key want t given row d)))

  ideal_apart : (rs : List (List ℤ)) → AreOnce rs → AreApart times (put t (counted_once entries rs))
  ideal_apart [] a = tt
  ideal_apart (r ∷ rs) a = (none rs a.0, ideal_apart rs a.1)
    where
      none : (ys : List (List ℤ)) → list_any (same_row r) ys ≡ false → list_any (is_doubled times (record { row = r; time = t; diff = count_of entries r })) (put t (counted_once entries ys)) ≡ false
      none [] e = refl
      none (y ∷ ys) e = let p = or_parts (same_row r y) (list_any (same_row r) ys) e in step (times.below t t) p.0 (none ys p.1)
        where
          step : (b : Bool) → same_row r y ≡ false → list_any (is_doubled times (record { row = r; time = t; diff = count_of entries r })) (put t (counted_once entries ys)) ≡ false
              → ((b && b) && same_row r y || list_any (is_doubled times (record { row = r; time = t; diff = count_of entries r })) (put t (counted_once entries ys))) ≡ false
          step true e h = rw e h
          step false e h = h

  pub ideal_corrects : IsReducer k reduce → Corrects times k reduce content given key t ideal
  ideal_corrects q = record {
    at = all_at o k key t ideal (put-at times k key t (o.reflexive t) (settled entries) (keyed_all k key entries (each_once (rows_of entries)) (λ r m. keyed_row k key (change times k key want t given) r (each_once_among (rows_of entries) r m))));
    apart = ideal_apart (each_once (rows_of entries)) (once (rows_of entries));
    right = λ taken s row d.
        let w : count_of want row ≡ count_of (reduce key (had times k key t taken)) row = q.alike key (had times k key t content) (had times k key t taken) (had-alike times k key t content taken s) row in
        sum_at-append times t given ideal row ∙ (ap (λ z. count_of (as_of times t given) row +ℤ z) (ideal_count row d) ∙ (settle (count_of (as_of times t given) row) (count_of want row) ∙ w));
  }
    where
      settle : (x y : ℤ) → x +ℤ (y +ℤ neg_ℤ x) ≡ y
      settle x y = omega (arith, ints)

  pub ideal_large : (row : List ℤ) → same_row (take k row) key ≡ true → (FitsSigned w64 (wanted times k reduce content given key t row +ℤ neg_ℤ (count_of (as_of times t given) row)) → ⊥) → 2 ^ 63 ≤ size (filter (of_key k key) ideal)
  ideal_large row d h =
      let n = not_fits (count_of want row +ℤ neg_ℤ (count_of (as_of times t given) row)) h in
      let e : count_of (had times k key t (filter (of_key k key) ideal)) row ≡ count_of want row +ℤ neg_ℤ (count_of (as_of times t given) row) =
      count-had times k key t (filter (of_key k key) ideal) row d ∙ (ap (λ z. count_of z row) (as_of-keyed times k key t ideal) ∙ (count-had times k key t ideal row d ∙ ideal_count row d)) in
      let a : 2 ^ 63 ≤ unsigned_abs (count_of (had times k key t (filter (of_key k key) ideal)) row) = subst (λ z. 2 ^ 63 ≤ unsigned_abs z) (sym e) n in
      let b = count_small (had times k key t (filter (of_key k key) ideal)) row in
      let c = entry_weight_is (had times k key t (filter (of_key k key) ideal)) in
      let f = had_small times k key t (filter (of_key k key) ideal) in
      omega (arith, a, b, c, f)

-- ---- what is too large

module _ {T : Type 0} (times : Times T) (k : ℕ) (key : List ℤ) (t : T) (reduce : List ℤ → List Entry → List Entry) where
  -- it is too large after other updates of which the key's rows have the same counts there
  pub too_much_given : (content given other : List (Update T)) → ((row : List ℤ) → same_row (take k row) key ≡ true → count_of (as_of times t given) row ≡ count_of (as_of times t other) row)
      → IsTooMuch times k reduce content given key t → IsTooMuch times k reduce content other key t
  too_much_given content given other same (inl h) = inl h
  too_much_given content given other same (inr h) =
      inr (h.0, h.1, λ fits. h.2 (subst (λ z. FitsSigned w64 (wanted times k reduce content given key t h.0 +ℤ neg_ℤ z)) (sym (same h.0 h.1)) fits))

  -- and if other updates were taken that have the same sums there
  pub too_much_taken : IsReducer k reduce → (content taken given : List (Update T)) → Alike (as_of times t content) (as_of times t taken)
      → IsTooMuch times k reduce content given key t → IsTooMuch times k reduce taken given key t
  too_much_taken q content taken given same (inl h) = inl (too_large_alike (had times k key t content) (had times k key t taken) (had-alike times k key t content taken same) h)
  too_much_taken q content taken given same (inr h) =
      let w : wanted times k reduce content given key t h.0 ≡ wanted times k reduce taken given key t h.0 = q.alike key (had times k key t content) (had times k key t taken) (had-alike times k key t content taken same) h.0 in
      inr (h.0, h.1, λ fits. h.2 (subst (λ z. FitsSigned w64 (z +ℤ neg_ℤ (count_of (as_of times t given) h.0))) (sym w) fits))

  -- what is too large of a key's rows has a large size
  large_rows : (taken : List (Update T)) → IsTooLarge (had times k key t taken) → 2 ^ 63 ≤ size taken
  large_rows taken (inl h) =
      let a = not_fits (count_of (had times k key t taken) h.0) h.1 in
      let b = count_small (had times k key t taken) h.0 in
      let c = entry_weight_is (had times k key t taken) in
      let d = had_small times k key t taken in
      omega (arith, a, b, c, d)
  large_rows taken (inr h) =
      let a = not_fits (sum_of_counts (had times k key t taken)) h in
      let b = sum_small (had times k key t taken) in
      let c = entry_weight_is (had times k key t taken) in
      let d = had_small times k key t taken in
      omega (arith, a, b, c, d)
    where
      sum_small : (es : List Entry) → unsigned_abs (sum_of_counts es) ≤ entry_weight es
      sum_small [] = omega arith
      sum_small (e ∷ es) = let rest = sum_small es in omega (arith, ints, rest)

module _ {T : Type 0} (k : ℕ) (key : List ℤ) where
  pub all_at_is : (us : List (Update T)) (t : T) → AllAt k key t us → (u : Update T) → Member u us → (of_key k key u ≡ true) × (u.time ≡ t)
  all_at_is [] t a u m = absurd m
  all_at_is (x ∷ us) t a u (inl e) = (ap (λ z. same_row (take k z.row) key) e ∙ (ap (λ z. same_row z key) a.0 ∙ row_itself key), ap (λ (z : Update T). z.time) e ∙ a.1)
  all_at_is (x ∷ us) t a u (inr m) = all_at_is us t a.2 u m

all_of : {X : Type 0} (p : X → Bool) (xs : List X) → ((x : X) → Member x xs → p x ≡ true) → IsTrue (list_all p xs)
all_of p [] h = refl
all_of p (x ∷ xs) h = and_from (p x) (list_all p xs) (h x (inl refl)) (all_of p xs (λ y m. h y (inr m)))

module _ {T : Type 0} {times : Times T} (o : PartialOrderLaws times) (k : ℕ) (reduce : List ℤ → List Entry → List Entry) (q : IsReducer k reduce) (taken : List (Update T)) (front : List T)
    (key : List ℤ) (t : T) (us : List (Update T)) (x : IsOverfullAt times k reduce taken front key t us) (h : HasLargeChange times k reduce taken us key t) where
  abbrev more : List (Update T)
  more = ideal o k key t reduce taken us

  at : (v : Update T) → Member v more → (of_key k key v ≡ true) × (v.time ≡ t)
  at = all_at_is k key more t (ideal_corrects o k key t reduce taken us q).at

  own : IsTrue (list_all (of_key k key) more)
  own = all_of (of_key k key) more (λ v m. (at v m).0)

  -- where it is right nothing is to change: so none of the updates is at or after the time
  not_right : IsRight times k reduce taken us key t → ⊥
  not_right r = h.2 (subst (FitsSigned w64) (sym (none (wanted times k reduce taken us key t h.0) (count_of (as_of times t us) h.0) (r h.0 h.1))) fits_zero)
    where
      none : (w c : ℤ) → c ≡ w → w +ℤ neg_ℤ c ≡ pos 0
      none w c e = omega (arith, ints, e)

  not_after : (u : Update T) → Member u us → (b : Bool) → times.below t u.time ≡ b → times.below t u.time ≡ false
  not_after u m false e = e
  not_after u m true e = absurd (not_right (x.owed.sums u m t e))

  -- what is more is not seen at other times before
  unseen : (s : T) → times.below t s ≡ false → (vs : List (Update T)) → ((v : Update T) → Member v vs → v.time ≡ t) → as_of times s vs ≡ []
  unseen s e [] a = refl
  unseen s e (v ∷ vs) a = rw (ap (λ z. times.below z s) (a v (inl refl)) ∙ e) (unseen s e vs (λ w m. a w (inr m)))

  right_too : (s : T) → times.below t s ≡ false → IsRight times k reduce taken us key s → IsRight times k reduce taken (us ++ more) key s
  right_too s e r row d =
      sum_at-append times s us more row
      ∙ (ap (λ z. count_of (as_of times s us) row +ℤ count_of z row) (unseen s e more (λ v m. (at v m).1)) ∙ (no_more (count_of (as_of times s us) row) ∙ r row d))
    where
      no_more : (n : ℤ) → n +ℤ pos 0 ≡ n
      no_more n = omega (arith, ints)

  owed_with : IsOwed times k reduce taken key front (us ++ more)
  owed_with = record {
    keyed = both_own k key us more x.owed.keyed own;
    apart = apart_both o us more x.owed.apart (ideal_corrects o k key t reduce taken us q).apart (λ u v m n. other u v m n (is_doubled times u v) refl);
    passed = list_all-append (λ (u : Update T). has_passed times front u.time) us more ∙ and_from (list_all (λ (u : Update T). has_passed times front u.time) us) (list_all (λ (u : Update T). has_passed times front u.time) more) x.owed.passed
        (all_of (λ (u : Update T). has_passed times front u.time) more (λ v m. ap (has_passed times front) (at v m).1 ∙ x.passed));
    sums = λ u m s b. ⊎_elim (λ n. early u n s b (times.below t s) refl) (λ n. here s (subst (λ z. times.below s z ≡ true) (at u n).1 b) (times.below t s) refl) (in_either u us more m);
  }
    where
      other : (u v : Update T) → Member u us → Member v more → (b : Bool) → is_doubled times u v ≡ b → is_doubled times u v ≡ false
      other u v m n false e = e
      other u v m n true e =
          let same : u.time ≡ t = (doubled_is o u v e).1 ∙ (at v n).1 in
          absurd (true≢false (sym (subst (λ z. times.below t z ≡ true) (sym same) (o.reflexive t)) ∙ not_after u m (times.below t u.time) refl))

      early : (u : Update T) → Member u us → (s : T) → times.below s u.time ≡ true → (b : Bool) → times.below t s ≡ b → IsRight times k reduce taken (us ++ more) key s
      early u m s b false e = right_too s e (x.owed.sums u m s b)
      early u m s b true e = absurd (true≢false (sym (o.transitive t s u.time e b) ∙ not_after u m (times.below t u.time) refl))

      here : (s : T) → times.below s t ≡ true → (b : Bool) → times.below t s ≡ b → IsRight times k reduce taken (us ++ more) key s
      here s b false e = right_too s e (x.before s b e)
      here s b true e = subst (IsRight times k reduce taken (us ++ more) key) (o.antisymmetric t s e b) ((ideal_corrects o k key t reduce taken us q).right taken (λ row. refl))

  large_with : 2 ^ 63 ≤ size (us ++ more)
  large_with = size_right (2 ^ 63) us more (subst (λ z. 2 ^ 63 ≤ size z) (own_kept k key more own) (ideal_large o k key t reduce taken us h.0 h.1 h.2))

-- if a number is too large, then what was taken has a size of 2^63 or more, or a list of updates
-- that is owed of a key has
pub overfull_is_large : {T : Type 0} {times : Times T} → PartialOrderLaws times → (k : ℕ) (reduce : List ℤ → List Entry → List Entry) → IsReducer k reduce → (taken : List (Update T)) (front : List T)
    → IsOverfull times k reduce taken front
    → (2 ^ 63 ≤ size taken) ⊎ ((key : List ℤ) × (us : List (Update T)) × IsOwed times k reduce taken key front us × (2 ^ 63 ≤ size us))
overfull_is_large {T} {times} o k reduce q taken front (key, t, us, x) = step x.large
  where
    step : IsTooMuch times k reduce taken us key t → (2 ^ 63 ≤ size taken) ⊎ ((key : List ℤ) × (us : List (Update T)) × IsOwed times k reduce taken key front us × (2 ^ 63 ≤ size us))
    step (inl h) = inl (large_rows times k key t reduce taken h)
    step (inr h) = inr (key, us ++ ideal o k key t reduce taken us, owed_with o k reduce q taken front key t us x h, large_with o k reduce q taken front key t us x h)

-- What a draft has so far, and what it adds up to.
use Rattle.std.proofs.Common.{◌≡◌, ℕ, zero, suc, ◌+◌, ◌-◌, ◌<◌, ◌≤◌, ◌^◌, Bool, true, false, cond, List, [], ◌∷◌, ◌++◌, map, drop, take, get_or, length, sym, refl, ap, ◌∙◌, subst, arith, append_assoc, add-one, w64}
use Rattle.std.specs.Prelude.{slice_get, IsSomeAnd, IsTrue, FitsSigned}
use mir.Val.{of_z, to_z}
use lib.Signed.{mag}
use Rattle.std.proofs.lemmas.Int.{to_z-of_z}
use Rattle.std.proofs.Math.Dec.{eqb}
use Rattle.std.proofs.lemmas.Bool.{eqb-true}
use Rattle.std.specs.Cmp.Lexicographic.{slice_cmp}
use Rattle.std.specs.Ordering.{int_cmp}
use Rattle.std.proofs.lemmas.Int.{ints}
use Rattle.std.proofs.lemmas.List.{append-nil, map-append, take_more}
use Rattle.std.proofs.Math.IntN.{ℤ, pos, ◌+ℤ◌, neg_ℤ}
use Rattle.lattice.specs.Times.{Times}
use Rattle.lattice.specs.Order.{PartialOrderLaws}
use Rattle.update.specs.Bags.{Entry, Alike, count_of, same_row, entry_of}
use Rattle.update.specs.Updates.{entry, as_of}
use Rattle.update.specs.declared.change.Update.{Update}
use Rattle.std.specs.declared.cmp.Ordering.TheVariants.{Equal}
use Rattle.update.proofs.BagLemmas.{equal_rows}
use Rattle.plan.specs.Operators.{negated_entry}
use Rattle.plan.proofs.CountLemmas.{count_of-append, count_of-negated_entry}
use Rattle.correction.specs.Corrections.{put}
use Rattle.correction.specs.Evaluations.{Appends, IsDraft, Moves, between}
use Rattle.correction.proofs.CorrectionLemmas.{not_fits}
use Rattle.correction.proofs.EvaluationLemmas.{sum_splits, as_of-between}
use Rattle.correction.proofs.JoinedLemmas.{as_of-append}

-- ---- entries of a list

-- the entry at a place, and the list from there on
pub entry_at : (bag : List Entry) (i : ℕ) {P : Entry → Type 0} → IsSomeAnd (slice_get bag i) P → (e : Entry) × (drop i bag ≡ e ∷ drop (i + 1) bag) × P e
entry_at bag i {P} h = let r = go bag i h in (r.0, r.1 ∙ ap (λ n. r.0 ∷ drop n bag) (sym (add-one i)), r.2)
  where
    go : (bag : List Entry) (i : ℕ) → IsSomeAnd (slice_get bag i) P → (e : Entry) × (drop i bag ≡ e ∷ drop (suc i) bag) × P e
    go [] i h = absurd h
    go (e ∷ bag) zero h = (e, refl, h)
    go (e ∷ bag) (suc i) h = go bag i h

-- facts of the entries at two places
pub pair_both : (want had : List Entry) (i j : ℕ) (P Q : Entry → Entry → Type 0) → IsSomeAnd (slice_get want i) (λ e. IsSomeAnd (slice_get had j) (λ f. P e f)) → IsSomeAnd (slice_get want i) (λ e. IsSomeAnd (slice_get had j) (λ f. Q e f))
    → IsSomeAnd (slice_get want i) (λ e. IsSomeAnd (slice_get had j) (λ f. P e f × Q e f))
pair_both want had i j P Q p q = outer want i p q
  where
    inner : (e : Entry) (had : List Entry) (j : ℕ) → IsSomeAnd (slice_get had j) (λ f. P e f) → IsSomeAnd (slice_get had j) (λ f. Q e f) → IsSomeAnd (slice_get had j) (λ f. P e f × Q e f)
    inner e [] j p q = absurd p
    inner e (f ∷ had) zero p q = (p, q)
    inner e (f ∷ had) (suc j) p q = inner e had j p q

    outer : (want : List Entry) (i : ℕ) → IsSomeAnd (slice_get want i) (λ e. IsSomeAnd (slice_get had j) (λ f. P e f)) → IsSomeAnd (slice_get want i) (λ e. IsSomeAnd (slice_get had j) (λ f. Q e f))
        → IsSomeAnd (slice_get want i) (λ e. IsSomeAnd (slice_get had j) (λ f. P e f × Q e f))
    outer [] i p q = absurd p
    outer (e ∷ want) zero p q = inner e had j p q
    outer (e ∷ want) (suc i) p q = outer want i p q

-- ---- entries at a time

pub put-append : {T : Type 0} (t : T) (xs ys : List Entry) → put t (xs ++ ys) ≡ put t xs ++ put t ys
put-append t [] ys = refl
put-append t (x ∷ xs) ys = ap (λ z. record { row = x.row; time = t; diff = x.count } ∷ z) (put-append t xs ys)

-- what was put down, and then more
pub put_then : {T : Type 0} (t : T) (a b c : List (Update T)) (xs ys : List Entry) → b ≡ a ++ put t xs → c ≡ b ++ put t ys → c ≡ a ++ put t (xs ++ ys)
put_then t a b c xs ys p q = q ∙ (ap (λ z. z ++ put t ys) p ∙ (append_assoc a (put t xs) (put t ys) ∙ ap (λ z. a ++ z) (sym (put-append t xs ys))))

-- what is put down with what is left is all that was to be put down
pub put_left : {T : Type 0} (t : T) (a b z : List (Update T)) (bag : List Entry) (i : ℕ) → IsSomeAnd (slice_get bag i) (λ e. b ≡ a ++ put t (e ∷ []))
    → a ++ put t (drop i bag) ≡ z → b ++ put t (drop (i + 1) bag) ≡ z
put_left {T} t a b z bag i h p =
    let r = entry_at bag i h in
    ap (λ v. v ++ put t (drop (i + 1) bag)) r.2 ∙ (append_assoc a (put t (r.0 ∷ [])) (put t (drop (i + 1) bag)) ∙ (ap (λ v. a ++ put t v) (sym r.1) ∙ p))

-- nothing is left behind the end
pub none_left : (bag : List Entry) (i : ℕ) → length bag ≤ i → drop i bag ≡ []
none_left [] zero h = refl
none_left [] (suc i) h = refl
none_left (e ∷ bag) zero h = absurd (omega (arith, h))
none_left (e ∷ bag) (suc i) h = none_left bag i (omega (arith, h))

pub put_all_is : {T : Type 0} (t : T) (a z : List (Update T)) (bag : List Entry) (i : ℕ) → length bag ≤ i → a ++ put t (drop i bag) ≡ z → a ≡ z
put_all_is t a z bag i h p = sym (append-nil a) ∙ (ap (λ v. a ++ put t v) (sym (none_left bag i h)) ∙ p)

-- ---- what is appended, up to the order and the parts of its entries

module _ {T : Type 0} (t : T) where
  pub appends_put : (a b : List (Update T)) (es : List Entry) → b ≡ a ++ put t es → Appends t a b es
  appends_put a b es e = (es, e, λ row. refl)

  pub appends_none : (a : List (Update T)) → Appends t a a []
  appends_none a = ([], sym (append-nil a), λ row. refl)

  pub appends_alike : (a b : List (Update T)) (es fs : List Entry) → Alike es fs → Appends t a b es → Appends t a b fs
  appends_alike a b es fs same h = (h.0, h.1, λ row. h.2 row ∙ same row)

  pub appends_then : (a b c : List (Update T)) (es fs : List Entry) → Appends t a b es → Appends t b c fs → Appends t a c (es ++ fs)
  appends_then a b c es fs p q = (
    p.0 ++ q.0,
    put_then t a b c p.0 q.0 p.1 q.1,
    λ row. count_of-append p.0 q.0 row ∙ ((λ i. p.2 row i +ℤ q.2 row i) ∙ sym (count_of-append es fs row)),
  )

  -- entries of a list were taken back from a place on, and then one more
  pub taken_more : (a b c : List (Update T)) (bag : List Entry) (start i : ℕ) → IsSomeAnd (slice_get bag i) (λ e. Appends t b c (negated_entry e ∷ []))
      → (entries : List Entry) × (b ≡ a ++ put t entries) × Alike (entries ++ map negated_entry (drop i bag)) (map negated_entry (drop start bag))
      → (entries : List Entry) × (c ≡ a ++ put t entries) × Alike (entries ++ map negated_entry (drop (i + 1) bag)) (map negated_entry (drop start bag))
  taken_more a b c bag start i h p =
      let r = entry_at bag i h in
      let n = negated_entry r.0 in
      let rest = map negated_entry (drop (i + 1) bag) in
      let q = r.2 in (
        p.0 ++ q.0,
        put_then t a b c p.0 q.0 p.1 q.1,
        λ row.
            count_of-append (p.0 ++ q.0) rest row
            ∙ (ap (λ z. z +ℤ count_of rest row) (count_of-append p.0 q.0 row ∙ ap (λ z. count_of p.0 row +ℤ z) (q.2 row))
            ∙ (regroup (count_of p.0 row) (value n row) (count_of rest row)
            ∙ (sym (count_of-append p.0 (n ∷ rest) row)
            ∙ (ap (λ z. count_of (p.0 ++ map negated_entry z) row) (sym r.1) ∙ p.2 row)))),
      )
    where
      value : Entry → List ℤ → ℤ
      value e row = cond (same_row e.row row) e.count (pos 0)

      regroup : (x v y : ℤ) → (x +ℤ (v +ℤ pos 0)) +ℤ y ≡ x +ℤ (v +ℤ y)
      regroup x v y = omega (arith, ints)

  -- behind the end all were taken back
  pub taken_all : (a b : List (Update T)) (bag : List Entry) (start i : ℕ) → length bag ≤ i
      → (entries : List Entry) × (b ≡ a ++ put t entries) × Alike (entries ++ map negated_entry (drop i bag)) (map negated_entry (drop start bag))
      → Appends t a b (map negated_entry (drop start bag))
  taken_all a b bag start i end p =
      (p.0, p.1, λ row. ap (λ z. count_of z row) (sym (append-nil p.0) ∙ ap (λ z. p.0 ++ map negated_entry z) (sym (none_left bag i end))) ∙ p.2 row)

  -- one more update was taken back
  pub given_more : (times : Times T) (a b c : List (Update T)) (given : List (Update T)) (i : ℕ) (u : Update T) → i < length given → u ≡ get_or given i u
      → Appends t a b (map negated_entry (as_of times t (take i given))) → Appends t b c (map negated_entry (as_of times t (u ∷ [])))
      → Appends t a c (map negated_entry (as_of times t (take (i + 1) given)))
  given_more times a b c given i u l e p q =
      let before = as_of times t (take i given) in
      let one = as_of times t (u ∷ []) in
      let whole : as_of times t (take (i + 1) given) ≡ before ++ one =
      ap (as_of times t) (take_more given i u l) ∙ (as_of-append times t (take i given) (get_or given i u ∷ []) ∙ ap (λ v. before ++ as_of times t (v ∷ [])) (sym e)) in
      subst (Appends t a c) (sym (ap (map negated_entry) whole ∙ map-append negated_entry before one))
      (appends_then a b c (map negated_entry before) (map negated_entry one) p q)

  -- an update that is not there at the time takes nothing back, any other one its row
  pub none_there : (times : Times T) (a : List (Update T)) (u : Update T) → times.below u.time t ≡ false → Appends t a a (map negated_entry (as_of times t (u ∷ [])))
  none_there times a u h = rw h (appends_none a)

  pub one_there : (times : Times T) (a b : List (Update T)) (u : Update T) → times.below u.time t ≡ true → Appends t a b (entry_of u.row (neg_ℤ u.diff) ∷ []) → Appends t a b (map negated_entry (as_of times t (u ∷ [])))
  one_there times a b u h p = rw h p

-- the row of an entry taken back is the entry taken back
pub entry_back : {T : Type 0} (t : T) (a b : List (Update T)) (bag : List Entry) (i : ℕ) (row : List ℤ) (n : ℤ) → IsSomeAnd (slice_get bag i) (λ e. row ≡ e.row) → IsSomeAnd (slice_get bag i) (λ e. n ≡ e.count)
    → Appends t a b (entry_of row (neg_ℤ n) ∷ []) → IsSomeAnd (slice_get bag i) (λ e. Appends t a b (negated_entry e ∷ []))
entry_back t a b [] i row n p q h = absurd p
entry_back t a b (e ∷ bag) zero row n p q h = subst (λ z. Appends t a b (z ∷ [])) (λ j. entry_of (p j) (neg_ℤ (q j))) h
entry_back t a b (e ∷ bag) (suc i) row n p q h = entry_back t a b bag i row n p q h

-- the least 64-bit number is taken back in two parts
pub two_parts : (row : List ℤ) (n : ℤ) → FitsSigned w64 n → (FitsSigned w64 (neg_ℤ n) → ⊥) → Alike (entry_of row (pos (2 ^ 63 - 1)) ∷ entry_of row (pos 1) ∷ []) (entry_of row (neg_ℤ n) ∷ [])
two_parts row n fits none other = step (same_row row other)
  where
    least : pos (2 ^ 63 - 1) +ℤ (pos 1 +ℤ pos 0) ≡ neg_ℤ n +ℤ pos 0
    least = let far = not_fits (neg_ℤ n) none in omega (arith, ints, far)

    step : (b : Bool) → cond b (pos (2 ^ 63 - 1)) (pos 0) +ℤ (cond b (pos 1) (pos 0) +ℤ pos 0) ≡ cond b (neg_ℤ n) (pos 0) +ℤ pos 0
    step true = least
    step false = refl

-- ---- moves

less : (v w h : ℤ) → (v +ℤ pos 0) +ℤ (w +ℤ neg_ℤ h) ≡ (v +ℤ w) +ℤ neg_ℤ h
less v w h = omega (arith, ints)

greater : (v w h : ℤ) → (neg_ℤ v +ℤ pos 0) +ℤ (w +ℤ neg_ℤ h) ≡ w +ℤ neg_ℤ (v +ℤ h)
greater v w h = omega (arith, ints)

both : (v x w h : ℤ) → (v +ℤ (neg_ℤ x +ℤ pos 0)) +ℤ (w +ℤ neg_ℤ h) ≡ (v +ℤ w) +ℤ neg_ℤ (x +ℤ h)
both v x w h = omega (arith, ints)

neither : (v w h : ℤ) → pos 0 +ℤ (w +ℤ neg_ℤ h) ≡ (v +ℤ w) +ℤ neg_ℤ (v +ℤ h)
neither v w h = omega (arith, ints)

together : (e f w h n d a b : ℤ) → e +ℤ (w +ℤ neg_ℤ h) ≡ n +ℤ neg_ℤ d → f +ℤ (a +ℤ neg_ℤ b) ≡ w +ℤ neg_ℤ h → (e +ℤ f) +ℤ (a +ℤ neg_ℤ b) ≡ n +ℤ neg_ℤ d
together e f w h n d a b p q = omega (arith, ints, p, q)

last_part : (e w h n d : ℤ) → e +ℤ (w +ℤ neg_ℤ h) ≡ n +ℤ neg_ℤ d → (e +ℤ w) +ℤ neg_ℤ h ≡ n +ℤ neg_ℤ d
last_part e w h n d p = omega (arith, ints, p)

negated_value : (f : Entry) (row : List ℤ) → cond (same_row f.row row) (neg_ℤ f.count) (pos 0) ≡ neg_ℤ (cond (same_row f.row row) f.count (pos 0))
negated_value f row = step (same_row f.row row)
  where
    step : (b : Bool) → cond b (neg_ℤ f.count) (pos 0) ≡ neg_ℤ (cond b f.count (pos 0))
    step true = refl
    step false = refl

abbrev value : Entry → List ℤ → ℤ
value e row = cond (same_row e.row row) e.count (pos 0)

module _ (want had : List Entry) (i j : ℕ) where
  -- the lesser row is the first list's
  pub moves_want : (e : Entry) → drop i want ≡ e ∷ drop (i + 1) want → Moves (drop i want) (drop j had) (e ∷ []) (drop (i + 1) want) (drop j had)
  moves_want e h row =
      less (value e row) (count_of (drop (i + 1) want) row) (count_of (drop j had) row)
      ∙ ap (λ z. count_of z row +ℤ neg_ℤ (count_of (drop j had) row)) (sym h)

  -- the lesser row is the second list's
  pub moves_had : (f : Entry) → drop j had ≡ f ∷ drop (j + 1) had → Moves (drop i want) (drop j had) (negated_entry f ∷ []) (drop i want) (drop (j + 1) had)
  moves_had f h row =
      ap (λ z. (z +ℤ pos 0) +ℤ (count_of (drop i want) row +ℤ neg_ℤ (count_of (drop (j + 1) had) row))) (negated_value f row)
      ∙ (greater (value f row) (count_of (drop i want) row) (count_of (drop (j + 1) had) row)
      ∙ ap (λ z. count_of (drop i want) row +ℤ neg_ℤ (count_of z row)) (sym h))

  module _ (e f : Entry) (h : drop i want ≡ e ∷ drop (i + 1) want) (k : drop j had ≡ f ∷ drop (j + 1) had) where
    ends : (row : List ℤ) → (value e row +ℤ count_of (drop (i + 1) want) row) +ℤ neg_ℤ (value f row +ℤ count_of (drop (j + 1) had) row) ≡ count_of (drop i want) row +ℤ neg_ℤ (count_of (drop j had) row)
    ends row =
        ap (λ z. count_of z row +ℤ neg_ℤ (value f row +ℤ count_of (drop (j + 1) had) row)) (sym h)
        ∙ ap (λ z. count_of (drop i want) row +ℤ neg_ℤ (count_of z row)) (sym k)

    -- both rows are read, and both are put down
    pub moves_both : Moves (drop i want) (drop j had) (e ∷ negated_entry f ∷ []) (drop (i + 1) want) (drop (j + 1) had)
    moves_both row =
        ap (λ z. (value e row +ℤ (z +ℤ pos 0)) +ℤ (count_of (drop (i + 1) want) row +ℤ neg_ℤ (count_of (drop (j + 1) had) row))) (negated_value f row)
        ∙ (both (value e row) (value f row) (count_of (drop (i + 1) want) row) (count_of (drop (j + 1) had) row) ∙ ends row)

    -- both are the same, and none is put down
    pub moves_neither : e.row ≡ f.row → e.count ≡ f.count → Moves (drop i want) (drop j had) [] (drop (i + 1) want) (drop (j + 1) had)
    moves_neither r c row =
        neither (value e row) (count_of (drop (i + 1) want) row) (count_of (drop (j + 1) had) row)
        ∙ (ap (λ z. (value e row +ℤ count_of (drop (i + 1) want) row) +ℤ neg_ℤ (z +ℤ count_of (drop (j + 1) had) row)) (same row)
        ∙ ends row)
      where
        same : (row : List ℤ) → value e row ≡ value f row
        same row = ap (λ z. cond (same_row z row) e.count (pos 0)) r ∙ ap (λ z. cond (same_row f.row row) z (pos 0)) c

-- other entries with the same counts change the same
pub moves_alike : (want had want2 had2 es fs : List Entry) → Alike es fs → Moves want had fs want2 had2 → Moves want had es want2 had2
moves_alike want had want2 had2 es fs same p row = ap (λ z. z +ℤ (count_of want2 row +ℤ neg_ℤ (count_of had2 row))) (same row) ∙ p row

-- nothing was read yet
pub moves_none : (want had : List Entry) → Moves want had [] want had
moves_none want had row = nothing (count_of want row) (count_of had row)
  where
    nothing : (w h : ℤ) → pos 0 +ℤ (w +ℤ neg_ℤ h) ≡ w +ℤ neg_ℤ h
    nothing w h = omega (arith, ints)

-- one move after the other
pub moves_then : (want had es want2 had2 fs want3 had3 : List Entry) → Moves want had es want2 had2 → Moves want2 had2 fs want3 had3 → Moves want had (es ++ fs) want3 had3
moves_then want had es want2 had2 fs want3 had3 p q row =
    ap (λ z. z +ℤ (count_of want3 row +ℤ neg_ℤ (count_of had3 row))) (count_of-append es fs row)
    ∙ together (count_of es row) (count_of fs row) (count_of want2 row) (count_of had2 row) (count_of want row) (count_of had row) (count_of want3 row) (count_of had3 row) (p row) (q row)

-- with all that was not read, the entries change the second list into the first
pub moves_all : (want had es want2 had2 : List Entry) → Moves want had es want2 had2 → Alike (es ++ want2 ++ map negated_entry had2) (want ++ map negated_entry had)
moves_all want had es want2 had2 p row =
    count_of-append (es ++ want2) (map negated_entry had2) row
    ∙ (ap (λ z. z +ℤ count_of (map negated_entry had2) row) (count_of-append es want2 row)
    ∙ (ap (λ z. (count_of es row +ℤ count_of want2 row) +ℤ z) (count_of-negated_entry had2 row)
    ∙ (last_part (count_of es row) (count_of want2 row) (count_of had2 row) (count_of want row) (count_of had row) (p row)
    ∙ sym (count_of-append want (map negated_entry had) row ∙ ap (λ z. count_of want row +ℤ z) (count_of-negated_entry had row)))))

-- ---- entries of two lists

equal_back : (m n : ℤ) → mag m < 2 ^ 63 → mag n < 2 ^ 63 → of_z w64 m ≡ of_z w64 n → m ≡ n
equal_back m n f g e = sym (to_z-of_z w64 m (record { sfits = f })) ∙ (ap (to_z w64) e ∙ to_z-of_z w64 n (record { sfits = g }))

-- what follows from a fact of an entry and a fact of another one
pub paired : (want had : List Entry) (i j : ℕ) {P Q : Entry → Type 0} (R : Entry → Entry → Type 0) → ((e f : Entry) → P e → Q f → R e f) → IsSomeAnd (slice_get want i) P → IsSomeAnd (slice_get had j) Q
    → IsSomeAnd (slice_get want i) (λ e. IsSomeAnd (slice_get had j) (λ f. R e f))
paired want had i j {P} {Q} R r p q = outer want i p
  where
    inner : (e : Entry) → P e → (had : List Entry) (j : ℕ) → IsSomeAnd (slice_get had j) Q → IsSomeAnd (slice_get had j) (λ f. R e f)
    inner e d [] j q = absurd q
    inner e d (f ∷ had) zero q = r e f d q
    inner e d (f ∷ had) (suc j) q = inner e d had j q

    outer : (want : List Entry) (i : ℕ) → IsSomeAnd (slice_get want i) P → IsSomeAnd (slice_get want i) (λ e. IsSomeAnd (slice_get had j) (λ f. R e f))
    outer [] i p = absurd p
    outer (e ∷ want) zero p = inner e p had j q
    outer (e ∷ want) (suc i) p = outer want i p

-- if both numbers have the same bits, then both entries have the same count
pub same_counts : (want had : List Entry) (i j : ℕ) (m n : ℤ) → mag m < 2 ^ 63 → mag n < 2 ^ 63 → IsSomeAnd (slice_get want i) (λ e. m ≡ e.count) → IsSomeAnd (slice_get had j) (λ f. n ≡ f.count)
    → IsTrue (eqb (of_z w64 m) (of_z w64 n)) → IsSomeAnd (slice_get want i) (λ e. IsSomeAnd (slice_get had j) (λ f. e.count ≡ f.count))
same_counts want had i j m n f g p q h = paired want had i j (λ e f. e.count ≡ f.count) (λ e d a b. sym a ∙ (equal_back m n f g (eqb-true (of_z w64 m) (of_z w64 n) h) ∙ b)) p q

-- if both rows are the same, then both entries are of the same row
pub same_rows : (want had : List Entry) (i j : ℕ) (r s : List ℤ) → slice_cmp int_cmp r s ≡ Equal → IsSomeAnd (slice_get want i) (λ e. r ≡ e.row) → IsSomeAnd (slice_get had j) (λ f. s ≡ f.row)
    → IsSomeAnd (slice_get want i) (λ e. IsSomeAnd (slice_get had j) (λ f. e.row ≡ f.row))
same_rows want had i j r s h p q = paired want had i j (λ e f. e.row ≡ f.row) (λ e d a b. sym a ∙ (equal_rows r s h ∙ b)) p q

-- two facts of the entries at two places
pub entries_at : (want had : List Entry) (i j : ℕ) (P : Entry → Entry → Type 0) → IsSomeAnd (slice_get want i) (λ e. IsSomeAnd (slice_get had j) (λ f. P e f))
    → (e : Entry) × (f : Entry) × (drop i want ≡ e ∷ drop (i + 1) want) × (drop j had ≡ f ∷ drop (j + 1) had) × P e f
entries_at want had i j P h = let r = entry_at want i h in let q = entry_at had j r.2 in (r.0, q.0, r.1, q.1, q.2)

-- ---- drafts

module _ {T : Type 0} {times : Times T} (o : PartialOrderLaws times) (t : T) (want : List Entry) (given : List (Update T)) where
  abbrev taken_back : List (Update T) → List Entry
  taken_back us = map negated_entry (as_of times t us)

  count-taken_back : (us : List (Update T)) (row : List ℤ) → count_of (taken_back us) row ≡ neg_ℤ (count_of (as_of times t us) row)
  count-taken_back us row = count_of-negated_entry (as_of times t us) row

  -- all that is wanted, and all that was given taken back
  pub whole : (a b c : List (Update T)) → a ≡ [] → b ≡ a ++ put t want → Appends t b c (taken_back given) → IsDraft times t want given c
  whole a b c n p q =
      let r = appends_then t [] b c want (taken_back given) (appends_put t [] b want (p ∙ ap (λ z. z ++ put t want) n)) q in
      record { entries = r.0; draft_is = r.1; adds_up = r.2 }

  -- what changed in the answer, and what was given in between taken back
  module _ (a : T) (h : times.below a t ≡ true) (answer : List Entry) (same : Alike answer (as_of times a given)) where
    abbrev since : List (Update T)
    since = between times a t given

    gone : (row : List ℤ) → count_of (taken_back since) row ≡ neg_ℤ (count_of (map entry since) row)
    gone row = count-taken_back since row ∙ ap (λ z. neg_ℤ (count_of z row)) (as_of-between o a t given)

    pub since_last : (n b c : List (Update T)) → n ≡ [] → Appends t n b (want ++ map negated_entry answer) → Appends t b c (taken_back since) → IsDraft times t want given c
    since_last n b c m p q = record {
      entries = es ++ q.0;
      draft_is = put_then t [] b c es q.0 (p.1 ∙ ap (λ z. z ++ put t es) m) q.1;
      adds_up = λ row.
          let w = count_of want row in
          let g = count_of (as_of times a given) row in
          let x = count_of (map entry since) row in
          let changed : count_of es row ≡ w +ℤ neg_ℤ g =
          p.2 row ∙ (count_of-append want (map negated_entry answer) row ∙ ap (λ z. w +ℤ z) (count_of-negated_entry answer row ∙ ap neg_ℤ (same row))) in
          count_of-append es q.0 row
          ∙ (ap (λ z. z +ℤ count_of q.0 row) changed
          ∙ (ap (λ z. (w +ℤ neg_ℤ g) +ℤ z) (q.2 row ∙ gone row)
          ∙ (regroup w g x
          ∙ (ap (λ z. w +ℤ neg_ℤ z) (sym (sum_splits o a t h given row))
          ∙ sym (count_of-append want (taken_back given) row ∙ ap (λ z. w +ℤ z) (count-taken_back given row))))));
    }
      where
        es : List Entry
        es = p.0

        regroup : (w g x : ℤ) → (w +ℤ neg_ℤ g) +ℤ neg_ℤ x ≡ w +ℤ neg_ℤ (g +ℤ x)
        regroup w g x = omega (arith, ints)

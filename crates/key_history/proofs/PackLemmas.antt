-- Both lists of a pack are the parts of one list of updates: reading one of them, appending one,
-- and dropping the last ones.
use Rattle.std.proofs.Common.{◌≡◌, ℕ, zero, suc, ◌+◌, ◌-◌, ◌<◌, ◌≤◌, List, [], ◌∷◌, ◌++◌, map, length, get_or, take, drop, slice_get, IsSomeAnd, Option, None, Some, ℤ, refl, sym, ap, ◌∙◌, subst, append_assoc, length-append, length-drop, length-take-le, get_or-drop, arith}
use Rattle.std.specs.List.{All, slice_range}
use Rattle.std.proofs.lemmas.Grind.{flat_map-append}
use Rattle.std.proofs.lemmas.List.{append-nil, length-map, map-append, take-map, take_at, take_more, take_all, take-append-drop, drop_at, drop_more, drop-append-le, get_or-map}
use Rattle.std.proofs.lemmas.List.Elements.{All-append, All-take}
use Rattle.std.proofs.lemmas.Option.{slice_get-get_or}
use Rattle.update.specs.declared.change.Update.{Update}
use Rattle.key_history.specs.declared.pack.Head.{Head}
use Rattle.key_history.specs.Packs.{columns_of, columns_before, head_of, unpacked, ArePacked}

module _ {T : Type 0} where
  -- what was packed is unpacked again
  pub packed : (us : List (Update T)) → unpacked (map head_of us) (columns_of us) ≡ us
  packed [] = refl
  packed (u ∷ us) =
      let front = take_at u.row (columns_of us) (length u.row) refl in
      let back = drop_at u.row (columns_of us) (length u.row) refl in
      (λ j. record { time = u.time; row = front j; diff = u.diff } ∷ unpacked (map head_of us) (back j))
      ∙ ap (λ vs. u ∷ vs) (packed us)

  -- the rows before the next place have the columns of one more row
  pub before_more : (us : List (Update T)) (i : ℕ) (d : Update T) → i < length us → columns_before (i + 1) us ≡ columns_before i us + length (get_or us i d).row
  before_more us i d h =
      let u = get_or us i d in
      ap (λ vs. length (columns_of vs)) (take_more us i d h)
      ∙ ap length (flat_map-append (λ v. v.row) (take i us) (u ∷ []))
      ∙ length-append (columns_of (take i us)) (u.row ++ [])
      ∙ ap (λ cs. columns_before i us + length cs) (append-nil u.row)

  -- some update, where there is one
  some_update : (us : List (Update T)) (i : ℕ) → i < length us → Update T
  some_update [] i h = absurd (omega (arith, h))
  some_update (u ∷ us) i h = u

  module _ (us : List (Update T)) (heads : List (Head T)) (columns : List ℤ) (a : ArePacked us heads columns) where
    -- the lists of some updates are read as these
    pub view_of : unpacked heads columns ≡ us
    view_of = (λ j. unpacked (a.heads_are j) (a.columns_are j)) ∙ packed us

    -- and so they are the lists of what they are read as
    pub packed_view : ArePacked (unpacked heads columns) heads columns
    packed_view = subst (λ vs. ArePacked vs heads columns) (sym view_of) a

    -- one more update
    pub pushed : (u : Update T) (heads2 : List (Head T)) (columns2 : List ℤ) → heads2 ≡ heads ++ head_of u ∷ [] → columns2 ≡ columns ++ u.row
        → 1 ≤ length u.row → length u.row ≤ 8 → ArePacked (us ++ u ∷ []) heads2 columns2
    pushed u heads2 columns2 h v some few = record {
      heads_are = h ∙ ap (λ xs. xs ++ head_of u ∷ []) a.heads_are ∙ sym (map-append head_of us (u ∷ []));
      columns_are = v ∙ ap (λ xs. xs ++ u.row) a.columns_are ∙ ap (λ xs. columns_of us ++ xs) (sym (append-nil u.row)) ∙ sym (flat_map-append (λ z. z.row) us (u ∷ []));
      some = All-append (λ z. 1 ≤ length z.row) us (u ∷ []) a.some (one (λ z. 1 ≤ length z.row) u some);
      few = All-append (λ z. length z.row ≤ 8) us (u ∷ []) a.few (one (λ z. length z.row ≤ 8) u few);
    } where
      one : (P : Update T → Type 0) (u : Update T) → P u → All P (u ∷ [])
      one P u p zero d h = p
      one P u p (suc k) d h = absurd (omega (arith, h))

    -- one more update, of which each part was read
    pub pushed_read : (found : Option (Update T)) (t : T) (d : ℤ) (w : ℕ) (heads2 : List (Head T)) (columns2 : List ℤ)
        → heads2 ≡ heads ++ record { time = t; diff = d; width = w } ∷ []
        → IsSomeAnd found (λ u. t ≡ u.time) → IsSomeAnd found (λ u. d ≡ u.diff) → IsSomeAnd found (λ u. columns2 ≡ columns ++ u.row) → IsSomeAnd found (λ u. w ≡ length u.row)
        → 1 ≤ w → w ≤ 8 → IsSomeAnd found (λ u. ArePacked (us ++ u ∷ []) heads2 columns2)
    pushed_read (Some u) t d w heads2 columns2 h at by put wide some few =
        pushed u heads2 columns2 (h ∙ (λ j. heads ++ record { time = at j; diff = by j; width = wide j } ∷ [])) put (subst (λ n. 1 ≤ n) wide some) (subst (λ n. n ≤ 8) wide few)
    pushed_read None t d w heads2 columns2 h at by put wide some few = elim at [ ]

    -- the columns of the rows before a place come first
    pub columns_parted : (i : ℕ) → columns ≡ columns_of (take i us) ++ columns_of (drop i us)
    columns_parted i =
        a.columns_are ∙ ap columns_of (sym (take-append-drop i us)) ∙ flat_map-append (λ u. u.row) (take i us) (drop i us)

    -- the first updates have the first heads, and the columns before the place
    pub cut_off : (n : ℕ) → ArePacked (take n us) (take n heads) (take (columns_before n us) columns)
    cut_off n = record {
      heads_are = ap (take n) a.heads_are ∙ take-map head_of n us;
      columns_are = ap (take (columns_before n us)) (columns_parted n) ∙ take_at (columns_of (take n us)) (columns_of (drop n us)) (columns_before n us) refl;
      some = All-take (λ u. 1 ≤ length u.row) n us a.some;
      few = All-take (λ u. length u.row ≤ 8) n us a.few;
    }

    -- there are as many heads as updates
    pub heads_long : length heads ≡ length us
    heads_long = ap length a.heads_are ∙ length-map us head_of

    -- the rows before the end have all columns
    pub columns_long : columns_before (length us) us ≡ length columns
    columns_long = ap (λ vs. length (columns_of vs)) (take_all (length us) us (omega arith)) ∙ ap length (sym a.columns_are)

    -- and those before any place are among them
    pub place_within : (i : ℕ) → columns_before i us ≤ length columns
    place_within i =
        let long = ap length (columns_parted i) ∙ length-append (columns_of (take i us)) (columns_of (drop i us)) in
        omega (arith, long)

    -- what is known where a head was read
    module _ (i : ℕ) (head : Head T) (h : i < length us) (e : head ≡ get_or heads i head) where
      -- it is that of the update
      pub head_is : (d : Update T) → head ≡ head_of (get_or us i d)
      head_is d = e ∙ ap (λ hs. get_or hs i head) a.heads_are ∙ get_or-map head_of us i d head h

      -- the rows before the next place have the columns of its row too
      pub place_more : columns_before (i + 1) us ≡ columns_before i us + head.width
      place_more =
          let d = some_update us i h in
          before_more us i d h ∙ ap (λ (x : Head T). columns_before i us + x.width) (sym (head_is d))

      -- its width is one of 1 to 8
      pub width_some : 1 ≤ head.width
      width_some =
          let d = some_update us i h in
          subst (λ (x : Head T). 1 ≤ x.width) (sym (head_is d)) (a.some i d h)

      pub width_few : head.width ≤ 8
      width_few =
          let d = some_update us i h in
          subst (λ (x : Head T). x.width ≤ 8) (sym (head_is d)) (a.few i d h)

      -- the columns from the place on, as many as the row is wide, are the row
      row_is : (d : Update T) → take head.width (drop (columns_before i us) columns) ≡ (get_or us i d).row
      row_is d =
          let u = get_or us i d in
          let behind = drop_at (columns_of (take i us)) (columns_of (drop i us)) (columns_before i us) refl in
          ap (λ (x : Head T). take x.width (drop (columns_before i us) columns)) (head_is d)
          ∙ ap (λ cs. take (length u.row) (drop (columns_before i us) cs)) (columns_parted i)
          ∙ ap (take (length u.row)) (behind ∙ ap columns_of (drop_more us i d h))
          ∙ take_at u.row (columns_of (drop (i + 1) us)) (length u.row) refl

      pub row_there : (row : List ℤ) → row ≡ take head.width (drop (columns_before i us) columns) → IsSomeAnd (slice_get us i) (λ u. row ≡ u.row)
      row_there row r =
          let d = some_update us i h in
          subst (λ o. IsSomeAnd o (λ v. row ≡ v.row)) (sym (slice_get-get_or us i d h)) (r ∙ row_is d)

      -- the head and the row that were read of an update are the update
      pub copied : (row : List ℤ) (diff : ℤ) → IsSomeAnd (slice_get us i) (λ u. row ≡ u.row) → diff ≡ head.diff
          → IsSomeAnd (slice_get us i) (λ u. record { time = head.time; row = row; diff = diff } ≡ u)
      copied row diff r s =
          let d = some_update us i h in
          let row_same = subst (λ o. IsSomeAnd o (λ v. row ≡ v.row)) (slice_get-get_or us i d h) r in
          let is = head_is d in
          let diff_same = s ∙ ap (λ (x : Head T). x.diff) is in
          subst (λ o. IsSomeAnd o (λ v. record { time = head.time; row = row; diff = diff } ≡ v)) (sym (slice_get-get_or us i d h))
          (λ j. record { time = (is j).time; row = row_same j; diff = diff_same j })

module _ {X : Type 0} where
  -- what was read at a place is the item there
  item_is : (xs : List X) (i : ℕ) (x : X) → i < length xs → IsSomeAnd (slice_get xs i) (λ y. x ≡ y) → get_or xs i x ≡ x
  item_is xs i x h s = sym (subst (λ o. IsSomeAnd o (λ y. x ≡ y)) (slice_get-get_or xs i x h) s)

  -- one more item was read
  pub taken_more : (xs : List X) (i : ℕ) (x : X) → i < length xs → IsSomeAnd (slice_get xs i) (λ y. x ≡ y) → take (i + 1) xs ≡ take i xs ++ x ∷ []
  taken_more xs i x h s = take_more xs i x h ∙ ap (λ y. take i xs ++ y ∷ []) (item_is xs i x h s)

  -- one more item behind a place was read
  pub drop_more_taken : (xs : List X) (from i : ℕ) (x : X) → from ≤ i → i < length xs → IsSomeAnd (slice_get xs i) (λ y. x ≡ y) → drop from (take (i + 1) xs) ≡ drop from (take i xs) ++ x ∷ []
  drop_more_taken xs from i x l h s =
      let within : from ≤ length (take i xs) = omega (arith, l, h, length-take-le i xs (omega (arith, h))) in
      ap (drop from) (taken_more xs i x h s)
      ∙ drop-append-le from (take i xs) (x ∷ []) within

  -- one more item of a part was read
  pub range_more : (xs : List X) (start i : ℕ) (x : X) → start ≤ i → i < length xs → IsSomeAnd (slice_get xs i) (λ y. x ≡ y) → slice_range xs start (i + 1) ≡ slice_range xs start i ++ x ∷ []
  range_more xs start i x l h s =
      let many : i + 1 - start ≡ i - start + 1 = omega (arith, l) in
      let at : start + (i - start) ≡ i = omega (arith, l) in
      let within : i - start < length (drop start xs) = omega (arith, l, h, length-drop start xs) in
      ap (λ n. take n (drop start xs)) many
      ∙ take_more (drop start xs) (i - start) x within
      ∙ ap (λ y. take (i - start) (drop start xs) ++ y ∷ []) (get_or-drop start xs (i - start) x ∙ ap (λ n. get_or xs n x) at ∙ item_is xs i x h s)

  -- and it was appended to a list that has the part so far
  pub range_pushed : (xs : List X) (start i : ℕ) → start ≤ i → i < length xs → (old mid new : List X) → mid ≡ old ++ slice_range xs start i
      → IsSomeAnd (slice_get xs i) (λ x. new ≡ mid ++ x ∷ []) → new ≡ old ++ slice_range xs start (i + 1)
  range_pushed xs start i l h old mid new m s = at (slice_get xs i) refl s where
    at : (found : Option X) → slice_get xs i ≡ found → IsSomeAnd found (λ x. new ≡ mid ++ x ∷ []) → new ≡ old ++ slice_range xs start (i + 1)
    at (Some x) e p =
        p ∙ ap (λ ys. ys ++ x ∷ []) m ∙ append_assoc old (slice_range xs start i) (x ∷ [])
        ∙ ap (λ ys. old ++ ys) (sym (range_more xs start i x l h (subst (λ f. IsSomeAnd f (λ y. x ≡ y)) (sym e) refl)))
    at None e p = elim p [ ]

module _ {T : Type 0} (us : List (Update T)) (heads : List (Head T)) (columns : List ℤ) where
  -- lists that are those of some updates and one more are read as these
  pub read_of : (found : Option (Update T)) → IsSomeAnd found (λ u. ArePacked (us ++ u ∷ []) heads columns) → IsSomeAnd found (λ u. unpacked heads columns ≡ us ++ u ∷ [])
  read_of (Some u) a = view_of (us ++ u ∷ []) heads columns a
  read_of None a = elim a [ ]

  -- and so they are the lists of what they are read as
  pub packed_read : (found : Option (Update T)) → IsSomeAnd found (λ u. ArePacked (us ++ u ∷ []) heads columns) → ArePacked (unpacked heads columns) heads columns
  packed_read (Some u) a = packed_view (us ++ u ∷ []) heads columns a
  packed_read None a = elim a [ ]

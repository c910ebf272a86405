-- What workers give back when stations end, one row after another from the last one on, and one
-- station after another within a row.
use Rattle.std.proofs.Common.{◌≡◌, ℕ, zero, suc, ◌+◌, ◌<◌, ◌≤◌, List, [], ◌∷◌, ◌++◌, map, length, take, get_or, replicate, refl, sym, ap, ap₂, ◌∙◌, arith}
use Rattle.std.specs.List.{flat_map}
use Rattle.std.proofs.Math.Seq.{get_or-append_seam}
use Rattle.std.proofs.lemmas.List.{append-nil, map-append, length-append, length-map, take_more, take_all, get_or_append_left}
use Rattle.std.proofs.lemmas.List.Concat.{flat_map-append}
use Rattle.plan.specs.Ancestors.{numbers_below}
use Rattle.progress.specs.declared.place.Place.{Place}
use Rattle.progress.specs.declared.place.Place.TheVariants.{Held}
use Rattle.progress.specs.declared.counted.Counted.{Counted}
use Rattle.progress.specs.Several.{items_at, AreCounted}
use Rattle.progress.specs.Tallies.{SameCounts}
use Rattle.progress.proofs.SeveralLemmas.{passing_both}
use Rattle.histories.specs.Histories.{held_entries}
use Rattle.histories.specs.Histories.Outstanding.{items_held}
use Rattle.outstanding.specs.declared.stations.Station.{Station}
use Rattle.outstanding.specs.Loads.{Lot, no_lot, lot_of, first_stations, held_by_all, held_in, all_held}
use Rattle.outstanding.specs.Stations.{lot, lots}
use Rattle.outstanding.proofs.LotLemmas.{flat_empty, flat_more}

-- ---- lists

module _ {X Y : Type 0} where
  pub map_flat : {Z : Type 0} (f : Y → Z) (g : X → List Y) (xs : List X) → map f (flat_map g xs) ≡ flat_map (λ x. map f (g x)) xs
  map_flat f g [] = refl
  map_flat f g (x ∷ xs) = map-append f (g x) (flat_map g xs) ∙ ap (λ ys. map f (g x) ++ ys) (map_flat f g xs)

  pub map_twice : {Z : Type 0} (f : Y → Z) (g : X → Y) (xs : List X) → map f (map g xs) ≡ map (λ x. f (g x)) xs
  map_twice f g [] = refl
  map_twice f g (x ∷ xs) = ap (λ ys. f (g x) ∷ ys) (map_twice f g xs)

-- two functions that give the same below a number do so together
same_flat : {X : Type 0} (f g : ℕ → List X) (n : ℕ) → ((j : ℕ) → j < n → f j ≡ g j) → flat_map f (numbers_below n) ≡ flat_map g (numbers_below n)
same_flat f g zero e = refl
same_flat f g (suc n) e = flat_more f n ∙ (ap₂ (λ xs ys. xs ++ ys) (same_flat f g n (λ j l. e j (omega (arith, l)))) (e n (omega arith)) ∙ sym (flat_more g n))

-- what the elements of a list give, read by their numbers
module _ {X Y : Type 0} (f : X → List Y) (xs : List X) (d : X) where
  so_far : (i : ℕ) → i ≤ length xs → flat_map (λ k. f (get_or xs k d)) (numbers_below i) ≡ flat_map f (take i xs)
  so_far zero l = refl
  so_far (suc i) l =
      let more : suc i ≡ i + 1 = omega arith in
      flat_more (λ k. f (get_or xs k d)) i
      ∙ (ap (λ ys. ys ++ f (get_or xs i d)) (so_far i (omega (arith, l)))
      ∙ (ap (λ ys. flat_map f (take i xs) ++ ys) (sym (append-nil (f (get_or xs i d))))
      ∙ (sym (flat_map-append f (take i xs) (get_or xs i d ∷ []))
      ∙ ap (flat_map f) (sym (take_more xs i d (omega (arith, l))) ∙ ap (λ j. take j xs) (sym more)))))

  by_number : flat_map (λ k. f (get_or xs k d)) (numbers_below (length xs)) ≡ flat_map f xs
  by_number = so_far (length xs) (omega arith) ∙ ap (flat_map f) (take_all (length xs) xs (omega arith))

module _ {T : Type 0} where
  -- ---- what is held, as items

  -- what a lot holds
  pub kept_at : (n k : ℕ) (ts : List T) → items_held (held_entries n k ts) ≡ items_at (Held n) ts
  kept_at n k ts = map_twice (λ m. record { place = Held m.node; time = m.time }) (λ t. record { node = n; worker = k; time = t }) ts

  -- what a row holds
  kept_in : (n : ℕ) (row : List (Lot T)) → items_held (held_in n row) ≡ items_at (Held n) (held_by_all row)
  kept_in n row =
      let at : List T → List (Counted T) = items_at (Held n) in
      map_flat (λ m. record { place = Held m.node; time = m.time }) (λ k. held_entries n k (get_or row k no_lot).held) (numbers_below (length row))
      ∙ (ap (λ (f : ℕ → List (Counted T)). flat_map f (numbers_below (length row))) (λ i k. kept_at n k (get_or row k no_lot).held i)
      ∙ (by_number (λ (l : Lot T). at l.held) row no_lot
      ∙ sym (map_flat (λ t. record { place = Held n; time = t }) (λ (l : Lot T). l.held) row)))

  -- ---- the last station of a row, and the last row

  pub held_last : (place : Place) (row : List (Station T)) (s : Station T) → items_at place (held_by_all (map lot (row ++ s ∷ []))) ≡ items_at place (held_by_all (map lot row)) ++ items_at place s.held
  held_last place row s =
      ap (λ (all : List (Lot T)). items_at place (held_by_all all)) (map-append lot row (s ∷ []))
      ∙ (ap (items_at place) (flat_map-append (λ (l : Lot T). l.held) (map lot row) (lot s ∷ []) ∙ ap (λ ts. held_by_all (map lot row) ++ ts) (append-nil s.held))
      ∙ map-append (λ t. record { place = place; time = t }) (held_by_all (map lot row)) s.held)

  all_last : (rows : List (List (Lot T))) (row : List (Lot T)) → items_held (all_held (rows ++ row ∷ [])) ≡ items_held (all_held rows) ++ items_at (Held (length rows)) (held_by_all row)
  all_last rows row =
      let n = length rows in
      let long : length (rows ++ row ∷ []) ≡ suc n = length-append rows (row ∷ []) ∙ (omega arith) in
      let f = λ (m : ℕ). held_in m (get_or (rows ++ row ∷ []) m []) in
      ap items_held
      (ap (λ m. flat_map f (numbers_below m)) long
      ∙ (flat_more f n
      ∙ ap₂ (λ xs ys. xs ++ ys) (same_flat f (λ m. held_in m (get_or rows m [])) n (λ m l. ap (held_in m) (get_or_append_left rows (row ∷ []) [] m l)))
      (ap (held_in n) (get_or-append_seam rows row [] []))))
      ∙ (map-append (λ m. record { place = Held m.node; time = m.time }) (all_held rows) (held_in n row)
      ∙ ap (λ xs. items_held (all_held rows) ++ xs) (kept_in n row))

  pub row_last : (rows : List (List (Station T))) (row : List (Station T)) (n : ℕ) → length rows ≡ n → items_held (all_held (lots (rows ++ row ∷ []))) ≡ items_held (all_held (lots rows)) ++ items_at (Held n) (held_by_all (map lot row))
  row_last rows row n e =
      ap (λ (all : List (List (Lot T))). items_held (all_held all)) (map-append (map lot) rows (row ∷ []))
      ∙ (all_last (lots rows) (map lot row)
      ∙ ap (λ m. items_held (all_held (lots rows)) ++ items_at (Held m) (held_by_all (map lot row))) (length-map rows (map lot) ∙ e))

  -- ---- at first nothing is held

  pub first_lot : (nodes workers n k : ℕ) → lot_of (first_stations {T = T} nodes workers) n k ≡ no_lot
  first_lot nodes workers n k = at nodes n
    where
      in_row : (w j : ℕ) → get_or (replicate w (no_lot {T = T})) j no_lot ≡ no_lot
      in_row zero j = refl
      in_row (suc w) zero = refl
      in_row (suc w) (suc j) = in_row w j

      at : (z m : ℕ) → get_or (get_or (replicate z (replicate workers (no_lot {T = T}))) m []) k no_lot ≡ no_lot
      at zero m = refl
      at (suc z) zero = in_row workers k
      at (suc z) (suc m) = at z m

  pub nothing_held : (nodes workers : ℕ) → all_held (first_stations {T = T} nodes workers) ≡ []
  nothing_held nodes workers =
      flat_empty (λ n. held_in n (get_or (first_stations {T = T} nodes workers) n [])) (numbers_below (length (first_stations {T = T} nodes workers)))
      (λ n. flat_empty (λ k. held_entries n k (lot_of (first_stations {T = T} nodes workers) n k).held) (numbers_below (length (get_or (first_stations {T = T} nodes workers) n [])))
      (λ k. ap (λ (l : Lot T). held_entries n k l.held) (first_lot nodes workers n k)))

  -- ---- counts

  -- what was to go back at first, and what of it is still there: `first` and, behind it, `last`
  module _ (all first last old mid : List (Counted T)) (left : SameCounts (all ++ mid) ((first ++ last) ++ old)) where
    -- the last part is counted, if all was at first
    pub last_is_counted : AreCounted old all → AreCounted mid last
    last_is_counted counted = record {
      rest = first ++ counted.rest;
      counts = λ test.
          let a = left test in
          let b = counted.counts test in
          let c = passing_both test all mid in
          let d = passing_both test (first ++ last) old in
          let e = passing_both test first last in
          let f = passing_both test all counted.rest in
          let g = passing_both test last (first ++ counted.rest) in
          let h = passing_both test first counted.rest in
          omega (arith, a, b, c, d, e, f, g, h);
    }

    -- after the last part went back, the first is left
    pub last_went : (new : List (Counted T)) → SameCounts (last ++ new) mid → SameCounts (all ++ new) (first ++ old)
    last_went new gone test =
        let a = left test in
        let b = gone test in
        let c = passing_both test all mid in
        let d = passing_both test (first ++ last) old in
        let e = passing_both test first last in
        let f = passing_both test last new in
        let g = passing_both test all new in
        let h = passing_both test first old in
        omega (arith, a, b, c, d, e, f, g, h)

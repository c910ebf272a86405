-- What the loops of `survey.rt` have found so far at the stations, against what a contract sees of
-- all stations.
use Rattle.std.proofs.Common.{◌≡◌, ℕ, zero, suc, ◌+◌, ◌<◌, ◌≤◌, Bool, true, false, ◌&&◌, List, [], ◌∷◌, ◌++◌, map, length, get_or, drop, sym, refl, ap, ◌∙◌, eqb, arith}
use Rattle.std.specs.List.{list_all}
use Rattle.std.proofs.lemmas.List.{at_drop_all, drop_more}
use Rattle.std.proofs.lemmas.List.Folds.{list_all-map}
use Rattle.outstanding.specs.declared.stations.Station.{Station}
use Rattle.histories.specs.Histories.States.{place}
use Rattle.outstanding.specs.Loads.{is_none, Lot, queue_of, all_bundles}
use Rattle.outstanding.specs.Stations.{lot, lots}
use Rattle.outstanding.proofs.LotLemmas.{none_anywhere, apart}

-- ---- loops that go over a list until they find an element that passes a test

module _ {X : Type 0} (p : X → Bool) (xs : List X) (i : ℕ) where
  -- all elements were read, and each passes
  all_passed : length xs ≤ i → list_all p (drop i xs) ≡ list_all p xs → true ≡ list_all p xs
  all_passed l so_far = sym (at_drop_all (list_all p) xs i l) ∙ so_far

  -- if the element that was read does not pass, not all do
  not_passed : (x : X) → i < length xs → x ≡ get_or xs i x → list_all p (drop i xs) ≡ list_all p xs → p x ≡ false → false ≡ list_all p xs
  not_passed x l e so_far h =
      let here : list_all p (drop i xs) ≡ (p x && list_all p (drop (i + 1) xs)) = ap (list_all p) (drop_more xs i x l) ∙ ap (λ y. p y && list_all p (drop (i + 1) xs)) (sym e) in
      sym (sym so_far ∙ (here ∙ ap (λ b. b && list_all p (drop (i + 1) xs)) h))

module _ {T : Type 0} where
  -- ---- whether anything waits

  -- nothing waits at any port if nothing waits at the first two, since a node has no others
  pub none_at_ports : (stations : List (List (Lot T))) (n k i : ℕ) → 2 ≤ i → ((port : ℕ) → port < i → queue_of stations (place n port k) ≡ []) → (port : ℕ) → queue_of stations (place n port k) ≡ []
  none_at_ports stations n k i l none zero = none 0 (omega (arith, l))
  none_at_ports stations n k i l none (suc zero) = none 1 (omega (arith, l))
  none_at_ports stations n k i l none (suc (suc port)) = refl

-- a list that is not empty stays so with another behind it
pub first_there : {X : Type 0} (xs ys : List X) → (length xs ≡ 0 → ⊥) → eqb (length xs) 0 ≡ is_none (xs ++ ys)
first_there [] ys h = absurd (h refl)
first_there (x ∷ xs) ys h = apart 0 (suc (length xs)) (λ e. h (sym e))

module _ {T : Type 0} where
  -- whether nothing waits, station by station
  module _ (row now : List (Station T)) (same : row ≡ now) (i : ℕ) (so_far : list_all (λ s. is_none ((lot s).left ++ (lot s).right)) (drop i row) ≡ list_all (λ s. is_none ((lot s).left ++ (lot s).right)) row) where
    none_by_one : list_all (λ s. is_none ((lot s).left ++ (lot s).right)) row ≡ list_all (λ l. is_none (l.left ++ l.right)) (map lot now)
    none_by_one = ap (list_all (λ s. is_none ((lot s).left ++ (lot s).right))) same ∙ sym (list_all-map (λ (l : Lot T). is_none (l.left ++ l.right)) lot now)

    -- at the end, nothing waits in the row
    pub row_none : length row ≤ i → true ≡ list_all (λ l. is_none (l.left ++ l.right)) (map lot now)
    row_none l = all_passed (λ s. is_none ((lot s).left ++ (lot s).right)) row i l so_far ∙ none_by_one

    -- a station where something waits decides the question
    pub row_some : (s : Station T) → i < length row → s ≡ get_or row i s → (b : Bool) → b ≡ is_none ((lot s).left ++ (lot s).right) → b ≡ false → false ≡ list_all (λ l. is_none (l.left ++ l.right)) (map lot now)
    row_some s l e b d h = not_passed (λ s. is_none ((lot s).left ++ (lot s).right)) row i s l e so_far (sym d ∙ h) ∙ none_by_one

  -- whether nothing waits, node by node
  module _ (stations now : List (List (Station T))) (same : stations ≡ now) (i : ℕ)
      (so_far : list_all (λ row. list_all (λ l. is_none (l.left ++ l.right)) (map lot row)) (drop i stations) ≡ list_all (λ row. list_all (λ l. is_none (l.left ++ l.right)) (map lot row)) stations) where
    none_by_row : list_all (λ row. list_all (λ l. is_none (l.left ++ l.right)) (map lot row)) stations ≡ is_none (all_bundles (lots now))
    none_by_row =
        ap (list_all (λ row. list_all (λ l. is_none (l.left ++ l.right)) (map lot row))) same
        ∙ sym (none_anywhere (lots now) ∙ list_all-map (list_all (λ (l : Lot T). is_none (l.left ++ l.right))) (map lot) now)

    -- at the end, nothing waits anywhere
    pub all_none : length stations ≤ i → true ≡ is_none (all_bundles (lots now))
    all_none l = all_passed (λ row. list_all (λ l. is_none (l.left ++ l.right)) (map lot row)) stations i l so_far ∙ none_by_row

    -- a row where something waits decides the question
    pub all_some : (row : List (Station T)) → i < length stations → row ≡ get_or stations i row → (b : Bool) → b ≡ list_all (λ l. is_none (l.left ++ l.right)) (map lot row) → b ≡ false → false ≡ is_none (all_bundles (lots now))
    all_some row l e b d h = not_passed (λ row. list_all (λ l. is_none (l.left ++ l.right)) (map lot row)) stations i row l e so_far (sym d ∙ h) ∙ none_by_row

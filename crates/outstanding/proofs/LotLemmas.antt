-- The lists of all bundles and of all held times, against the stations that they are made from.
-- What a definition finds in such a list is what lies at the stations.
use Rattle.std.proofs.Common.{◌≡◌, ℕ, zero, suc, ◌+◌, ◌<◌, ◌≤◌, Bool, true, false, cond, ◌&&◌, ◌||◌, List, [], ◌∷◌, ◌++◌, map, length, get_or, take, sym, refl, ap, ap₂, ◌∙◌, eqb, arith, ⊎_elim}
use Rattle.std.specs.List.{flat_map, list_any, list_all}
use Rattle.std.proofs.lemmas.Bool.{and_from, eqb-true, eq-eqb, cases_lt}
use Rattle.std.proofs.lemmas.List.{append-nil, map_push, take_more, take_all, get_or_past}
use Rattle.std.proofs.lemmas.List.Concat.{flat_map-append}
use Rattle.std.proofs.lemmas.List.Folds.{flat_map-map, list_any-append, list_all-append, list_all-map}
use Rattle.plan.specs.Ancestors.{numbers_below}
use Rattle.histories.specs.declared.event.Site.{Site}
use Rattle.histories.specs.declared.event.HeldTime.{HeldTime}
use Rattle.histories.specs.Histories.States.{place, same_place, queue, held_at}
use Rattle.histories.specs.Histories.{held_entries}
use Rattle.outstanding.specs.Loads.{is_none, Load, Lot, bundle_at, no_lot, loads_at, lot_of, queue_of, bundles_of, bundles_in, all_bundles, held_in, all_held}
use Rattle.outstanding.specs.Stations.{lot}

-- ---- lists of lists, one after another

module _ {X Y : Type 0} where
  -- nested lists may be flattened from the inside or from the outside
  pub flat_flat : {Z : Type 0} (f : Y → List Z) (g : X → List Y) (xs : List X) → flat_map f (flat_map g xs) ≡ flat_map (λ x. flat_map f (g x)) xs
  flat_flat f g [] = refl
  flat_flat f g (x ∷ xs) = flat_map-append f (g x) (flat_map g xs) ∙ ap (λ ys. flat_map f (g x) ++ ys) (flat_flat f g xs)

  -- some element of a flat list passes if some piece has one that passes
  pub any_flat : (p : Y → Bool) (f : X → List Y) (xs : List X) → list_any p (flat_map f xs) ≡ list_any (λ x. list_any p (f x)) xs
  any_flat p f [] = refl
  any_flat p f (x ∷ xs) = list_any-append p (f x) (flat_map f xs) ∙ ap (λ b. list_any p (f x) || b) (any_flat p f xs)

  -- all elements of a flat list pass if those of each piece do
  pub all_flat : (p : Y → Bool) (f : X → List Y) (xs : List X) → list_all p (flat_map f xs) ≡ list_all (λ x. list_all p (f x)) xs
  all_flat p f [] = refl
  all_flat p f (x ∷ xs) = list_all-append p (f x) (flat_map f xs) ∙ ap (λ b. list_all p (f x) && b) (all_flat p f xs)

  -- a flat list is empty if each piece is
  pub none_flat : (f : X → List Y) (xs : List X) → is_none (flat_map f xs) ≡ list_all (λ x. is_none (f x)) xs
  none_flat f [] = refl
  none_flat f (x ∷ xs) = step (f x) ∙ ap (λ b. is_none (f x) && b) (none_flat f xs)
    where
      step : (ys : List Y) → is_none (ys ++ flat_map f xs) ≡ (is_none ys && is_none (flat_map f xs))
      step [] = refl
      step (y ∷ ys) = refl

  -- the flat list is empty if each piece is
  pub flat_empty : (f : X → List Y) (xs : List X) → ((x : X) → f x ≡ []) → flat_map f xs ≡ []
  flat_empty f [] e = refl
  flat_empty f (x ∷ xs) e = ap₂ (λ ys zs. ys ++ zs) (e x) (flat_empty f xs e)

-- ---- the numbers below a number

one_more : (n : ℕ) → n + 1 ≡ suc n
one_more n = omega arith

module _ {X : Type 0} where
  pub flat_more : (f : ℕ → List X) (n : ℕ) → flat_map f (numbers_below (suc n)) ≡ flat_map f (numbers_below n) ++ f n
  flat_more f n = flat_map-append f (numbers_below n) (n ∷ []) ∙ ap (λ xs. flat_map f (numbers_below n) ++ xs) (append-nil (f n))

  none_below : (f : ℕ → List X) (n : ℕ) → ((j : ℕ) → j < n → f j ≡ []) → flat_map f (numbers_below n) ≡ []
  none_below f zero e = refl
  none_below f (suc n) e = flat_more f n ∙ ap₂ (λ xs ys. xs ++ ys) (none_below f n (λ j l. e j (omega (arith, l)))) (e n (omega arith))

  one_below : (f : ℕ → List X) (i n : ℕ) → i < n → ((j : ℕ) → (i ≡ j → ⊥) → f j ≡ []) → flat_map f (numbers_below n) ≡ f i
  one_below f i zero l others = absurd (omega (arith, l))
  one_below f i (suc n) l others =
      flat_more f n
      ∙ ⊎_elim
      (λ k. ap₂ (λ xs ys. xs ++ ys) (one_below f i n k others) (others n (λ e. omega (arith, k, e))) ∙ append-nil (f i))
      (λ k. let same : n ≡ i = omega (arith, k, l) in ap₂ (λ xs ys. xs ++ ys) (none_below f n (λ j m. others j (λ e. omega (arith, k, m, e)))) (ap f same))
      (cases_lt i n)

  -- if at most number i has something, and i has nothing unless it is below n, then the numbers
  -- below n have together what i has
  pub only_at : (f : ℕ → List X) (i n : ℕ) → ((j : ℕ) → (i ≡ j → ⊥) → f j ≡ []) → (n ≤ i → f i ≡ []) → flat_map f (numbers_below n) ≡ f i
  only_at f i n others beyond =
      ⊎_elim
      (λ k. one_below f i n k others)
      (λ k. none_below f n (λ j m. others j (λ e. omega (arith, k, m, e))) ∙ sym (beyond k))
      (cases_lt i n)

  read_below : (xs : List X) (d : X) (n : ℕ) → n ≤ length xs → map (λ k. get_or xs k d) (numbers_below n) ≡ take n xs
  read_below xs d zero l = refl
  read_below xs d (suc n) l =
      map_push (λ k. get_or xs k d) (numbers_below n) n
      ∙ (ap (λ ys. ys ++ get_or xs n d ∷ []) (read_below xs d n (omega (arith, l)))
      ∙ (sym (take_more xs n d (omega (arith, l))) ∙ ap (λ k. take k xs) (one_more n)))

  -- the elements at the numbers below a list's length are the list
  numbered : (xs : List X) (d : X) → map (λ k. get_or xs k d) (numbers_below (length xs)) ≡ xs
  numbered xs d = read_below xs d (length xs) (omega arith) ∙ take_all (length xs) xs (omega arith)

  -- going over a list by its numbers gives what going over its elements gives
  pub flat_numbered : {Y : Type 0} (f : X → List Y) (xs : List X) (d : X) → flat_map (λ k. f (get_or xs k d)) (numbers_below (length xs)) ≡ flat_map f xs
  flat_numbered f xs d = sym (flat_map-map f (λ k. get_or xs k d) (numbers_below (length xs))) ∙ ap (flat_map f) (numbered xs d)

  -- a test of a list may go by its numbers
  pub all_numbered : (p : X → Bool) (xs : List X) (d : X) → list_all (λ k. p (get_or xs k d)) (numbers_below (length xs)) ≡ list_all p xs
  all_numbered p xs d = sym (list_all-map p (λ k. get_or xs k d) (numbers_below (length xs))) ∙ ap (list_all p) (numbered xs d)

-- ---- tests of places

pub no_and : (b : Bool) → (b && false) ≡ false
no_and true = refl
no_and false = refl

-- the test tells apart numbers that differ
pub apart : (i j : ℕ) → (i ≡ j → ⊥) → eqb j i ≡ false
apart i j e = step (eqb j i) refl
  where
    step : (c : Bool) → eqb j i ≡ c → eqb j i ≡ false
    step true s = absurd (e (sym (eqb-true j i s)))
    step false s = s

-- a place is the same as itself
pub same_self : (s : Site) → same_place s s ≡ true
same_self s = and_from (eqb s.node s.node) (eqb s.port s.port && eqb s.worker s.worker) (eq-eqb s.node s.node refl) (and_from (eqb s.port s.port) (eqb s.worker s.worker) (eq-eqb s.port s.port refl) (eq-eqb s.worker s.worker refl))

module _ {T : Type 0} where
  -- ---- the bundles of a place

  -- of the bundles of one place, a queue has all if it is the place's own, and none if not
  queue_at : (other site : Site) (c : Bool) → same_place other site ≡ c → (loads : List (Load T)) → queue site (map (bundle_at other) loads) ≡ cond c (map (bundle_at other) loads) []
  queue_at other site true e [] = refl
  queue_at other site false e [] = refl
  queue_at other site true e (load ∷ loads) = ap₂ (λ b bs. cond b (bundle_at other load ∷ []) [] ++ bs) e (queue_at other site true e loads)
  queue_at other site false e (load ∷ loads) = ap₂ (λ b bs. cond b (bundle_at other load ∷ []) [] ++ bs) e (queue_at other site false e loads)

  -- of the bundles of a lot, a queue has those of each port that is at its place
  queue_both : (n k : ℕ) (lot : Lot T) (site : Site) (c d : Bool) → same_place (place n 0 k) site ≡ c → same_place (place n 1 k) site ≡ d
      → queue site (bundles_of n k lot) ≡ cond c (map (bundle_at (place n 0 k)) lot.left) [] ++ cond d (map (bundle_at (place n 1 k)) lot.right) []
  queue_both n k lot site c d e f =
      flat_map-append (λ b. cond (same_place b.place site) (b ∷ []) []) (map (bundle_at (place n 0 k)) lot.left) (map (bundle_at (place n 1 k)) lot.right)
      ∙ ap₂ (λ xs ys. xs ++ ys) (queue_at (place n 0 k) site c e lot.left) (queue_at (place n 1 k) site d f lot.right)

  queue_here : (n k port : ℕ) (lot : Lot T) → queue (place n port k) (bundles_of n k lot) ≡ map (bundle_at (place n port k)) (loads_at port lot)
  queue_here n k zero lot = queue_both n k lot (place n 0 k) true false (same_self (place n 0 k)) (no_and (eqb n n)) ∙ append-nil (map (bundle_at (place n 0 k)) lot.left)
  queue_here n k (suc zero) lot = queue_both n k lot (place n 1 k) false true (no_and (eqb n n)) (same_self (place n 1 k))
  queue_here n k (suc (suc port)) lot = queue_both n k lot (place n (suc (suc port)) k) false false (other 0 (λ e. omega (arith, e))) (other 1 (λ e. omega (arith, e)))
    where
      other : (p : ℕ) → (suc (suc port) ≡ p → ⊥) → same_place (place n p k) (place n (suc (suc port)) k) ≡ false
      other p e = ap (λ b. eqb n n && (b && eqb k k)) (apart (suc (suc port)) p e) ∙ no_and (eqb n n)

  queue_elsewhere : (n k : ℕ) (lot : Lot T) (site : Site) → (eqb n site.node && eqb k site.worker) ≡ false → queue site (bundles_of n k lot) ≡ []
  queue_elsewhere n k lot site e = queue_both n k lot site false false (other (eqb n site.node) (eqb 0 site.port) (eqb k site.worker) e) (other (eqb n site.node) (eqb 1 site.port) (eqb k site.worker) e)
    where
      other : (a b c : Bool) → (a && c) ≡ false → (a && (b && c)) ≡ false
      other true true c f = f
      other true false c f = refl
      other false b c f = refl

  queue_in : (site : Site) (row : List (Lot T)) → queue site (bundles_in site.node row) ≡ map (bundle_at site) (loads_at site.port (get_or row site.worker no_lot))
  queue_in site row =
      flat_flat (λ b. cond (same_place b.place site) (b ∷ []) []) (λ k. bundles_of site.node k (get_or row k no_lot)) (numbers_below (length row))
      ∙ (only_at (λ k. queue site (bundles_of site.node k (get_or row k no_lot))) site.worker (length row)
      (λ k e. queue_elsewhere site.node k (get_or row k no_lot) site (ap (λ b. eqb site.node site.node && b) (apart site.worker k e) ∙ no_and (eqb site.node site.node)))
      (λ l. ap (λ lot. queue site (bundles_of site.node site.worker lot)) (get_or_past row site.worker no_lot l))
      ∙ queue_here site.node site.worker site.port (get_or row site.worker no_lot))

  queue_out : (site : Site) (n : ℕ) (row : List (Lot T)) → (site.node ≡ n → ⊥) → queue site (bundles_in n row) ≡ []
  queue_out site n row e =
      flat_flat (λ b. cond (same_place b.place site) (b ∷ []) []) (λ k. bundles_of n k (get_or row k no_lot)) (numbers_below (length row))
      ∙ flat_empty (λ k. queue site (bundles_of n k (get_or row k no_lot))) (numbers_below (length row)) (λ k. queue_elsewhere n k (get_or row k no_lot) site (ap (λ b. b && eqb k site.worker) (apart site.node n e)))

  -- the queue of a place, out of all bundles, is what waits at its lot
  pub all_queued : (stations : List (List (Lot T))) (site : Site) → queue site (all_bundles stations) ≡ queue_of stations site
  all_queued stations site =
      flat_flat (λ b. cond (same_place b.place site) (b ∷ []) []) (λ n. bundles_in n (get_or stations n [])) (numbers_below (length stations))
      ∙ (only_at (λ n. queue site (bundles_in n (get_or stations n []))) site.node (length stations)
      (λ n e. queue_out site n (get_or stations n []) e)
      (λ l. ap (λ row. queue site (bundles_in site.node row)) (get_or_past stations site.node [] l))
      ∙ queue_in site (get_or stations site.node []))

  -- ---- the times that are held

  held_like : (n k m j : ℕ) (c : Bool) → (eqb m n && eqb j k) ≡ c → (ts : List T) → held_at n k (held_entries m j ts) ≡ cond c ts []
  held_like n k m j true e [] = refl
  held_like n k m j false e [] = refl
  held_like n k m j true e (t ∷ ts) = ap₂ (λ b us. cond b (t ∷ []) [] ++ us) e (held_like n k m j true e ts)
  held_like n k m j false e (t ∷ ts) = ap₂ (λ b us. cond b (t ∷ []) [] ++ us) e (held_like n k m j false e ts)

  held_row : (n k : ℕ) (row : List (Lot T)) → held_at n k (held_in n row) ≡ (get_or row k no_lot).held
  held_row n k row =
      flat_flat (λ m. cond (eqb m.node n && eqb m.worker k) (m.time ∷ []) []) (λ j. held_entries n j (get_or row j no_lot).held) (numbers_below (length row))
      ∙ (only_at (λ j. held_at n k (held_entries n j (get_or row j no_lot).held)) k (length row)
      (λ j e. held_like n k n j false (ap (λ b. eqb n n && b) (apart k j e) ∙ no_and (eqb n n)) (get_or row j no_lot).held)
      (λ l. ap (λ lot. held_at n k (held_entries n k lot.held)) (get_or_past row k no_lot l))
      ∙ held_like n k n k true (and_from (eqb n n) (eqb k k) (eq-eqb n n refl) (eq-eqb k k refl)) (get_or row k no_lot).held)

  held_out : (n k m : ℕ) (row : List (Lot T)) → (n ≡ m → ⊥) → held_at n k (held_in m row) ≡ []
  held_out n k m row e =
      flat_flat (λ h. cond (eqb h.node n && eqb h.worker k) (h.time ∷ []) []) (λ j. held_entries m j (get_or row j no_lot).held) (numbers_below (length row))
      ∙ flat_empty (λ j. held_at n k (held_entries m j (get_or row j no_lot).held)) (numbers_below (length row)) (λ j. held_like n k m j false (ap (λ b. b && eqb j k) (apart n m e)) (get_or row j no_lot).held)

  -- the times that a worker holds at a node, out of all, are those of its lot
  pub all_held_at : (stations : List (List (Lot T))) (n k : ℕ) → held_at n k (all_held stations) ≡ (lot_of stations n k).held
  all_held_at stations n k =
      flat_flat (λ m. cond (eqb m.node n && eqb m.worker k) (m.time ∷ []) []) (λ m. held_in m (get_or stations m [])) (numbers_below (length stations))
      ∙ (only_at (λ m. held_at n k (held_in m (get_or stations m []))) n (length stations)
      (λ m e. held_out n k m (get_or stations m []) e)
      (λ l. ap (λ row. held_at n k (held_in n row)) (get_or_past stations n [] l))
      ∙ held_row n k (get_or stations n []))

  all_row : (f : ℕ → T → Bool) (n : ℕ) (row : List (Lot T)) → list_all (λ m. f m.node m.time) (held_in n row) ≡ list_all (λ k. list_all (f n) (get_or row k no_lot).held) (numbers_below (length row))
  all_row f n row =
      let held_by : ℕ → T → HeldTime T = λ k t. record { node = n; worker = k; time = t } in
      all_flat (λ m. f m.node m.time) (λ k. held_entries n k (get_or row k no_lot).held) (numbers_below (length row))
      ∙ ap (λ (p : ℕ → Bool). list_all p (numbers_below (length row))) (λ i k. list_all-map (λ m. f m.node m.time) (held_by k) (get_or row k no_lot).held i)

  -- asking worker by worker finds whether all held times pass a test
  pub all_held_all : (f : ℕ → T → Bool) (stations : List (List (Lot T)))
      → list_all (λ n. list_all (λ k. list_all (f n) (lot_of stations n k).held) (numbers_below (length (get_or stations n [])))) (numbers_below (length stations)) ≡ list_all (λ m. f m.node m.time) (all_held stations)
  all_held_all f stations =
      sym
      (all_flat (λ m. f m.node m.time) (λ n. held_in n (get_or stations n [])) (numbers_below (length stations))
      ∙ ap (λ (p : ℕ → Bool). list_all p (numbers_below (length stations))) (λ i n. all_row f n (get_or stations n []) i))

  -- ---- whether anything waits

  none_lot : (n k : ℕ) (lot : Lot T) → is_none (bundles_of n k lot) ≡ is_none (lot.left ++ lot.right)
  none_lot n k lot = step lot.left lot.right
    where
      step : (xs ys : List (Load T)) → is_none (map (bundle_at (place n 0 k)) xs ++ map (bundle_at (place n 1 k)) ys) ≡ is_none (xs ++ ys)
      step [] [] = refl
      step [] (y ∷ ys) = refl
      step (x ∷ xs) ys = refl

  none_row : (n : ℕ) (row : List (Lot T)) → is_none (bundles_in n row) ≡ list_all (λ lot. is_none (lot.left ++ lot.right)) row
  none_row n row =
      none_flat (λ k. bundles_of n k (get_or row k no_lot)) (numbers_below (length row))
      ∙ (ap (λ (p : ℕ → Bool). list_all p (numbers_below (length row))) (λ i k. none_lot n k (get_or row k no_lot) i)
      ∙ all_numbered (λ lot. is_none (lot.left ++ lot.right)) row no_lot)

  -- nothing waits anywhere exactly if nothing waits at any lot
  pub none_anywhere : (stations : List (List (Lot T))) → is_none (all_bundles stations) ≡ list_all (λ row. list_all (λ lot. is_none (lot.left ++ lot.right)) row) stations
  none_anywhere stations =
      none_flat (λ n. bundles_in n (get_or stations n [])) (numbers_below (length stations))
      ∙ (ap (λ (p : ℕ → Bool). list_all p (numbers_below (length stations))) (λ i n. none_row n (get_or stations n []) i)
      ∙ all_numbered (list_all (λ lot. is_none (lot.left ++ lot.right))) stations [])

-- How what a contract sees of the stations changes when a queue, a row or all stations are written.
use Rattle.std.proofs.Common.{◌≡◌, ℕ, zero, suc, ◌<◌, List, [], ◌∷◌, map, length, get_or, set, slice_get, Some, Result, Ok, Err, refl, sym, ap, subst, ◌∙◌, arith}
use Rattle.std.specs.List.{remove}
use Rattle.std.specs.Option.{IfSome, option_map}
use Rattle.std.specs.Result.{OnErr}
use Rattle.std.proofs.lemmas.List.{length-map, get_or-map, map-set, set-get_or, get_or-set_same}
use Rattle.std.proofs.lemmas.Option.{slice_get-get_or, slice_get-map}
use Rattle.histories.specs.declared.event.Site.{Site}
use Rattle.histories.specs.declared.event.Bundle.{Bundle}
use Rattle.outstanding.specs.Loads.{Load, Lot, no_lot, load_in, loads_at, lot_of, bundle_at, queue_of, put_at, put_all}

-- ---- one element of a list that is seen by a function

-- what holds in any case holds after a refusal
pub on_err_plain : {T E P : Type 0} (r : Result T E) → P → OnErr r P
on_err_plain (Ok x) p = tt
on_err_plain (Err y) p = p

-- removing an element and then mapping is mapping and then removing
map_remove : {X Y : Type 0} (f : X → Y) (xs : List X) (i : ℕ) → map f (remove xs i) ≡ remove (map f xs) i
map_remove f [] zero = refl
map_remove f [] (suc i) = refl
map_remove f (x ∷ xs) zero = refl
map_remove f (x ∷ xs) (suc i) = ap (λ ys. f x ∷ ys) (map_remove f xs i)

-- a number that is within what is seen is within the list
pub seen_within : {X Y : Type 0} (f : X → Y) (xs now : List X) → xs ≡ now → (i n : ℕ) → i ≡ n → n < length (map f now) → i < length xs
seen_within f xs now v i n k l = let long = length-map now f ∙ ap length (sym v) in omega (arith, long, k, l)

-- The list `xs` is written at `i`: `new` replaces `old`. A contract calls the list `now` and the
-- number `n`, and sees each element by `f`.
module _ {X : Type 0} (xs now : List X) (v : xs ≡ now) (i n : ℕ) (k : i ≡ n) (old new : X) (l : i < length xs) (e : old ≡ get_or xs i old) where
  module _ {Y : Type 0} (f : X → Y) where
    -- if the new element is seen as another, so is the list
    pub one_put : (g : Y → Y) (d : Y) → f new ≡ g (f old) → map f (set xs i new) ≡ set (map f now) n (g (get_or (map f now) n d))
    one_put g d h =
        map-set f xs i new
        ∙ (ap (set (map f xs) i) (h ∙ ap g (ap f e ∙ sym (get_or-map f xs i old d l)))
        ∙ (ap (λ ys. set (map f ys) i (g (get_or (map f ys) i d))) v
        ∙ ap (λ j. set (map f now) j (g (get_or (map f now) j d))) k))

    -- if the new element is seen as before, so is the list
    pub none_put : f new ≡ f old → map f (set xs i new) ≡ map f now
    none_put h = map-set f xs i new ∙ (ap (set (map f xs) i) (h ∙ (ap f e ∙ sym (get_or-map f xs i old (f old) l))) ∙ (set-get_or (map f xs) i (f old) ∙ ap (map f) v))

    -- the old element is what was seen at its number
    pub one_seen : (d : Y) → f old ≡ get_or (map f now) n d
    one_seen d = ap f e ∙ (sym (get_or-map f xs i old d l) ∙ (ap (λ ys. get_or (map f ys) i d) v ∙ ap (λ j. get_or (map f now) j d) k))

    -- removing the element removes what was seen, if it was seen as before
    pub one_gone : f new ≡ f old → map f (remove (set xs i new) i) ≡ remove (map f now) n
    one_gone h = map_remove f (set xs i new) i ∙ (ap (λ ys. remove ys i) (none_put h) ∙ ap (remove (map f now)) k)

    -- reading the written element is reading what was seen
    pub one_read : (x : X) → f new ≡ f old → x ≡ get_or (set xs i new) i x → slice_get (map f now) n ≡ Some (f x)
    one_read x h r =
        ap (λ ys. slice_get (map f ys) n) (sym v)
        ∙ (ap (slice_get (map f xs)) (sym k)
        ∙ (slice_get-get_or (map f xs) i (f old) (omega (arith, length-map xs f, l))
        ∙ ap Some (get_or-map f xs i old (f old) l ∙ (ap f (sym e) ∙ (sym h ∙ ap f (sym (r ∙ get_or-set_same xs i new x l)))))))

  -- a property of each element, by number, is kept if the written element keeps it
  pub each_kept : (P : X → Type 0) (j : ℕ) → (n ≡ j → P old → P new) → IfSome (slice_get now j) P → IfSome (slice_get (set xs i new) j) P
  each_kept P j step h = go xs i e j (λ s. step (sym k ∙ s)) (subst (λ ys. IfSome (slice_get ys j) P) (sym v) h)
    where
      go : (ys : List X) (m : ℕ) → old ≡ get_or ys m old → (j : ℕ) → (m ≡ j → P old → P new) → IfSome (slice_get ys j) P → IfSome (slice_get (set ys m new) j) P
      go [] m e j step h = h
      go (y ∷ ys) zero e zero step h = step refl (subst P (sym e) h)
      go (y ∷ ys) zero e (suc j) step h = h
      go (y ∷ ys) (suc m) e zero step h = h
      go (y ∷ ys) (suc m) e (suc j) step h = go ys m e j (λ s. step (ap suc s)) h

  -- a property of the element that a number reads, or of the default, is kept if the written
  -- element keeps it
  pub one_kept : (P : X → Type 0) (d : X) (j : ℕ) → (n ≡ j → P old → P new) → P (get_or now j d) → P (get_or (set xs i new) j d)
  one_kept P d j step h = go xs i e j (λ s. step (sym k ∙ s)) (subst (λ ys. P (get_or ys j d)) (sym v) h)
    where
      go : (ys : List X) (m : ℕ) → old ≡ get_or ys m old → (j : ℕ) → (m ≡ j → P old → P new) → P (get_or ys j d) → P (get_or (set ys m new) j d)
      go [] m e j step h = h
      go (y ∷ ys) zero e zero step h = step refl (subst P (sym e) h)
      go (y ∷ ys) zero e (suc j) step h = h
      go (y ∷ ys) (suc m) e zero step h = h
      go (y ∷ ys) (suc m) e (suc j) step h = go ys m e j (λ s. step (ap suc s)) h

  -- if a property of the old element gives one of the new element, the list has the new one at the
  -- number
  pub one_turned : (P Q : X → Type 0) → (P old → Q new) → IfSome (slice_get now n) P → IfSome (slice_get (set xs i new) n) Q
  one_turned P Q step h = subst (λ j. IfSome (slice_get (set xs i new) j) Q) k (go xs i e (subst (λ j. IfSome (slice_get xs j) P) (sym k) (subst (λ ys. IfSome (slice_get ys n) P) (sym v) h)))
    where
      go : (ys : List X) (m : ℕ) → old ≡ get_or ys m old → IfSome (slice_get ys m) P → IfSome (slice_get (set ys m new) m) Q
      go [] m e h = h
      go (y ∷ ys) zero e h = step (subst P (sym e) h)
      go (y ∷ ys) (suc m) e h = go ys m e h

  -- as `one_turned`, for what a number reads or the default
  pub new_turned : (P Q : X → Type 0) (d : X) → (P old → Q new) → P (get_or now n d) → Q (get_or (set xs i new) n d)
  new_turned P Q d step h = subst (λ j. Q (get_or (set xs i new) j d)) k (go xs i l e (subst (λ j. P (get_or xs j d)) (sym k) (subst (λ ys. P (get_or ys n d)) (sym v) h)))
    where
      go : (ys : List X) (m : ℕ) → m < length ys → old ≡ get_or ys m old → P (get_or ys m d) → Q (get_or (set ys m new) m d)
      go [] m l e h = absurd (omega (arith, l))
      go (y ∷ ys) zero l e h = step (subst P (sym e) h)
      go (y ∷ ys) (suc m) l e h = go ys m (omega (arith, l)) e h

  -- what holds of the new element holds of what is read there
  pub one_there : (Q : X → Type 0) → Q new → IfSome (slice_get (set xs i new) n) Q
  one_there Q h = go xs i n k
    where
      go : (ys : List X) (m j : ℕ) → m ≡ j → IfSome (slice_get (set ys m new) j) Q
      go [] m j k = tt
      go (y ∷ ys) zero zero k = h
      go (y ∷ ys) zero (suc j) k = absurd (omega (arith, k))
      go (y ∷ ys) (suc m) zero k = absurd (omega (arith, k))
      go (y ∷ ys) (suc m) (suc j) k = go ys m j (omega (arith, k))

  -- as `one_there`, for what a number reads or the default
  pub new_there : (Q : X → Type 0) (d : X) → Q new → Q (get_or (set xs i new) n d)
  new_there Q d h = subst (λ j. Q (get_or (set xs i new) j d)) k (subst Q (sym (get_or-set_same xs i new d l)) h)

module _ {T : Type 0} where
  -- if something waits for a worker, the worker exists
  pub worker_within : (port worker number : ℕ) (row : List (Lot T)) → number < length (loads_at port (get_or row worker no_lot)) → worker < length row
  worker_within zero worker number [] l = absurd (omega (arith, l))
  worker_within (suc zero) worker number [] l = absurd (omega (arith, l))
  worker_within (suc (suc port)) worker number [] l = absurd (omega (arith, l))
  worker_within port zero number (lot ∷ row) l = omega arith
  worker_within port (suc worker) number (lot ∷ row) l = let below = worker_within port worker number row l in omega (arith, below)

  pub node_within : (rows : List (List (Lot T))) (node worker : ℕ) → worker < length (get_or rows node []) → node < length rows
  node_within [] node worker l = absurd (omega (arith, l))
  node_within (row ∷ rows) zero worker l = omega arith
  node_within (row ∷ rows) (suc node) worker l = let below = node_within rows node worker l in omega (arith, below)

  -- a bundle that waits at a place is among the loads of the place's row
  pub waits_in_row : (rows : List (List (Lot T))) (site : Site) (number : ℕ) (row : List (Lot T)) → row ≡ get_or rows site.node [] → number < length (queue_of rows site) → number < length (loads_at site.port (get_or row site.worker no_lot))
  waits_in_row rows site number row e l =
      subst (λ (lots : List (Lot T)). number < length (loads_at site.port (get_or lots site.worker no_lot))) (sym e)
      (subst (λ n. number < n) (length-map (loads_at site.port (lot_of rows site.node site.worker)) (bundle_at site)) l)

  -- if something waits at a place, its node exists
  pub waits_at_node : (rows : List (List (Lot T))) (site : Site) (number : ℕ) → number < length (queue_of rows site) → site.node < length rows
  waits_at_node rows site number l = node_within rows site.node site.worker (worker_within site.port site.worker number (get_or rows site.node []) (waits_in_row rows site number (get_or rows site.node []) refl l))

  -- the load of a number is the bundle of that number
  pub waits_as_bundle : (rows : List (List (Lot T))) (site : Site) (number : ℕ) (row : List (Lot T)) (load : Load T) → row ≡ get_or rows site.node [] → slice_get (loads_at site.port (get_or row site.worker no_lot)) number ≡ Some load
      → slice_get (queue_of rows site) number ≡ Some (bundle_at site load)
  waits_as_bundle rows site number row load e h =
      slice_get-map (bundle_at site) (loads_at site.port (lot_of rows site.node site.worker)) number
      ∙ ap (option_map (bundle_at site)) (subst (λ (lots : List (Lot T)). slice_get (loads_at site.port (get_or lots site.worker no_lot)) number ≡ Some load) e h)

  -- ---- a list of bundles, each put at its place

  -- the other bundles are put after the first one was put
  pub put_next : (all : List (Bundle T)) (b : Bundle T) (rest : List (Bundle T)) (old new end : List (List (Lot T))) → all ≡ b ∷ rest → new ≡ put_at b.place (load_in b) old → put_all all old ≡ end → put_all rest new ≡ end
  put_next all b rest old new end e put h = ap (put_all rest) put ∙ (ap (λ (bs : List (Bundle T)). put_all bs old) (sym e) ∙ h)

  -- if no bundle is left, the stations are as they are to be
  pub put_last : (all : List (Bundle T)) (now end : List (List (Lot T))) → length all ≡ 0 → put_all all now ≡ end → now ≡ end
  put_last [] now end e h = h
  put_last (b ∷ bs) now end e h = absurd (omega (arith, e))

-- Steps of loops that read a list and append what they read, or some of it, to another.
use Rattle.std.proofs.Common.{◌≡◌, ℕ, ◌+◌, ◌<◌, ◌≤◌, Bool, true, false, cond, List, [], ◌∷◌, ◌++◌, map, take, length, get_or, replicate, sym, ap, ◌∙◌, append_assoc}
use Rattle.std.specs.List.{filter, flat_map}
use Rattle.std.proofs.lemmas.List.{take_more, take_all, take_at, replicate_more, map_push, map-append, append-nil}
use Rattle.std.proofs.lemmas.List.Concat.{flat_map-append}
use Rattle.std.proofs.lemmas.List.Elements.{filter-append}

module _ {X : Type 0} where
  -- the list that has been read, with the next element
  read_more : (xs : List X) (i : ℕ) (x : X) → i < length xs → x ≡ get_or xs i x → take (i + 1) xs ≡ take i xs ++ x ∷ []
  read_more xs i x l e = take_more xs i x l ∙ ap (λ y. take i xs ++ y ∷ []) (sym e)

  module _ {Y : Type 0} (F : List X → List Y) where
    -- what a function makes of the elements read, appended to what was there
    put : (old mid new more : List Y) (before after : List X) → F after ≡ F before ++ more → mid ≡ old ++ F before → new ≡ mid ++ more → new ≡ old ++ F after
    put old mid new more before after e m n = n ∙ (ap (λ ys. ys ++ more) m ∙ (append_assoc old (F before) more ∙ ap (λ ys. old ++ ys) (sym e)))

    -- at the end, what was appended is made of the whole list
    pub put_all : (old mid : List Y) (xs : List X) (i : ℕ) → length xs ≤ i → mid ≡ old ++ F (take i xs) → mid ≡ old ++ F xs
    put_all old mid xs i l m = m ∙ ap (λ ys. old ++ F ys) (take_all i xs l)

  -- what was there before stays in front
  pub put_behind : (old mid more : List X) → mid ≡ old ++ more → take (length old) mid ≡ old
  put_behind old mid more m = ap (take (length old)) m ∙ take_at old more (length old) (λ _. length old)

  -- what was there before stays in front, also after a call that changed nothing
  pub put_behind_more : (old mid new more : List X) → mid ≡ old ++ more → new ≡ mid → take (length old) new ≡ old
  put_behind_more old mid new more m n = put_behind old new more (n ∙ m)

  -- the step that appends one more equal element
  pub put_alike : (mid new : List X) (n : ℕ) (x y : X) → y ≡ x → mid ≡ replicate n x → new ≡ mid ++ y ∷ [] → new ≡ replicate (n + 1) x
  put_alike mid new n x y s m h = h ∙ (ap (λ z. mid ++ z ∷ []) s ∙ (ap (λ ys. ys ++ x ∷ []) m ∙ replicate_more n x))

  -- the step that appends the element that was read
  pub put_next : (old mid new xs : List X) (i : ℕ) (x y : X) → i < length xs → x ≡ get_or xs i x → y ≡ x → mid ≡ old ++ take i xs → new ≡ mid ++ y ∷ [] → new ≡ old ++ take (i + 1) xs
  put_next old mid new xs i x y l e s m n = put (λ ys. ys) old mid new (y ∷ []) (take i xs) (take (i + 1) xs) (read_more xs i x l e ∙ ap (λ z. take i xs ++ z ∷ []) (sym s)) m n

  -- the step that appends an image of the element
  pub put_image : {Y : Type 0} (f : X → Y) (old mid new : List Y) (xs : List X) (i : ℕ) (x : X) → i < length xs → x ≡ get_or xs i x → mid ≡ old ++ map f (take i xs) → new ≡ mid ++ f x ∷ [] → new ≡ old ++ map f (take (i + 1) xs)
  put_image f old mid new xs i x l e m n =
      put (map f) old mid new (f x ∷ []) (take i xs) (take (i + 1) xs) (ap (map f) (read_more xs i x l e) ∙ map_push f (take i xs) x) m n

  -- the step that appends a list made of the element
  pub put_images : {Y : Type 0} (f : X → List Y) (old mid new : List Y) (xs : List X) (i : ℕ) (x : X) → i < length xs → x ≡ get_or xs i x → mid ≡ old ++ flat_map f (take i xs) → new ≡ mid ++ f x → new ≡ old ++ flat_map f (take (i + 1) xs)
  put_images f old mid new xs i x l e m n =
      put (flat_map f) old mid new (f x) (take i xs) (take (i + 1) xs) (ap (flat_map f) (read_more xs i x l e) ∙ (flat_map-append f (take i xs) (x ∷ []) ∙ ap (λ ys. flat_map f (take i xs) ++ ys) (append-nil (f x)))) m n

  -- the step of a loop that appends a list made of each element that passes a test
  module _ {Y : Type 0} (test : X → Bool) (image : X → List Y) (old mid new : List Y) (xs : List X) (i : ℕ) (x : X) (l : i < length xs) (e : x ≡ get_or xs i x) where
    -- the step at an element that passes
    pub put_if : (now : List Y) → test x ≡ true → mid ≡ old ++ flat_map (λ y. cond (test y) (image y) []) (take i xs) → now ≡ mid ++ image x → new ≡ now → new ≡ old ++ flat_map (λ y. cond (test y) (image y) []) (take (i + 1) xs)
    put_if now h m n s =
        put_images (λ y. cond (test y) (image y) []) old mid new xs i x l e m (s ∙ (n ∙ ap (λ b. mid ++ cond b (image x) []) (sym h)))

    -- the step at an element that does not pass
    pub put_else : test x ≡ false → mid ≡ old ++ flat_map (λ y. cond (test y) (image y) []) (take i xs) → new ≡ mid → new ≡ old ++ flat_map (λ y. cond (test y) (image y) []) (take (i + 1) xs)
    put_else h m s =
        put_images (λ y. cond (test y) (image y) []) old mid new xs i x l e m (s ∙ (sym (append-nil mid) ∙ ap (λ b. mid ++ cond b (image x) []) (sym h)))

  -- the step of a loop that appends each element that passes a test
  module _ (p : X → Bool) (old mid new xs : List X) (i : ℕ) (x : X) (l : i < length xs) (e : x ≡ get_or xs i x) where
    test_more : (b : Bool) → p x ≡ b → filter p (take (i + 1) xs) ≡ filter p (take i xs) ++ cond b (x ∷ []) []
    test_more b h = ap (filter p) (read_more xs i x l e) ∙ (filter-append p (take i xs) (x ∷ []) ∙ ap (λ b. filter p (take i xs) ++ cond b (x ∷ []) []) h)

    -- the step at an element that passes
    pub put_kept : (now : List X) (y : X) → y ≡ x → p x ≡ true → mid ≡ old ++ filter p (take i xs) → now ≡ mid ++ y ∷ [] → new ≡ now → new ≡ old ++ filter p (take (i + 1) xs)
    put_kept now y s h m n t =
        put (filter p) old mid new (y ∷ []) (take i xs) (take (i + 1) xs) (test_more true h ∙ ap (λ z. filter p (take i xs) ++ z ∷ []) (sym s)) m (t ∙ n)

    -- the step at an element that does not pass
    pub put_left : p x ≡ false → mid ≡ old ++ filter p (take i xs) → new ≡ mid → new ≡ old ++ filter p (take (i + 1) xs)
    put_left h m t =
        put (filter p) old mid new [] (take i xs) (take (i + 1) xs) (test_more false h) m (t ∙ sym (append-nil mid))

  -- the step of a loop that appends an image of each element of which a second image passes a test
  module _ {Y Z : Type 0} (f : X → Y) (p : Y → Bool) (image : Y → Z) (mid new : List Z) (xs : List X) (i : ℕ) (x : X) (l : i < length xs) (e : x ≡ get_or xs i x) where
    passing_more : (b : Bool) → p (f x) ≡ b → map image (filter p (map f (take (i + 1) xs))) ≡ map image (filter p (map f (take i xs))) ++ map image (cond b (f x ∷ []) [])
    passing_more b h =
        ap (λ us. map image (filter p (map f us))) (read_more xs i x l e)
        ∙ (ap (λ ys. map image (filter p ys)) (map_push f (take i xs) x)
        ∙ (ap (map image) (filter-append p (map f (take i xs)) (f x ∷ []))
        ∙ (map-append image (filter p (map f (take i xs))) (cond (p (f x)) (f x ∷ []) [])
        ∙ ap (λ b. map image (filter p (map f (take i xs))) ++ map image (cond b (f x ∷ []) [])) h)))

    -- the step at an element that passes
    pub put_passing : (now : List Z) → p (f x) ≡ true → mid ≡ map image (filter p (map f (take i xs))) → now ≡ mid ++ image (f x) ∷ [] → new ≡ now → new ≡ map image (filter p (map f (take (i + 1) xs)))
    put_passing now h m n t = t ∙ (n ∙ (ap (λ ys. ys ++ image (f x) ∷ []) m ∙ sym (passing_more true h)))

    -- the step at an element that does not pass
    pub put_passed : p (f x) ≡ false → mid ≡ map image (filter p (map f (take i xs))) → new ≡ mid → new ≡ map image (filter p (map f (take (i + 1) xs)))
    put_passed h m t = t ∙ (m ∙ (sym (append-nil (map image (filter p (map f (take i xs))))) ∙ sym (passing_more false h)))

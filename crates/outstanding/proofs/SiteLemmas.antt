-- Lists whose entries lie at places, and what follows if two of them are alike at each place. A
-- board and a history keep the places in different orders, so this is how they are compared.
use Rattle.std.proofs.Common.{◌≡◌, ℕ, zero, suc, Bool, true, false, cond, not, ◌&&◌, ◌||◌, List, [], ◌∷◌, ◌++◌, sym, refl, ap, ap₂, ◌∙◌, subst, eqb, ◌⊎◌, inl, inr, ⊎_elim}
use Rattle.std.specs.List.{flat_map, filter, list_any, list_all}
use Rattle.std.proofs.lemmas.Bool.{and_parts, and_from, or_left, or_right, eqb-true, eq-eqb, false≢true, true≢false}
use Rattle.std.proofs.lemmas.List.Concat.{flat_map-append}
use Rattle.lattice.proofs.BoundLemmas.{same_test}
use Rattle.antichain.proofs.Lists.{Among, all_at, all_from}
use Rattle.histories.specs.declared.event.Site.{Site}
use Rattle.histories.specs.declared.event.Bundle.{Bundle}
use Rattle.histories.specs.declared.event.HeldTime.{HeldTime}
use Rattle.histories.specs.declared.event.OpenTime.{OpenTime}
use Rattle.histories.specs.Histories.States.{same_place, queue, held_at, open_at}
use Rattle.histories.specs.Histories.{without, is_held_by, open_entries}
use Rattle.histories.proofs.HistoryLemmas.FlowLemmas.{place_same}

-- if some element passes a test, there is an element of the list that passes
pub any_among : {A : Type 0} (f : A → Bool) (xs : List A) → list_any f xs ≡ true → (x : A) × Among x xs × (f x ≡ true)
any_among {A} f [] e = absurd (false≢true e)
any_among {A} f (x ∷ xs) e = step (f x) refl e (any_among f xs)
  where
    step : (c : Bool) → f x ≡ c → (c || list_any f xs) ≡ true → (list_any f xs ≡ true → (y : A) × Among y xs × (f y ≡ true)) → (y : A) × Among y (x ∷ xs) × (f y ≡ true)
    step true g k rest = (x, inl refl, g)
    step false g k rest = let r = rest k in (r.0, inr r.1, r.2)

-- if an element of the list passes a test, some element does
pub among_any : {A : Type 0} (f : A → Bool) (xs : List A) (x : A) → Among x xs → f x ≡ true → list_any f xs ≡ true
among_any f [] x a e = absurd a
among_any f (y ∷ xs) x a e = ⊎_elim (λ s. or_left (f y) (list_any f xs) (ap f s ∙ e)) (λ b. or_right (f y) (list_any f xs) (among_any f xs x b e)) a

-- Entries with a place and a value
module _ {A K V : Type 0} (is : A → K → Bool) (at_own : A → K) (value : A → V) (own : (x : A) → is x (at_own x) ≡ true) where
  abbrev at : K → List A → List V
  at k xs = flat_map (λ x. cond (is x k) (value x ∷ []) []) xs

  value_at : (x : A) (xs : List A) → Among x xs → Among (value x) (at (at_own x) xs)
  value_at x [] a = absurd a
  value_at x (y ∷ xs) a = ⊎_elim (λ e. subst (λ z. Among (value z) (at (at_own z) (y ∷ xs))) e (rw (own y) (inl refl))) (λ b. later (is y (at_own x)) (value_at x xs b)) a
    where
      later : (c : Bool) → Among (value x) (at (at_own x) xs) → Among (value x) (cond c (value y ∷ []) [] ++ at (at_own x) xs)
      later true b = inr b
      later false b = b

  entry_at : (k : K) (v : V) (xs : List A) → Among v (at k xs) → (x : A) × Among x xs × (is x k ≡ true) × (value x ≡ v)
  entry_at k v [] a = absurd a
  entry_at k v (y ∷ xs) a = step (is y k) refl a (entry_at k v xs)
    where
      more : (x : A) × Among x xs × (is x k ≡ true) × (value x ≡ v) → (x : A) × Among x (y ∷ xs) × (is x k ≡ true) × (value x ≡ v)
      more r = (r.0, inr r.1, r.2, r.3)

      step : (c : Bool) → is y k ≡ c → Among v (cond c (value y ∷ []) [] ++ at k xs) → (Among v (at k xs) → (x : A) × Among x xs × (is x k ≡ true) × (value x ≡ v)) → (x : A) × Among x (y ∷ xs) × (is x k ≡ true) × (value x ≡ v)
      step true e b rest = ⊎_elim (λ s. (y, inl refl, e, s)) (λ m. more (rest m)) b
      step false e b rest = more (rest b)

  -- each entry of one list has its like in the other
  like_in : (xs ys : List A) → ((k : K) → at k xs ≡ at k ys) → (x : A) → Among x xs → (y : A) × Among y ys × (is y (at_own x) ≡ true) × (value y ≡ value x)
  like_in xs ys same x a = entry_at (at_own x) (value x) ys (subst (λ vs. Among (value x) vs) (same (at_own x)) (value_at x xs a))

  module _ (f : A → Bool) (like : (x y : A) → is y (at_own x) ≡ true → value y ≡ value x → f y ≡ f x) (xs ys : List A) (same : (k : K) → at k xs ≡ at k ys) where
    -- some entry passes a test in both lists or in neither
    pub any_like : list_any f xs ≡ list_any f ys
    any_like =
        same_test (list_any f xs) (list_any f ys)
        (λ e. let r = any_among f xs e in let s = like_in xs ys same r.0 r.1 in among_any f ys s.0 s.1 (like r.0 s.0 s.2 s.3 ∙ r.2))
        (λ e. let r = any_among f ys e in let s = like_in ys xs (λ k. sym (same k)) r.0 r.1 in among_any f xs s.0 s.1 (like r.0 s.0 s.2 s.3 ∙ r.2))

    -- all entries pass a test in both lists or not in both
    pub all_like : list_all f xs ≡ list_all f ys
    all_like =
        same_test (list_all f xs) (list_all f ys)
        (λ e. all_from f ys (λ y a. let s = like_in ys xs (λ k. sym (same k)) y a in sym (like y s.0 s.2 s.3) ∙ all_at f xs s.0 e s.1))
        (λ e. all_from f xs (λ x a. let s = like_in xs ys same x a in sym (like x s.0 s.2 s.3) ∙ all_at f ys s.0 e s.1))

  -- if nothing is at any place, the list is empty
  pub nothing_at : (xs : List A) → ((k : K) → at k xs ≡ []) → xs ≡ []
  nothing_at [] e = refl
  nothing_at (x ∷ xs) e = absurd (subst (λ vs. Among (value x) vs) (e (at_own x)) (value_at x (x ∷ xs) (inl refl)))

  -- after the entries of one place are dropped, the lists are still alike at each place
  at_others : (k gone : K) → ((x : A) → is x k ≡ is x gone) ⊎ ((x : A) → is x k ≡ true → is x gone ≡ false) → (xs ys : List A) → at k xs ≡ at k ys → at k (filter (λ x. not (is x gone)) xs) ≡ at k (filter (λ x. not (is x gone)) ys)
  at_others k gone which xs ys e =
      ⊎_elim
      (λ same. none same xs ∙ sym (none same ys))
      (λ apart. all apart xs ∙ (e ∙ sym (all apart ys)))
      which
    where
      none : ((x : A) → is x k ≡ is x gone) → (zs : List A) → at k (filter (λ x. not (is x gone)) zs) ≡ []
      none same [] = refl
      none same (z ∷ zs) = step (is z gone) refl (none same zs)
        where
          step : (c : Bool) → is z gone ≡ c → at k (filter (λ x. not (is x gone)) zs) ≡ [] → at k (cond (not c) (z ∷ filter (λ x. not (is x gone)) zs) (filter (λ x. not (is x gone)) zs)) ≡ []
          step true g h = h
          step false g h = rw (same z ∙ g) h

      all : ((x : A) → is x k ≡ true → is x gone ≡ false) → (zs : List A) → at k (filter (λ x. not (is x gone)) zs) ≡ at k zs
      all apart [] = refl
      all apart (z ∷ zs) = step (is z gone) refl (is z k) refl (all apart zs)
        where
          step : (c : Bool) → is z gone ≡ c → (d : Bool) → is z k ≡ d → at k (filter (λ x. not (is x gone)) zs) ≡ at k zs → at k (cond (not c) (z ∷ filter (λ x. not (is x gone)) zs) (filter (λ x. not (is x gone)) zs)) ≡ cond d (value z ∷ []) [] ++ at k zs
          step true g true f h = absurd (true≢false (sym g ∙ apart z f))
          step true g false f h = h
          step false g d f h = rw f (ap (λ vs. cond d (value z ∷ []) [] ++ vs) h)

-- ---- bundles

-- a list without the element of a number
abbrev pub less : {A : Type 0} → List A → ℕ → List A
less [] n = []
less (x ∷ xs) zero = xs
less (x ∷ xs) (suc n) = x ∷ less xs n

module _ {T : Type 0} where
  one_site : (b : Bundle T) → same_place b.place b.place ≡ true
  one_site b = same_self b.place
    where
      same_self : (s : Site) → same_place s s ≡ true
      same_self s = and_from (eqb s.node s.node) (eqb s.port s.port && eqb s.worker s.worker) (eq-eqb s.node s.node refl) (and_from (eqb s.port s.port) (eqb s.worker s.worker) (eq-eqb s.port s.port refl) (eq-eqb s.worker s.worker refl))

  -- two lists of bundles are alike at each place
  abbrev pub AreQueued : List (Bundle T) → List (Bundle T) → Type 0
  AreQueued xs ys = (site : Site) → queue site xs ≡ queue site ys

  -- lists of bundles that are alike at each place pass the same tests
  pub queued_any : (f : Bundle T → Bool) (xs ys : List (Bundle T)) → AreQueued xs ys → list_any f xs ≡ list_any f ys
  queued_any f xs ys same = any_like (λ b. same_place b.place) (λ b. b.place) (λ b. b) one_site f (λ x y e v. ap f v) xs ys same

  -- a list that is alike to the empty list is empty
  pub none_queued : (xs : List (Bundle T)) → AreQueued xs [] → xs ≡ []
  none_queued xs e = nothing_at (λ b. same_place b.place) (λ b. b.place) (λ b. b) one_site xs e

  -- lists that are alike at each place still are with more bundles behind both
  pub queued_more : (xs ys more : List (Bundle T)) → AreQueued xs ys → AreQueued (xs ++ more) (ys ++ more)
  queued_more xs ys more same site =
      flat_map-append (λ b. cond (same_place b.place site) (b ∷ []) []) xs more
      ∙ (ap (λ q. q ++ queue site more) (same site)
      ∙ sym (flat_map-append (λ b. cond (same_place b.place site) (b ∷ []) []) ys more))

  -- a take from the log is a take from the place's queue
  pub queue_less : (site : Site) (xs : List (Bundle T)) (n : ℕ) → queue site (without site xs n) ≡ less (queue site xs) n
  queue_less site [] n = refl
  queue_less site (x ∷ xs) zero = step (same_place x.place site) refl (queue_less site xs zero)
    where
      step : (c : Bool) → same_place x.place site ≡ c → queue site (without site xs zero) ≡ less (queue site xs) zero → queue site (cond c xs (x ∷ without site xs zero)) ≡ less (cond c (x ∷ []) [] ++ queue site xs) zero
      step true e h = refl
      step false e h = rw e h
  queue_less site (x ∷ xs) (suc n) = step (same_place x.place site) refl (queue_less site xs n) (queue_less site xs (suc n))
    where
      step : (c : Bool) → same_place x.place site ≡ c → queue site (without site xs n) ≡ less (queue site xs) n → queue site (without site xs (suc n)) ≡ less (queue site xs) (suc n)
          → queue site (x ∷ cond c (without site xs n) (without site xs (suc n))) ≡ less (cond c (x ∷ []) [] ++ queue site xs) (suc n)
      step true e h k = rw e (ap (λ q. x ∷ q) h)
      step false e h k = rw e k

  -- a take at one place leaves the queues of others
  pub queue_other : (site other : Site) → ((p : Site) → same_place p site ≡ true → same_place p other ≡ false) → (xs : List (Bundle T)) (n : ℕ) → queue other (without site xs n) ≡ queue other xs
  queue_other site other apart [] n = refl
  queue_other site other apart (x ∷ xs) zero = step (same_place x.place site) refl (queue_other site other apart xs zero)
    where
      step : (c : Bool) → same_place x.place site ≡ c → queue other (without site xs zero) ≡ queue other xs → queue other (cond c xs (x ∷ without site xs zero)) ≡ cond (same_place x.place other) (x ∷ []) [] ++ queue other xs
      step true e h = rw (apart x.place e) refl
      step false e h = ap (λ q. cond (same_place x.place other) (x ∷ []) [] ++ q) h
  queue_other site other apart (x ∷ xs) (suc n) = ap (λ q. cond (same_place x.place other) (x ∷ []) [] ++ q) (step (same_place x.place site) (queue_other site other apart xs n) (queue_other site other apart xs (suc n)))
    where
      step : (c : Bool) → queue other (without site xs n) ≡ queue other xs → queue other (without site xs (suc n)) ≡ queue other xs → queue other (cond c (without site xs n) (without site xs (suc n))) ≡ queue other xs
      step true h k = h
      step false h k = k

  -- lists that are alike at each place still are after a take from both
  pub queued_less : (xs ys : List (Bundle T)) (site : Site) (n : ℕ) → AreQueued xs ys → AreQueued (without site xs n) (without site ys n)
  queued_less xs ys site n same other = step (same_place site other) refl
    where
      step : (c : Bool) → same_place site other ≡ c → queue other (without site xs n) ≡ queue other (without site ys n)
      step true e = subst (λ o. queue o (without site xs n) ≡ queue o (without site ys n)) (place_same site other e) (queue_less site xs n ∙ (ap (λ q. less q n) (same site) ∙ sym (queue_less site ys n)))
      step false e = queue_other site other apart xs n ∙ (same other ∙ sym (queue_other site other apart ys n))
        where
          apart : (p : Site) → same_place p site ≡ true → same_place p other ≡ false
          apart p f = ap (λ q. same_place q other) (place_same p site f) ∙ e

  -- ---- held times

  -- two lists of held times are alike at each node and worker
  abbrev pub AreHeld : List (HeldTime T) → List (HeldTime T) → Type 0
  AreHeld xs ys = (n k : ℕ) → held_at n k xs ≡ held_at n k ys

  abbrev holds_at : HeldTime T → ℕ × ℕ → Bool
  holds_at m at = eqb m.node at.0 && eqb m.worker at.1

  one_holder : (m : HeldTime T) → holds_at m (m.node, m.worker) ≡ true
  one_holder m = and_from (eqb m.node m.node) (eqb m.worker m.worker) (eq-eqb m.node m.node refl) (eq-eqb m.worker m.worker refl)

  module _ (f : ℕ → T → Bool) (xs ys : List (HeldTime T)) (same : AreHeld xs ys) where
    like_held : (x y : HeldTime T) → holds_at y (x.node, x.worker) ≡ true → y.time ≡ x.time → f y.node y.time ≡ f x.node x.time
    like_held x y e v = ap₂ f (eqb-true y.node x.node (and_parts (eqb y.node x.node) (eqb y.worker x.worker) e).0) v

    -- some time passes a test in both lists or in neither
    pub held_any_like : list_any (λ m. f m.node m.time) xs ≡ list_any (λ m. f m.node m.time) ys
    held_any_like = any_like holds_at (λ m. (m.node, m.worker)) (λ m. m.time) one_holder (λ m. f m.node m.time) like_held xs ys (λ at. same at.0 at.1)

    -- all times pass a test in both lists or not in both
    pub held_all_like : list_all (λ m. f m.node m.time) xs ≡ list_all (λ m. f m.node m.time) ys
    held_all_like = all_like holds_at (λ m. (m.node, m.worker)) (λ m. m.time) one_holder (λ m. f m.node m.time) like_held xs ys (λ at. same at.0 at.1)

  -- a list that is alike to the empty list is empty
  pub none_held : (xs : List (HeldTime T)) → AreHeld xs [] → xs ≡ []
  none_held xs e = nothing_at holds_at (λ m. (m.node, m.worker)) (λ m. m.time) one_holder xs (λ at. e at.0 at.1)

  -- lists of alike held times still are with more times before both
  pub held_more : (xs ys more : List (HeldTime T)) → AreHeld xs ys → AreHeld (more ++ xs) (more ++ ys)
  held_more xs ys more same n k =
      flat_map-append (λ m. cond (is_held_by n k m) (m.time ∷ []) []) more xs
      ∙ (ap (λ q. held_at n k more ++ q) (same n k)
      ∙ sym (flat_map-append (λ m. cond (is_held_by n k m) (m.time ∷ []) []) more ys))

  -- lists of alike held times still are with more times behind both
  pub held_behind : (xs ys more : List (HeldTime T)) → AreHeld xs ys → AreHeld (xs ++ more) (ys ++ more)
  held_behind xs ys more same n k =
      flat_map-append (λ m. cond (is_held_by n k m) (m.time ∷ []) []) xs more
      ∙ (ap (λ q. q ++ held_at n k more) (same n k)
      ∙ sym (flat_map-append (λ m. cond (is_held_by n k m) (m.time ∷ []) []) ys more))

  -- lists of alike held times still are after one worker's times at a node are dropped from both
  pub held_others : (xs ys : List (HeldTime T)) (n k : ℕ) → AreHeld xs ys → AreHeld (filter (λ m. not (is_held_by n k m)) xs) (filter (λ m. not (is_held_by n k m)) ys)
  held_others xs ys n k same m j = at_others holds_at (λ m. (m.node, m.worker)) (λ m. m.time) one_holder (m, j) (n, k) (step (eqb m n) refl (eqb j k) refl) xs ys (same m j)
    where
      step : (c : Bool) → eqb m n ≡ c → (d : Bool) → eqb j k ≡ d → ((x : HeldTime T) → holds_at x (m, j) ≡ holds_at x (n, k)) ⊎ ((x : HeldTime T) → holds_at x (m, j) ≡ true → holds_at x (n, k) ≡ false)
      step true e true f = inl (λ x. ap₂ (λ a b. is_held_by a b x) (eqb-true m n e) (eqb-true j k f))
      step true e false f = inr (λ x h. rw (eqb-true x.worker j (and_parts (eqb x.node m) (eqb x.worker j) h).1, f) (no_and (eqb x.node n)))
        where
          no_and : (b : Bool) → (b && false) ≡ false
          no_and true = refl
          no_and false = refl
      step false e d f = inr (λ x h. rw (eqb-true x.node m (and_parts (eqb x.node m) (eqb x.worker j) h).0, e) refl)

  -- ---- open times

  -- two lists of open times are alike at each input
  abbrev pub AreOpen : List (OpenTime T) → List (OpenTime T) → Type 0
  AreOpen xs ys = (i : ℕ) → open_at i xs ≡ open_at i ys

  -- some time passes a test in both lists or in neither
  pub open_any_like : (f : ℕ → T → Bool) (xs ys : List (OpenTime T)) → AreOpen xs ys → list_any (λ o. f o.input o.time) xs ≡ list_any (λ o. f o.input o.time) ys
  open_any_like f xs ys same = any_like (λ o. eqb o.input) (λ o. o.input) (λ o. o.time) (λ o. eq-eqb o.input o.input refl) (λ o. f o.input o.time) (λ x y e v. ap₂ f (eqb-true y.input x.input e) v) xs ys same

  -- lists of alike open times still are after an input's frontier is replaced in both
  pub open_instead : (xs ys : List (OpenTime T)) (i : ℕ) (ts : List T) → AreOpen xs ys → AreOpen (open_entries i ts ++ filter (λ o. not (eqb o.input i)) xs) (open_entries i ts ++ filter (λ o. not (eqb o.input i)) ys)
  open_instead xs ys i ts same j =
      flat_map-append (λ o. cond (eqb o.input j) (o.time ∷ []) []) (open_entries i ts) (filter (λ o. not (eqb o.input i)) xs)
      ∙ (ap (λ q. open_at j (open_entries i ts) ++ q) (at_others (λ o. eqb o.input) (λ o. o.input) (λ o. o.time) (λ o. eq-eqb o.input o.input refl) j i (step (eqb j i) refl) xs ys (same j))
      ∙ sym (flat_map-append (λ o. cond (eqb o.input j) (o.time ∷ []) []) (open_entries i ts) (filter (λ o. not (eqb o.input i)) ys)))
    where
      step : (c : Bool) → eqb j i ≡ c → ((x : OpenTime T) → eqb x.input j ≡ eqb x.input i) ⊎ ((x : OpenTime T) → eqb x.input j ≡ true → eqb x.input i ≡ false)
      step true e = inl (λ x. ap (eqb x.input) (eqb-true j i e))
      step false e = inr (λ x h. ap (λ n. eqb n i) (eqb-true x.input j h) ∙ e)

-- The frontiers of the inputs, kept by node on a board and as one log of open times in a history,
-- and how one is found from the other.
use Rattle.std.proofs.Common.{◌≡◌, ℕ, zero, suc, ◌+◌, ◌<◌, ◌≤◌, Bool, true, false, cond, not, ◌&&◌, ◌||◌, List, [], ◌∷◌, ◌++◌, map, take, length, get_or, set, get_or-set_same, get_or-set_other, sym, refl, ap, ap₂, ◌∙◌, subst, eqb, arith, append_assoc, ◌⊎◌, inl, inr, ⊎_elim}
use Rattle.std.specs.List.{filter, flat_map, list_any, list_all}
use Rattle.std.proofs.lemmas.Bool.{eqb-true, eq-eqb, false≢true, or_left, or_right, cases_lt}
use Rattle.std.proofs.lemmas.List.{append-nil, get_or-map, map_push, take_more, take_all}
use Rattle.std.proofs.lemmas.List.Concat.{flat_map-append}
use Rattle.std.proofs.lemmas.List.Folds.{list_any-append, list_all-append}
use Rattle.std.proofs.lemmas.Option.{unwrap_or-slice_get}
use Rattle.lattice.specs.Times.{Times}
use Rattle.lattice.specs.Frontiers.{is_beyond}
use Rattle.plan.specs.Ancestors.{numbers_below}
use Rattle.plan.specs.Edges.{numbers_where}
use Rattle.plan.specs.Nodes.{node_at, is_input}
use Rattle.plan.specs.declared.node.Node.{Node}
use Rattle.plan.specs.declared.node.Node.TheVariants.{Input}
use Rattle.histories.specs.declared.event.OpenTime.{OpenTime}
use Rattle.histories.specs.Histories.States.{open_at}
use Rattle.histories.proofs.HistoryLemmas.OutstandingLemmas.{open_where}
use Rattle.histories.specs.Histories.{open_entries}
use Rattle.outstanding.specs.Inputs.{front_at, first_inputs}

-- ---- loops that ask something of the numbers below a number

one_more : (n : ℕ) → n + 1 ≡ suc n
one_more n = omega arith

-- if one number passes, some number does
pub any_below : (f : ℕ → Bool) (i n : ℕ) → i < n → f i ≡ true → list_any f (numbers_below n) ≡ true
any_below f i zero l e = absurd (omega (arith, l))
any_below f i (suc n) l e =
    list_any-append f (numbers_below n) (n ∷ [])
    ∙ ⊎_elim
    (λ k. or_left (list_any f (numbers_below n)) (f n || false) (any_below f i n k e))
    (λ k. let same : i ≡ n = omega (arith, k, l) in or_right (list_any f (numbers_below n)) (f n || false) (or_left (f n) false (ap f (sym same) ∙ e)))
    (cases_lt i n)

-- if no number so far passes, and the next does not, then still none does
pub none_next : (f : ℕ → Bool) (n : ℕ) → list_any f (numbers_below n) ≡ false → f n ≡ false → list_any f (numbers_below (n + 1)) ≡ false
none_next f n h e = ap (λ m. list_any f (numbers_below m)) (one_more n) ∙ (list_any-append f (numbers_below n) (n ∷ []) ∙ ap₂ (λ a b. a || (b || false)) h e)

-- if each number so far passes, and the next does, then still each does
pub all_next : (f : ℕ → Bool) (n : ℕ) → list_all f (numbers_below n) ≡ true → f n ≡ true → list_all f (numbers_below (n + 1)) ≡ true
all_next f n h e = ap (λ m. list_all f (numbers_below m)) (one_more n) ∙ (list_all-append f (numbers_below n) (n ∷ []) ∙ ap₂ (λ a b. a && (b && true)) h e)

-- if one number fails, not all pass
pub all_fails : (f : ℕ → Bool) (i n : ℕ) → i < n → f i ≡ false → list_all f (numbers_below n) ≡ false
all_fails f i zero l e = absurd (omega (arith, l))
all_fails f i (suc n) l e =
    list_all-append f (numbers_below n) (n ∷ [])
    ∙ ⊎_elim
    (λ k. ap (λ a. a && (f n && true)) (all_fails f i n k e))
    (λ k. let same : i ≡ n = omega (arith, k, l) in ap (λ b. list_all f (numbers_below n) && (b && true)) (ap f (sym same) ∙ e) ∙ and_false (list_all f (numbers_below n)))
    (cases_lt i n)
  where
    and_false : (b : Bool) → (b && false) ≡ false
    and_false true = refl
    and_false false = refl

-- what the numbers so far give, one after another, and then what the next one gives
pub give_next : {X : Type 0} (f : ℕ → List X) (old mid new : List X) (n : ℕ) → mid ≡ old ++ flat_map f (numbers_below n) → new ≡ mid ++ f n → new ≡ old ++ flat_map f (numbers_below (n + 1))
give_next f old mid new n m e =
    e
    ∙ (ap (λ xs. xs ++ f n) m
    ∙ (append_assoc old (flat_map f (numbers_below n)) (f n)
    ∙ ap (λ xs. old ++ xs) (sym (ap (λ k. flat_map f (numbers_below k)) (one_more n) ∙ (flat_map-append f (numbers_below n) (n ∷ []) ∙ ap (λ xs. flat_map f (numbers_below n) ++ xs) (append-nil (f n)))))))

-- ---- the times of each number, as one log of open times

module _ {T : Type 0} where
  -- the times of the numbers below n, as one log of open times
  abbrev pub spread : (ℕ → List T) → ℕ → List (OpenTime T)
  spread f n = flat_map (λ i. open_entries i (f i)) (numbers_below n)

  spread_more : (f : ℕ → List T) (n : ℕ) → spread f (suc n) ≡ spread f n ++ open_entries n (f n)
  spread_more f n = flat_map-append (λ i. open_entries i (f i)) (numbers_below n) (n ∷ []) ∙ ap (λ xs. spread f n ++ xs) (append-nil (open_entries n (f n)))

  open_in : (i n : ℕ) (ts : List T) (c : Bool) → eqb n i ≡ c → open_at i (open_entries n ts) ≡ cond c ts []
  open_in i n [] true e = refl
  open_in i n [] false e = refl
  open_in i n (t ∷ ts) true e = ap₂ (λ b us. cond b (t ∷ []) [] ++ us) e (open_in i n ts true e)
  open_in i n (t ∷ ts) false e = ap₂ (λ b us. cond b (t ∷ []) [] ++ us) e (open_in i n ts false e)

  open_more : (f : ℕ → List T) (i n : ℕ) → open_at i (spread f (suc n)) ≡ open_at i (spread f n) ++ open_at i (open_entries n (f n))
  open_more f i n = ap (open_at i) (spread_more f n) ∙ flat_map-append (λ o. cond (eqb o.input i) (o.time ∷ []) []) (spread f n) (open_entries n (f n))

  -- a log of the numbers below n has nothing for a number from n on
  pub open_beyond : (f : ℕ → List T) (i n : ℕ) → n ≤ i → open_at i (spread f n) ≡ []
  open_beyond f i zero l = refl
  open_beyond f i (suc n) l = open_more f i n ∙ ap₂ (λ xs ys. xs ++ ys) (open_beyond f i n (omega (arith, l))) (open_in i n (f n) false (other (eqb n i) refl))
    where
      other : (c : Bool) → eqb n i ≡ c → eqb n i ≡ false
      other true e = let same = eqb-true n i e in absurd (omega (arith, l, same))
      other false e = e

  -- a log of the numbers below n has for each of them its own times
  pub open_within : (f : ℕ → List T) (i n : ℕ) → i < n → open_at i (spread f n) ≡ f i
  open_within f i zero l = absurd (omega (arith, l))
  open_within f i (suc n) l =
      open_more f i n
      ∙ ⊎_elim
      (λ k. ap₂ (λ xs ys. xs ++ ys) (open_within f i n k) (open_in i n (f n) false (other k (eqb n i) refl)) ∙ append-nil (f i))
      (λ k. let same : n ≡ i = omega (arith, k, l) in ap₂ (λ xs ys. xs ++ ys) (open_beyond f i n k) (open_in i n (f n) true (eq-eqb n i same)) ∙ ap f same)
      (cases_lt i n)
    where
      other : i < n → (c : Bool) → eqb n i ≡ c → eqb n i ≡ false
      other k true e = let same = eqb-true n i e in absurd (omega (arith, k, same))
      other k false e = e

  -- in the log, the times of an input are its frontier
  pub open_on_at : (inputs : List (List T)) (n i : ℕ) → length inputs ≡ n → open_at i (spread (λ j. front_at j inputs) n) ≡ front_at i inputs
  open_on_at inputs n i long = by (cases_lt i n)
    where
      beyond : (xs : List (List T)) (j : ℕ) → length xs ≤ j → get_or xs j [] ≡ []
      beyond [] j l = refl
      beyond (x ∷ xs) zero l = absurd (omega (arith, l))
      beyond (x ∷ xs) (suc j) l = beyond xs j (omega (arith, l))

      by : (i < n) ⊎ (n ≤ i) → open_at i (spread (λ j. front_at j inputs) n) ≡ front_at i inputs
      by (inl k) = open_within (λ j. front_at j inputs) i n k
      by (inr k) = open_beyond (λ j. front_at j inputs) i n k ∙ sym (beyond inputs i (omega (arith, long, k)))

  -- after an input's frontier is replaced, the log has the new times for it, and the old ones for
  -- the others
  others_gone : (i : ℕ) (os : List (OpenTime T)) → open_at i (filter (λ o. not (eqb o.input i)) os) ≡ []
  others_gone i [] = refl
  others_gone i (o ∷ os) = step (eqb o.input i) refl (others_gone i os)
    where
      step : (c : Bool) → eqb o.input i ≡ c → open_at i (filter (λ o. not (eqb o.input i)) os) ≡ [] → open_at i (cond (not c) (o ∷ filter (λ o. not (eqb o.input i)) os) (filter (λ o. not (eqb o.input i)) os)) ≡ []
      step true e h = h
      step false e h = ap₂ (λ b us. cond b (o.time ∷ []) [] ++ us) e h

  others_stay : (i j : ℕ) → (i ≡ j → ⊥) → (os : List (OpenTime T)) → open_at j (filter (λ o. not (eqb o.input i)) os) ≡ open_at j os
  others_stay i j apart [] = refl
  others_stay i j apart (o ∷ os) = step (eqb o.input i) refl (others_stay i j apart os)
    where
      none : o.input ≡ i → (c : Bool) → eqb o.input j ≡ c → eqb o.input j ≡ false
      none same true e = absurd (apart (sym same ∙ eqb-true o.input j e))
      none same false e = e

      step : (c : Bool) → eqb o.input i ≡ c → open_at j (filter (λ o. not (eqb o.input i)) os) ≡ open_at j os → open_at j (cond (not c) (o ∷ filter (λ o. not (eqb o.input i)) os) (filter (λ o. not (eqb o.input i)) os)) ≡ cond (eqb o.input j) (o.time ∷ []) [] ++ open_at j os
      step true e h = h ∙ ap (λ b. cond b (o.time ∷ []) [] ++ open_at j os) (sym (none (eqb-true o.input i e) (eqb o.input j) refl))
      step false e h = ap (λ us. cond (eqb o.input j) (o.time ∷ []) [] ++ us) h

  -- an input whose frontier is replaced has the new times in the log
  pub open_moved : (i : ℕ) (ts : List T) (os : List (OpenTime T)) → open_at i (open_entries i ts ++ filter (λ o. not (eqb o.input i)) os) ≡ ts
  open_moved i ts os =
      flat_map-append (λ o. cond (eqb o.input i) (o.time ∷ []) []) (open_entries i ts) (filter (λ o. not (eqb o.input i)) os)
      ∙ (ap₂ (λ xs ys. xs ++ ys) (open_in i i ts true (eq-eqb i i refl)) (others_gone i os) ∙ append-nil ts)

  -- every other input has its old times in the log
  pub open_stays : (i j : ℕ) (ts : List T) (os : List (OpenTime T)) → (i ≡ j → ⊥) → open_at j (open_entries i ts ++ filter (λ o. not (eqb o.input i)) os) ≡ open_at j os
  open_stays i j ts os apart =
      flat_map-append (λ o. cond (eqb o.input j) (o.time ∷ []) []) (open_entries i ts) (filter (λ o. not (eqb o.input i)) os)
      ∙ ap₂ (λ xs ys. xs ++ ys) (open_in j i ts false (other (eqb i j) refl)) (others_stay i j apart os)
    where
      other : (c : Bool) → eqb i j ≡ c → eqb i j ≡ false
      other true e = absurd (apart (eqb-true i j e))
      other false e = e

  -- if the board and the log agree, they still do after an input's frontier is set in both
  pub open_set : (inputs : List (List T)) (i : ℕ) (ts : List T) (os : List (OpenTime T)) → i < length inputs → ((j : ℕ) → front_at j inputs ≡ open_at j os)
      → (j : ℕ) → front_at j (set inputs i ts) ≡ open_at j (open_entries i ts ++ filter (λ o. not (eqb o.input i)) os)
  open_set inputs i ts os l same j = by (eqb j i) refl
    where
      by : (c : Bool) → eqb j i ≡ c → front_at j (set inputs i ts) ≡ open_at j (open_entries i ts ++ filter (λ o. not (eqb o.input i)) os)
      by true f =
          subst (λ k. front_at k (set inputs i ts) ≡ open_at k (open_entries i ts ++ filter (λ o. not (eqb o.input i)) os)) (sym (eqb-true j i f))
          (get_or-set_same inputs i ts [] l ∙ sym (open_moved i ts os))
      by false f = get_or-set_other inputs i j ts [] (λ z. false≢true (sym f ∙ eq-eqb j i z)) ∙ (same j ∙ sym (open_stays i j ts os (λ z. false≢true (sym f ∙ eq-eqb j i (sym z)))))

  -- whether some open time is at or before t, input by input
  module _ (times : Times T) (there : ℕ → Bool) (t : T) where
    any_opening : (i : ℕ) (ts : List T) → list_any (λ o. there o.input && times.below o.time t) (open_entries i ts) ≡ (there i && is_beyond times ts t)
    any_opening i ts = step (there i) refl ts
      where
        step : (c : Bool) → there i ≡ c → (us : List T) → list_any (λ o. there o.input && times.below o.time t) (open_entries i us) ≡ (c && is_beyond times us t)
        step true e [] = refl
        step false e [] = refl
        step true e (u ∷ us) = ap₂ (λ b d. (b && times.below u t) || d) e (step true e us)
        step false e (u ∷ us) = ap₂ (λ b d. (b && times.below u t) || d) e (step false e us)

    -- some open time passes exactly if some input's frontier has such a time
    pub any_spread : (f : ℕ → List T) (n : ℕ) → list_any (λ o. there o.input && times.below o.time t) (spread f n) ≡ list_any (λ i. there i && is_beyond times (f i) t) (numbers_below n)
    any_spread f zero = refl
    any_spread f (suc n) =
        ap (list_any (λ o. there o.input && times.below o.time t)) (spread_more f n)
        ∙ (list_any-append (λ o. there o.input && times.below o.time t) (spread f n) (open_entries n (f n))
        ∙ (ap₂ (λ a b. a || b) (any_spread f n) (any_opening n (f n) ∙ sym (or_nothing (there n && is_beyond times (f n) t)))
        ∙ sym (list_any-append (λ i. there i && is_beyond times (f i) t) (numbers_below n) (n ∷ []))))
      where
        or_nothing : (b : Bool) → (b || false) ≡ b
        or_nothing true = refl
        or_nothing false = refl

  -- an input's open times count if the input passes the test
  where_opening : (there : ℕ → Bool) (i : ℕ) (c : Bool) → there i ≡ c → (ts : List T) → open_where there (open_entries i ts) ≡ cond c ts []
  where_opening there i true e [] = refl
  where_opening there i false e [] = refl
  where_opening there i true e (t ∷ ts) = ap₂ (λ b us. cond b (t ∷ []) [] ++ us) e (where_opening there i true e ts)
  where_opening there i false e (t ∷ ts) = ap₂ (λ b us. cond b (t ∷ []) [] ++ us) e (where_opening there i false e ts)

  -- the open times of the inputs that pass a test, input by input
  pub where_spread : (there : ℕ → Bool) (f : ℕ → List T) (n : ℕ) → open_where there (spread f n) ≡ flat_map (λ i. cond (there i) (f i) []) (numbers_below n)
  where_spread there f zero = refl
  where_spread there f (suc n) =
      ap (open_where there) (spread_more f n)
      ∙ (flat_map-append (λ o. cond (there o.input) (o.time ∷ []) []) (spread f n) (open_entries n (f n))
      ∙ (ap₂ (λ xs ys. xs ++ ys) (where_spread there f n) (where_opening there n (there n) refl (f n) ∙ sym (append-nil (cond (there n) (f n) [])))
      ∙ sym (flat_map-append (λ i. cond (there i) (f i) []) (numbers_below n) (n ∷ []))))

  -- ---- before the first event

  first_of : T → Node → List T
  first_of minimum node = cond (is_input node) (minimum ∷ []) []

  spread_inputs : (minimum : T) (p : List Node) (is : List ℕ) → flat_map (λ i. open_entries i (minimum ∷ [])) (filter (λ n. is_input (node_at p n)) is) ≡ flat_map (λ i. open_entries i (cond (is_input (node_at p i)) (minimum ∷ []) [])) is
  spread_inputs minimum p [] = refl
  spread_inputs minimum p (i ∷ is) = step (is_input (node_at p i)) (spread_inputs minimum p is)
    where
      step : (c : Bool) → flat_map (λ i. open_entries i (minimum ∷ [])) (filter (λ n. is_input (node_at p n)) is) ≡ flat_map (λ i. open_entries i (cond (is_input (node_at p i)) (minimum ∷ []) [])) is
          → flat_map (λ i. open_entries i (minimum ∷ [])) (cond c (i ∷ filter (λ n. is_input (node_at p n)) is) (filter (λ n. is_input (node_at p n)) is)) ≡ open_entries i (cond c (minimum ∷ []) []) ++ flat_map (λ i. open_entries i (cond (is_input (node_at p i)) (minimum ∷ []) [])) is
      step true h = ap (λ xs. open_entries i (minimum ∷ []) ++ xs) h
      step false h = h

  -- on a first board, each input's frontier is that of the first state
  pub first_front : (minimum : T) (p : List Node) (i : ℕ) → front_at i (first_inputs minimum p) ≡ open_at i (flat_map (λ i. open_entries i (minimum ∷ [])) (numbers_where is_input p))
  first_front minimum p i = by (cases_lt i (length p))
    where
      f : ℕ → List T
      f j = cond (is_input (node_at p j)) (minimum ∷ []) []

      all : open_at i (flat_map (λ i. open_entries i (minimum ∷ [])) (numbers_where is_input p)) ≡ open_at i (spread f (length p))
      all = ap (open_at i) (spread_inputs minimum p (numbers_below (length p)))

      beyond : (xs : List Node) (j : ℕ) → length xs ≤ j → get_or (map (λ node. cond (is_input node) (minimum ∷ []) []) xs) j [] ≡ []
      beyond [] j l = refl
      beyond (x ∷ xs) zero l = absurd (omega (arith, l))
      beyond (x ∷ xs) (suc j) l = beyond xs j (omega (arith, l))

      by : (i < length p) ⊎ (length p ≤ i) → front_at i (first_inputs minimum p) ≡ open_at i (flat_map (λ i. open_entries i (minimum ∷ [])) (numbers_where is_input p))
      by (inl k) =
          get_or-map (λ node. cond (is_input node) (minimum ∷ []) []) p i (Input 0) [] k
          ∙ (ap (λ node. cond (is_input node) (minimum ∷ []) []) (sym (unwrap_or-slice_get p i (Input 0)))
          ∙ (sym (open_within f i (length p) k) ∙ sym all))
      by (inr k) = beyond p i k ∙ (sym (open_beyond f i (length p) k) ∙ sym all)

  -- the step that makes the first frontier of one more node
  pub first_more : (minimum : T) (p : List Node) (old new : List (List T)) (n : ℕ) (node : Node) (ts : List T) → n < length p → node ≡ node_at p n → ts ≡ cond (is_input node) (minimum ∷ []) []
      → old ≡ first_inputs minimum (take n p) → new ≡ old ++ ts ∷ [] → new ≡ first_inputs minimum (take (n + 1) p)
  first_more minimum p old new n node ts l is e m h =
      let f = λ (node : Node). cond (is_input node) (minimum ∷ []) [] in
      h
      ∙ (ap₂ (λ xs us. xs ++ us ∷ []) m (e ∙ ap f (is ∙ unwrap_or-slice_get p n (Input 0)))
      ∙ (sym (map_push f (take n p) (get_or p n (Input 0)))
      ∙ ap (map f) (sym (take_more p n (Input 0) l))))

  -- at the end, the first frontiers of all nodes are made
  pub first_all : (minimum : T) (p : List Node) (all : List (List T)) (n : ℕ) → length p ≤ n → all ≡ first_inputs minimum (take n p) → all ≡ first_inputs minimum p
  first_all minimum p all n l e = e ∙ ap (first_inputs minimum) (take_all n p l)

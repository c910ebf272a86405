-- Join closures: they stay closed under passed joins while times are added, and each passed time
-- has a last time of the closure at or before it, if there is any.
use Rattle.std.proofs.Common.{◌≡◌, ℕ, zero, suc, ◌+◌, ◌<◌, ◌≤◌, Bool, true, false, List, [], ◌∷◌, ◌++◌, map, take, length, get_or, IsTrue, ◌⊎◌, ⊎_elim, inl, inr, refl, ap, sym, subst, ◌∙◌, take_all, eq-or-lt_of_le, Result, Ok, Err, Vec, arith}
use Rattle.std.specs.Prelude.{IfOk}
use Rattle.std.specs.List.{All, AllByRecursion, Contains, filter}
use Rattle.std.specs.List.Sorted.{IsStrictlySortedBy}
use Rattle.std.specs.Ordering.{is_eq}
use Rattle.std.specs.declared.cmp.Ordering.{Ordering}
use Rattle.std.specs.declared.cmp.Ordering.TheVariants.{Less, Equal, Greater}
use Rattle.std.proofs.lemmas.List.{get_or-map, length-map}
use Rattle.std.proofs.lemmas.List.Elements.{All-from_recursion, recursion_from_All, All-contains, All-more, All-weaker, Contains-get_or, Contains-append_left, Contains-append_right, Contains-append_cases, Contains-push, Contains-push_cases}
use Rattle.std.proofs.lemmas.Bool.{true≢false, and_parts}
use Rattle.antichain.proofs.AntichainLemmas.{not_true, not_from}
use Rattle.antichain.proofs.Lists.{among_contains, contains_among, filter_has, filter_takes}
use Rattle.lattice.specs.Times.{Times}
use Rattle.lattice.specs.Frontiers.{is_beyond}
use Rattle.lattice.specs.Order.{PartialOrderLaws, LatticeLaws}
use Rattle.lattice.proofs.BoundLemmas.{join_commutes, join_associates, join_same}
use Rattle.lattice.proofs.FrontierLemmas.{beyond_up}
use Rattle.update.specs.declared.change.Update.{Update}
use Rattle.plan.specs.Ancestors.{feeds, reaches}
use Rattle.plan.specs.Changes.{has_passed}
use Rattle.plan.specs.Nodes.{node_at, is_input}
use Rattle.plan.specs.Rules.{IsPlan}
use Rattle.plan.specs.declared.node.Node.{Node}
use Rattle.plan.proofs.StandLemmas.{above_earlier}
use Rattle.oracle.specs.JoinClosures.{Covers, HasPassedTimes, HavePassed, IsClosed, IsJoinClosure}

-- times that compare as equal are equal
pub equal_from_eq : {T : Type 0} (eq : T → T → Bool) {cmp : T → T → Ordering} → ((x y : T) → eq x y ≡ is_eq (cmp x y)) → ((x y : T) → cmp x y ≡ Equal → x ≡ y) → (x y : T) → eq x y ≡ true → x ≡ y
equal_from_eq eq {cmp} ties exact x y e = exact x y (step (cmp x y) (sym (ties x y) ∙ e))
  where
    step : (o : Ordering) → is_eq o ≡ true → o ≡ Equal
    step Less h = absurd (true≢false (sym h))
    step Equal h = refl
    step Greater h = absurd (true≢false (sym h))

-- ---- membership

-- a mapped list has the image of each element
pub contains_map : {X Y : Type 0} (f : X → Y) (xs : List X) (x : X) → Contains xs x → Contains (map f xs) (f x)
contains_map f xs x c = (c.0, subst (λ n. c.0 < n) (sym (length-map xs f)) c.1, get_or-map f xs c.0 x (f x) c.1 ∙ ap f c.2)

-- each element of a mapped list is the image of one
pub contains_map_cases : {X Y : Type 0} (f : X → Y) (xs : List X) (y : Y) → Contains (map f xs) y → (x : X) × Contains xs x × (f x ≡ y)
contains_map_cases {X} {Y} f [] y c = absurd (omega (arith, c.1))
contains_map_cases {X} {Y} f (x ∷ xs) y c = step c.0 c.1 c.2 (λ k l e. contains_map_cases f xs y (k, l, e))
  where
    step : (k : ℕ) → k < length (map f (x ∷ xs)) → get_or (map f (x ∷ xs)) k y ≡ y
        → ((k : ℕ) → k < length (map f xs) → get_or (map f xs) k y ≡ y → (z : X) × Contains xs z × (f z ≡ y)) → (z : X) × Contains (x ∷ xs) z × (f z ≡ y)
    step zero l e rest = (x, (0, omega arith, refl), e)
    step (suc k) l e rest =
        let r = rest k (omega (arith, l)) e in
        (r.0, (suc r.1.0, omega (arith, r.1.1), r.1.2), r.2)

-- a filtered list has each element that passes the test
pub contains_filter : {X : Type 0} (p : X → Bool) (xs : List X) (x : X) → Contains xs x → IsTrue (p x) → Contains (filter p xs) x
contains_filter p xs x c h = contains_among x (filter p xs) (filter_takes p xs x (among_contains x xs c) h)

-- each element of a filtered list is one of the list and passes the test
pub contains_filter_parts : {X : Type 0} (p : X → Bool) (xs : List X) (x : X) → Contains (filter p xs) x → Contains xs x × IsTrue (p x)
contains_filter_parts p xs x c =
    let parts = filter_has p xs x (among_contains x (filter p xs) c) in
    (contains_among x xs parts.0, parts.1)

-- ---- closed under passed joins

-- a time at or before a passed time has passed
pub passed_before : {T : Type 0} {times : Times T} (o : PartialOrderLaws times) (frontier : List T) (s t : T) → IsTrue (times.below s t) → IsTrue (has_passed times frontier t) → IsTrue (has_passed times frontier s)
passed_before {T} {times} o frontier s t h k = not_from (is_beyond times frontier s) (λ c. not_true (is_beyond times frontier t) k (beyond_up o frontier s t c h))

module _ {T : Type 0} {times : Times T} (o : PartialOrderLaws times) (b : LatticeLaws times) (frontier : List T) where
  abbrev pub has : T → Bool
  has = has_passed times frontier

  -- the list with a time and its passed joins
  abbrev pub more : List T → T → List T
  more xs t = (xs ++ filter has (map (λ s. times.joined s t) xs)) ++ t ∷ []

  more_cases : (xs : List T) (t s : T) → Contains (more xs t) s → Contains xs s ⊎ (((r : T) × Contains xs r × (times.joined r t ≡ s)) ⊎ (t ≡ s))
  more_cases xs t s c =
      ⊎_elim
      (λ d. ⊎_elim (λ e. inl e) (λ e. inr (inl (contains_map_cases (λ s. times.joined s t) xs s (contains_filter_parts has (map (λ s. times.joined s t) xs) s e).0))) (Contains-append_cases xs (filter has (map (λ s. times.joined s t) xs)) s d))
      (λ e. inr (inr e))
      (Contains-push_cases (xs ++ filter has (map (λ s. times.joined s t) xs)) t s c)

  -- adding a time with its joins keeps the old times
  pub more_old : (xs : List T) (t s : T) → Contains xs s → Contains (more xs t) s
  more_old xs t s c = Contains-append_left (xs ++ filter has (map (λ s. times.joined s t) xs)) (t ∷ []) s (Contains-append_left xs (filter has (map (λ s. times.joined s t) xs)) s c)

  more_join : (xs : List T) (t s : T) → Contains xs s → IsTrue (has (times.joined s t)) → Contains (more xs t) (times.joined s t)
  more_join xs t s c h =
      Contains-append_left (xs ++ filter has (map (λ s. times.joined s t) xs)) (t ∷ []) (times.joined s t)
      (Contains-append_right xs (filter has (map (λ s. times.joined s t) xs)) (times.joined s t) (contains_filter has (map (λ s. times.joined s t) xs) (times.joined s t) (contains_map (λ s. times.joined s t) xs s c) h))

  -- adding a time with its joins adds the time
  pub more_new : (xs : List T) (t : T) → Contains (more xs t) t
  more_new xs t = Contains-push (xs ++ filter has (map (λ s. times.joined s t) xs)) t

  -- adding a passed time with its joins adds only passed times
  pub more_passed : (xs : List T) (t : T) → HavePassed times frontier xs → IsTrue (has t) → HavePassed times frontier (more xs t)
  more_passed xs t old h s c =
      ⊎_elim
      (λ d. ⊎_elim (λ e. old s e) (λ e. (contains_filter_parts has (map (λ s. times.joined s t) xs) s e).1) (Contains-append_cases xs (filter has (map (λ s. times.joined s t) xs)) s d))
      (λ e. subst (λ r. IsTrue (has r)) e h)
      (Contains-push_cases (xs ++ filter has (map (λ s. times.joined s t) xs)) t s c)

  -- joining r with t and then with s is the same as joining r with s and then with t
  past_left : (r s t : T) → times.joined (times.joined r t) s ≡ times.joined (times.joined r s) t
  past_left r s t = join_associates o b r t s ∙ (ap (times.joined r) (join_commutes o b t s) ∙ sym (join_associates o b r s t))

  past_both : (r s t : T) → times.joined (times.joined r t) (times.joined s t) ≡ times.joined (times.joined r s) t
  past_both r s t =
      past_left r (times.joined s t) t
      ∙ (ap (λ x. times.joined x t) (sym (join_associates o b r s t))
      ∙ (join_associates o b (times.joined r s) t t ∙ ap (times.joined (times.joined r s)) (join_same o b t)))

  -- adding a time with its passed joins keeps the list closed: if a join of three times has passed,
  -- so has the join of the first two
  pub more_closed : (xs : List T) (t : T) → IsClosed times frontier xs → IsClosed times frontier (more xs t)
  more_closed xs t closed s u c d h =
      ⊎_elim
      (λ e. ⊎_elim
      (λ f. more_old xs t (times.joined s u) (closed s u e f h))
      (λ f. ⊎_elim
      (λ g. of_two s g.0 e g.1 (join_associates o b s g.0 t ∙ ap (times.joined s) g.2))
      (λ g. of_one s e (ap (times.joined s) g)) f)
      (more_cases xs t u d))
      (λ e. ⊎_elim
      (λ f. ⊎_elim
      (λ g. of_two f.0 u f.1 g (sym (past_left f.0 u t) ∙ ap (λ x. times.joined x u) f.2))
      (λ g. ⊎_elim
      (λ k. of_two f.0 k.0 f.1 k.1 (sym (past_both f.0 k.0 t) ∙ (λ i. times.joined (f.2 i) (k.2 i))))
      (λ k. of_one f.0 f.1 (sym (join_associates o b f.0 t t ∙ ap (times.joined f.0) (join_same o b t)) ∙ (λ i. times.joined (f.2 i) (k i)))) g)
      (more_cases xs t u d))
      (λ f. ⊎_elim
      (λ g. of_one u g (join_commutes o b u t ∙ ap (λ x. times.joined x u) f))
      (λ g. ⊎_elim
      (λ k. of_one k.0 k.1 (sym (join_associates o b k.0 t t ∙ ap (times.joined k.0) (join_same o b t)) ∙ (join_commutes o b (times.joined k.0 t) t ∙ (λ i. times.joined (f i) (k.2 i)))))
      (λ k. subst (Contains (more xs t)) (sym (join_same o b t) ∙ (λ i. times.joined (f i) (k i))) (more_new xs t)) g)
      (more_cases xs t u d)) e)
      (more_cases xs t s c)
    where
      of_one : (r : T) → Contains xs r → times.joined r t ≡ times.joined s u → Contains (more xs t) (times.joined s u)
      of_one r k e = subst (Contains (more xs t)) e (more_join xs t r k (subst (λ x. IsTrue (has x)) (sym e) h))

      of_two : (q r : T) → Contains xs q → Contains xs r → times.joined (times.joined q r) t ≡ times.joined s u → Contains (more xs t) (times.joined s u)
      of_two q r k l e = of_one (times.joined q r) (closed q r k l (passed_before o frontier (times.joined q r) (times.joined s u) (subst (λ x. IsTrue (times.below (times.joined q r) x)) e (b.join_left (times.joined q r) t)) h)) e

-- being closed depends neither on the order of the times nor on duplicates
pub closed_same : {T : Type 0} (times : Times T) (frontier xs ys : List T) → ((t : T) → Contains xs t → Contains ys t) → ((t : T) → Contains ys t → Contains xs t) → IsClosed times frontier xs → IsClosed times frontier ys
closed_same times frontier xs ys to from closed s t c d h = to (times.joined s t) (closed s t (from s c) (from t d) h)

-- the empty list is closed under joins
pub closed_none : {T : Type 0} (times : Times T) (frontier : List T) → IsClosed times frontier []
closed_none times frontier s t c d h = absurd (omega (arith, c.1))

-- ---- which times a list has

module _ {T : Type 0} (times : Times T) (frontier : List T) where
  -- the empty list has no time that is still open
  pub passed_none : HavePassed times frontier []
  passed_none t c = absurd (omega (arith, c.1))

  -- appending passed times keeps all times passed
  pub passed_push : (old new ts : List T) → new ≡ old ++ filter (has_passed times frontier) ts → HavePassed times frontier old → HavePassed times frontier new
  passed_push old new ts e passed t c =
      ⊎_elim
      (λ d. passed t d)
      (λ d. (contains_filter_parts (has_passed times frontier) ts t d).1)
      (Contains-append_cases old (filter (has_passed times frontier) ts) t (subst (λ xs. Contains xs t) e c))

  -- a list with more times has the passed times of the same updates
  pub has_more : (xs ys : List T) (us : List (Update T)) → ((t : T) → Contains xs t → Contains ys t) → HasPassedTimes times frontier xs us → HasPassedTimes times frontier ys us
  has_more xs ys us to all k u within h = to (get_or us k u).time (all k u within h)

  -- appending the passed times of updates adds these times
  pub has_push : (old new : List T) (us : List (Update T)) → new ≡ old ++ filter (has_passed times frontier) (map (λ u. u.time) us) → HasPassedTimes times frontier new us
  has_push old new us e k u within h =
      subst (λ xs. Contains xs (get_or us k u).time) (sym e)
      (Contains-append_right old (filter (has_passed times frontier) (map (λ u. u.time) us)) (get_or us k u).time
      (contains_filter (has_passed times frontier) (map (λ u. u.time) us) (get_or us k u).time (contains_map (λ u. u.time) us (get_or us k u) (Contains-get_or us k u within)) h))

  module _ (p : List Node) (changes : ℕ → List (Update T)) (view : ℕ) where
    -- the list has the passed times of the inputs with numbers below n that feed the view
    abbrev pub CoversBelow : ℕ → List T → Type 0
    CoversBelow n elements = (input : ℕ) → input < n → IsTrue (feeds p input view) → HasPassedTimes times frontier elements (changes input)

    -- the step over a node that feeds the view
    pub covers_next : (old new : List T) (n : ℕ) (us : List (Update T)) → us ≡ changes n → new ≡ old ++ filter (has_passed times frontier) (map (λ u. u.time) us) → CoversBelow n old → CoversBelow (n + 1) new
    covers_next old new n us same e covers input l h =
        ⊎_elim
        (λ k. subst (λ m. HasPassedTimes times frontier new (changes m)) (sym k) (subst (HasPassedTimes times frontier new) same (has_push old new us e)))
        (λ k. has_more old new (changes input) (λ t c. subst (λ xs. Contains xs t) (sym e) (Contains-append_left old (filter (has_passed times frontier) (map (λ u. u.time) us)) t c)) (covers input k h))
        (eq-or-lt_of_le (omega (arith, l)))

    -- the step over a node that does not feed the view
    pub covers_skip : (elements : List T) (n : ℕ) → feeds p n view ≡ false → CoversBelow n elements → CoversBelow (n + 1) elements
    covers_skip elements n none covers input l h =
        ⊎_elim
        (λ k. absurd (true≢false (sym h ∙ (ap (λ m. feeds p m view) k ∙ none))))
        (λ k. covers input k h)
        (eq-or-lt_of_le (omega (arith, l)))

    -- at the end all inputs that feed the view are covered, because none comes after it
    pub covers_all : IsPlan p → view < length p → (old new : List T) (n : ℕ) → length p ≤ n → ((t : T) → Contains old t → Contains new t) → CoversBelow n old → Covers times p changes frontier view new
    covers_all plan within old new n long to covers input h =
        let before = above_earlier p plan input view (and_parts (is_input (node_at p input)) (reaches p input view) h).1 in
        has_more old new (changes input) to (covers input (omega (arith, before, within, long)) h)

-- ---- the last time of the closure at or before a time

module _ {T : Type 0} {times : Times T} (o : PartialOrderLaws times) (b : LatticeLaws times) (frontier : List T) where
  -- f is at or before t, and every time of the list at or before t is at or before f
  abbrev pub IsLastAtOrBefore : List T → T → T → Type 0
  IsLastAtOrBefore elements t f = IsTrue (times.below f t) × ((s : T) → Contains elements s → IsTrue (times.below s t) → IsTrue (times.below s f))

  some_last : (join_closure : List T) → IsClosed times frontier join_closure → (t : T) → IsTrue (has_passed times frontier t) → (xs : List T) → AllByRecursion (Contains join_closure) xs
      → AllByRecursion (λ s. times.below s t ≡ false) xs ⊎ ((f : T) × Contains join_closure f × IsTrue (times.below f t) × AllByRecursion (λ s. IsTrue (times.below s t) → IsTrue (times.below s f)) xs)
  some_last join_closure closed t passed [] c = inl tt
  some_last join_closure closed t passed (x ∷ xs) c = step (times.below x t) refl (some_last join_closure closed t passed xs c.1)
    where
      up : (f g : T) → IsTrue (times.below f g) → (ys : List T) → AllByRecursion (λ s. IsTrue (times.below s t) → IsTrue (times.below s f)) ys → AllByRecursion (λ s. IsTrue (times.below s t) → IsTrue (times.below s g)) ys
      up f g h [] a = tt
      up f g h (y ∷ ys) a = (λ k. o.transitive y f g (a.0 k) h, up f g h ys a.1)

      none_up : (f : T) (ys : List T) → AllByRecursion (λ s. times.below s t ≡ false) ys → AllByRecursion (λ s. IsTrue (times.below s t) → IsTrue (times.below s f)) ys
      none_up f [] a = tt
      none_up f (y ∷ ys) a = (λ k. absurd (true≢false (sym k ∙ a.0)), none_up f ys a.1)

      step : (v : Bool) → times.below x t ≡ v
          → AllByRecursion (λ s. times.below s t ≡ false) xs ⊎ ((f : T) × Contains join_closure f × IsTrue (times.below f t) × AllByRecursion (λ s. IsTrue (times.below s t) → IsTrue (times.below s f)) xs)
          → AllByRecursion (λ s. times.below s t ≡ false) (x ∷ xs) ⊎ ((f : T) × Contains join_closure f × IsTrue (times.below f t) × AllByRecursion (λ s. IsTrue (times.below s t) → IsTrue (times.below s f)) (x ∷ xs))
      step false e rest =
          ⊎_elim
          (λ n. inl (e, n))
          (λ r. inr (r.0, r.1, r.2, (λ k. absurd (true≢false (sym k ∙ e)), r.3)))
          rest
      step true e rest =
          ⊎_elim
          (λ n. inr (x, c.0, e, (λ k. o.reflexive x, none_up x xs n)))
          (λ r. inr (times.joined x r.0, closed x r.0 c.0 r.1 (passed_before o frontier (times.joined x r.0) t (b.join_least x r.0 t e r.2) passed), b.join_least x r.0 t e r.2, (λ k. b.join_left x r.0, up r.0 (times.joined x r.0) (b.join_right x r.0) xs r.3)))
          rest

  -- the closure has no time at or before a passed time t, or it has a last one; at t the view is
  -- what it is at that last time
  pub last_of : (join_closure : List T) → IsClosed times frontier join_closure → (t : T) → IsTrue (has_passed times frontier t)
      → ((s : T) → Contains join_closure s → times.below s t ≡ false) ⊎ ((f : T) × Contains join_closure f × IsLastAtOrBefore join_closure t f)
  last_of join_closure closed t passed =
      ⊎_elim
      (λ n. inl (λ s c. All-contains (λ s. times.below s t ≡ false) join_closure s (All-from_recursion (λ s. times.below s t ≡ false) join_closure n) c))
      (λ r. inr (r.0, r.1, (r.2, λ s c. All-contains (λ s. IsTrue (times.below s t) → IsTrue (times.below s r.0)) join_closure s (All-from_recursion (λ s. IsTrue (times.below s t) → IsTrue (times.below s r.0)) join_closure r.3) c)))
      (some_last join_closure closed t passed join_closure (recursion_from_All (Contains join_closure) join_closure (λ k d l. Contains-get_or join_closure k d l)))

-- ---- steps of the code that builds the closure

module _ {T : Type 0} {times : Times T} (o : PartialOrderLaws times) (b : LatticeLaws times) (frontier old mid pushed new : List T) (t : T)
    (joins : mid ≡ old ++ filter (has_passed times frontier) (map (λ s. times.joined s t) old)) (push : pushed ≡ mid ++ t ∷ []) (kept : (s : T) → Contains pushed s → Contains new s) where
  whole : pushed ≡ (old ++ filter (has_passed times frontier) (map (λ s. times.joined s t) old)) ++ t ∷ []
  whole = push ∙ ap (λ xs. xs ++ t ∷ []) joins

  -- `add_time` keeps the old times
  pub added_old : (s : T) → Contains old s → Contains new s
  added_old s c = kept s (subst (λ xs. Contains xs s) (sym whole) (more_old o b frontier old t s c))

  -- `add_time` keeps the list closed
  pub added_closed : ((s : T) → Contains new s → Contains pushed s) → IsClosed times frontier old → IsClosed times frontier new
  added_closed among closed = closed_same times frontier pushed new kept among (subst (IsClosed times frontier) (sym whole) (more_closed o b frontier old t closed))

  -- `add_time` adds only passed times
  pub added_passed : ((s : T) → Contains new s → Contains pushed s) → HavePassed times frontier old → IsTrue (has_passed times frontier t) → HavePassed times frontier new
  added_passed among passed h s c = more_passed o b frontier old t passed h s (subst (λ xs. Contains xs s) whole (among s c))

-- the empty list is sorted
pub sorted_none : {T : Type 0} (cmp : T → T → Ordering) → IsStrictlySortedBy cmp []
unfolding IsStrictlySortedBy
sorted_none cmp = tt

-- the step that adds one time
pub kept_next : {T : Type 0} (old new elements : List T) (i : ℕ) (t : T) → i < length elements → t ≡ get_or elements i t → ((s : T) → Contains old s → Contains new s) → Contains new t → All (Contains old) (take i elements) → All (Contains new) (take (i + 1) elements)
kept_next old new elements i t inside e to added all =
    All-more (Contains new) elements i t inside (All-weaker (Contains old) (Contains new) to (take i elements) all) (subst (Contains new) e added)

-- at the end all times are in the list
pub kept_all : {T : Type 0} (join_closure elements : List T) (i : ℕ) → length elements ≤ i → All (Contains join_closure) (take i elements) → All (Contains join_closure) elements
kept_all join_closure elements i long all = subst (All (Contains join_closure)) (take_all i elements long) all

-- the sorted list without duplicates is the join closure
pub join_closure_ok : {T : Type 0} {E : Type 0} {A : Type 0} (times : Times T) (cmp : T → T → Ordering) (p : List Node) (changes : ℕ → List (Update T)) (frontier : List T) (view : ℕ) (elements from : List T) → from ≡ elements → Covers times p changes frontier view elements
    → (r : Result (Vec T A) E) → IfOk r (λ join_closure. IsStrictlySortedBy cmp join_closure.items) → IfOk r (λ join_closure. IsClosed times frontier join_closure.items) → IfOk r (λ join_closure. All (Contains join_closure.items) from)
    → IfOk r (λ join_closure. IsJoinClosure times cmp p changes frontier view join_closure.items)
join_closure_ok times cmp p changes frontier view elements from e covers (Err x) a c k = tt
join_closure_ok times cmp p changes frontier view elements from e covers (Ok join_closure) a c k =
    record {
      ascending = a;
      closed = c;
      covers = λ input h. has_more times frontier elements join_closure.items (changes input) (λ t m. All-contains (Contains join_closure.items) from t k (subst (λ xs. Contains xs t) (sym e) m)) (covers input h);
    }

-- An antichain is determined by its elements, and also by the times beyond it.
use Rattle.std.proofs.Common.{◌≡◌, Bool, true, false, not, ◌||◌, List, [], ◌∷◌, IsTrue, refl, sym, ◌∙◌, ap, inl, inr, ⊎_elim}
use Rattle.std.proofs.lemmas.Bool.{or_cases, or_left, or_right, and_parts, and_from, true≢false}
use Rattle.std.specs.List.{AllByRecursion}
use Rattle.std.specs.List.Sorted.{IsStrictlySortedBy}
use Rattle.std.specs.Ordering.{is_lt, is_eq}
use Rattle.std.specs.Cmp.{IsTotalOrder}
use Rattle.std.specs.Cmp.Lexicographic.{pointwise}
use Rattle.std.proofs.lemmas.Cmp.{tied_itself}
use Rattle.std.specs.declared.cmp.Ordering.{Ordering}
use Rattle.std.specs.declared.cmp.Ordering.TheVariants.{Less, Equal, Greater}
use Rattle.lattice.specs.Times.{Times}
use Rattle.lattice.specs.Order.{PartialOrderLaws}
use Rattle.lattice.specs.Frontiers.{is_beyond}
use Rattle.antichain.specs.Antichains.{is_incomparable, is_antichain, is_least, least, SameElements, IsFrontier}
use Rattle.antichain.proofs.Lists.{Among, among_contains, contains_among, all_at, all_from, filter_has, filter_takes}

-- a test cannot hold together with its negation
pub not_true : (b : Bool) → IsTrue (not b) → IsTrue b → ⊥
not_true true h k = true≢false (sym h)
not_true false h k = true≢false (sym k)

-- a test that cannot hold has a negation that holds
pub not_from : (b : Bool) → (IsTrue b → ⊥) → IsTrue (not b)
not_from true h = absurd (h refl)
not_from false h = refl

-- an implication between tests, from a proof that one test follows from the other
implies_from : (a b : Bool) → (IsTrue a → IsTrue b) → IsTrue (not a || b)
implies_from true b h = h refl
implies_from false b h = refl

implied : (a b : Bool) → IsTrue (not a || b) → IsTrue a → IsTrue b
implied true b h k = h
implied false b h k = absurd (true≢false (sym k))

module _ {T : Type 0} (times : Times T) where
  -- a time beyond a frontier has an element at or before it
  pub beyond_has : (F : List T) (t : T) → IsTrue (is_beyond times F t) → (f : T) × Among f F × IsTrue (times.below f t)
  beyond_has [] t h = absurd (true≢false (sym h))
  beyond_has (f ∷ F) t h =
      ⊎_elim (λ e. (f, inl refl, e)) (λ e. let r = beyond_has F t e in (r.0, inr r.1, r.2)) (or_cases _ _ h)

  -- a time with an element at or before it is beyond the frontier
  pub has_beyond : (F : List T) (f t : T) → Among f F → IsTrue (times.below f t) → IsTrue (is_beyond times F t)
  has_beyond [] f t m h = absurd m
  has_beyond (g ∷ F) f t m h =
      ⊎_elim
      (λ e. or_left (times.below g t) (is_beyond times F t) (ap (λ x. times.below x t) e ∙ h))
      (λ n. or_right (times.below g t) (is_beyond times F t) (has_beyond F f t n h))
      m

  -- if one element of an antichain is at or before another, then they are the same
  pub antichain_one : (F : List T) (s t : T) → IsTrue (is_antichain times F) → Among s F → Among t F → IsTrue (times.below s t) → s ≡ t
  antichain_one [] s t a m n h = absurd m
  antichain_one (f ∷ F) s t a m n h =
      let parts = and_parts _ _ a in
      ⊎_elim
      (λ e. ⊎_elim
      (λ d. sym e ∙ d)
      (λ k. absurd (not_true _ (and_parts _ _ (all_at (is_incomparable times f) F t parts.0 k)).0 (ap (λ x. times.below x t) e ∙ h)))
      n)
      (λ j. ⊎_elim
      (λ d. absurd (not_true _ (and_parts _ _ (all_at (is_incomparable times f) F s parts.0 j)).1 (ap (times.below s) d ∙ h)))
      (λ k. antichain_one F s t parts.1 j k h)
      n)
      m

-- an element may be replaced by an equal one
pub among_same : {T : Type 0} (s t : T) (xs : List T) → s ≡ t → Among s xs → Among t xs
among_same s t [] e h = h
among_same s t (x ∷ xs) e h = ⊎_elim (λ d. inl (d ∙ e)) (λ d. inr (among_same s t xs e d)) h

module _ {T : Type 0} (times : Times T) (o : PartialOrderLaws times) (F S : List T) (a : IsTrue (is_antichain times F)) (same : (t : T) → is_beyond times F t ≡ is_beyond times S t) where
  -- a time of S that is at or before an element of F is that element
  frontier_one : (f s : T) → Among f F → Among s S → IsTrue (times.below s f) → IsTrue (times.below f s)
  frontier_one f s m n h =
      let r = beyond_has times F s (same s ∙ has_beyond times S s s n (o.reflexive s)) in
      let e = antichain_one times F r.0 f a r.1 m (o.transitive _ _ _ r.2 h) in
      ap (λ x. times.below x s) (sym e) ∙ r.2

  frontier_to_least : (t : T) → Among t F → Among t (least times S)
  unfolding least
  frontier_to_least t m =
      let r = beyond_has times S t (sym (same t) ∙ has_beyond times F t t m (o.reflexive t)) in
      let e : r.0 ≡ t = o.antisymmetric _ _ r.2 (frontier_one t r.0 m r.1 r.2) in
      filter_takes (is_least times S) S t (among_same r.0 t S e r.1)
      (all_from (λ s. not (times.below s t) || times.below t s) S (λ s n. implies_from (times.below s t) (times.below t s) (λ h. frontier_one t s m n h)))

  least_to_frontier : (t : T) → Among t (least times S) → Among t F
  unfolding least
  least_to_frontier t m =
      let k = filter_has (is_least times S) S t m in
      let f = beyond_has times F t (same t ∙ has_beyond times S t t k.0 (o.reflexive t)) in
      let s = beyond_has times S f.0 (sym (same f.0) ∙ has_beyond times F f.0 f.0 f.1 (o.reflexive f.0)) in
      let up : IsTrue (times.below t s.0) = implied _ _ (all_at (λ s. not (times.below s t) || times.below t s) S s.0 k.1 s.1) (o.transitive _ _ _ s.2 f.2) in
      among_same f.0 t F (o.antisymmetric _ _ f.2 (o.transitive _ _ _ up s.2)) f.1

  -- an antichain consists of the least of any times that have the same times beyond them
  pub frontier_least : SameElements F (least times S)
  frontier_least = record {
    into = λ t c. contains_among t (least times S) (frontier_to_least t (among_contains t F c));
    back = λ t c. contains_among t F (least_to_frontier t (among_contains t (least times S) c));
  }

-- strictly sorted lists with the same elements are equal
module _ {T : Type 0} {cmp : T → T → Ordering} (total : IsTotalOrder cmp) where
  after_all : (x t : T) (xs : List T) → AllByRecursion (λ y. cmp x y ≡ Less) xs → Among t xs → cmp x t ≡ Less
  after_all x t [] a m = absurd m
  after_all x t (y ∷ ys) a m = ⊎_elim (λ e. sym (ap (cmp x) e) ∙ a.0) (λ n. after_all x t ys a.1 n) m

  not_before_itself : (x : T) → cmp x x ≡ Less → ⊥
  not_before_itself x e = true≢false (sym (ap is_lt e) ∙ ap is_lt (tied_itself total x))

  rest_among : (x t : T) (xs ys : List T) → AllByRecursion (λ y. cmp x y ≡ Less) xs → ((u : T) → Among u (x ∷ xs) → Among u (x ∷ ys)) → Among t xs → Among t ys
  rest_among x t xs ys a h m =
      ⊎_elim
      (λ e. absurd (not_before_itself x (ap (cmp x) e ∙ after_all x t xs a m)))
      (λ n. n)
      (h t (inr m))

  first_same : (x y : T) (xs ys : List T) → AllByRecursion (λ z. cmp x z ≡ Less) xs → AllByRecursion (λ z. cmp y z ≡ Less) ys → Among x (y ∷ ys) → Among y (x ∷ xs) → x ≡ y
  first_same x y xs ys a b m n =
      ⊎_elim
      (λ e. sym e)
      (λ j. ⊎_elim
      (λ e. e)
      (λ k. absurd (not_before_itself x (total.trans x y x (after_all x y xs a k) (after_all y x ys b j))))
      n)
      m

  -- a sorted list is determined by its elements
  pub sorted_same : (xs ys : List T) → IsStrictlySortedBy cmp xs → IsStrictlySortedBy cmp ys → ((t : T) → Among t xs → Among t ys) → ((t : T) → Among t ys → Among t xs) → xs ≡ ys
  unfolding IsStrictlySortedBy
  sorted_same [] [] s r h k = refl
  sorted_same [] (y ∷ ys) s r h k = absurd (k y (inl refl))
  sorted_same (x ∷ xs) [] s r h k = absurd (h x (inl refl))
  sorted_same (x ∷ xs) (y ∷ ys) s r h k =
      let e : x ≡ y = first_same x y xs ys s.0 r.0 (h x (inl refl)) (k y (inl refl)) in
      let there : (t : T) → Among t (x ∷ xs) → Among t (x ∷ ys) = λ t m. head_named t y x ys (sym e) (h t m) in
      let back : (t : T) → Among t (y ∷ ys) → Among t (y ∷ xs) = λ t m. head_named t x y xs e (k t m) in
      let rest = sorted_same xs ys s.1 r.1 (λ t. rest_among x t xs ys s.0 there) (λ t. rest_among y t ys xs r.0 back) in
      λ i. e i ∷ rest i
    where
      head_named : (t u v : T) (zs : List T) → u ≡ v → Among t (u ∷ zs) → Among t (v ∷ zs)
      head_named t u v zs d m = ⊎_elim (λ c. inl (sym d ∙ c)) (λ n. inr n) m

module _ {T : Type 0} {times : Times T} {cmp : T → T → Ordering} (o : PartialOrderLaws times) (total : IsTotalOrder cmp) where
  -- a frontier is determined by its elements
  pub frontier_by_elements : (F G : List T) → IsFrontier times cmp F → IsFrontier times cmp G → SameElements F G → F ≡ G
  frontier_by_elements F G f g same =
      sorted_same total F G f.ascending g.ascending
      (λ t m. among_contains t G (same.into t (contains_among t F m)))
      (λ t m. among_contains t F (same.back t (contains_among t G m)))

  -- an element of one frontier is an element of every frontier that has the same times beyond it
  element_of : (F G : List T) → IsTrue (is_antichain times F) → ((t : T) → is_beyond times F t ≡ is_beyond times G t) → (t : T) → Among t F → Among t G
  element_of F G a same t m =
      let g = beyond_has times G t (sym (same t) ∙ has_beyond times F t t m (o.reflexive t)) in
      let f = beyond_has times F g.0 (same g.0 ∙ has_beyond times G g.0 g.0 g.1 (o.reflexive g.0)) in
      let one : f.0 ≡ t = antichain_one times F f.0 t a f.1 m (o.transitive _ _ _ f.2 g.2) in
      among_same g.0 t G (o.antisymmetric _ _ g.2 (ap (λ x. times.below x g.0) (sym one) ∙ f.2)) g.1

  -- a frontier is determined by the times beyond it
  pub frontier_by_beyond : (F G : List T) → IsFrontier times cmp F → IsFrontier times cmp G → ((t : T) → is_beyond times F t ≡ is_beyond times G t) → F ≡ G
  frontier_by_beyond F G f g same =
      sorted_same total F G f.ascending g.ascending (element_of F G f.antichain same) (element_of G F g.antichain (λ t. sym (same t)))

module _ {T : Type 0} (times : Times T) (cmp : T → T → Ordering) where
  -- the empty list is a frontier
  pub frontier_none : IsFrontier times cmp []
  unfolding IsStrictlySortedBy
  frontier_none = record { antichain = refl; ascending = tt }

  -- a single time is a frontier
  pub frontier_one_time : (t : T) → IsFrontier times cmp (t ∷ [])
  unfolding IsStrictlySortedBy
  frontier_one_time t = record { antichain = refl; ascending = (tt, tt) }

-- tests of equality of lists, from a test of equality of elements that is exact
module _ {T : Type 0} {eq : T → T → Bool} (exact : (x y : T) → eq x y ≡ true → x ≡ y) (same : (x : T) → eq x x ≡ true) where
  -- lists that pass the test are equal
  pub pointwise_exact : (xs ys : List T) → IsTrue (pointwise eq xs ys) → xs ≡ ys
  pointwise_exact [] [] h = refl
  pointwise_exact [] (y ∷ ys) h = absurd (true≢false (sym h))
  pointwise_exact (x ∷ xs) [] h = absurd (true≢false (sym h))
  pointwise_exact (x ∷ xs) (y ∷ ys) h =
      let parts = and_parts (eq x y) (pointwise eq xs ys) h in
      let first = exact x y parts.0 in
      let rest = pointwise_exact xs ys parts.1 in
      λ i. first i ∷ rest i

  pointwise_itself : (xs : List T) → IsTrue (pointwise eq xs xs)
  pointwise_itself [] = refl
  pointwise_itself (x ∷ xs) = and_from (eq x x) (pointwise eq xs xs) (same x) (pointwise_itself xs)

  -- equal lists pass the test
  pub pointwise_same : (xs ys : List T) → xs ≡ ys → IsTrue (pointwise eq xs ys)
  pointwise_same xs ys e = ap (pointwise eq xs) (sym e) ∙ pointwise_itself xs

-- a comparison whose answer tests as equal has the answer Equal
pub equal_answer : (a : Ordering) → is_eq a ≡ true → a ≡ Equal
equal_answer Less e = absurd (true≢false (sym e))
equal_answer Equal e = refl
equal_answer Greater e = absurd (true≢false (sym e))

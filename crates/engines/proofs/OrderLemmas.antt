-- Lists that are sorted: they are in order and have the same elements.
use Rattle.std.proofs.Common.{◌≡◌, List, [], ◌∷◌, ◌⊎◌, inl, inr, ⊎_elim, refl, sym, ◌∙◌, ap, subst}
use Rattle.std.specs.BTreeSet.{insert_key}
use Rattle.std.specs.Cmp.{IsTotalOrder}
use Rattle.std.specs.List.{AllByRecursion}
use Rattle.std.specs.List.Sorted.{IsStrictlySortedBy}
use Rattle.std.specs.Ordering.{match_ordering, ordering_reverse}
use Rattle.std.specs.declared.cmp.Ordering.{Ordering}
use Rattle.std.specs.declared.cmp.Ordering.TheVariants.{Less, Equal, Greater}
use Rattle.antichain.specs.Antichains.{SameElements}
use Rattle.antichain.proofs.AntichainLemmas.{sorted_same}
use Rattle.antichain.proofs.Lists.{Among, among_contains, contains_among}
use Rattle.engines.specs.Orders.{in_order}

all_more : {X : Type 0} (P Q : X → Type 0) → ((x : X) → P x → Q x) → (xs : List X) → AllByRecursion P xs → AllByRecursion Q xs
all_more P Q h [] a = tt
all_more P Q h (x ∷ xs) a = (h x a.0, all_more P Q h xs a.1)

module _ {T : Type 0} (cmp : T → T → Ordering) where
  insert_all : (P : T → Type 0) (t : T) (xs : List T) → P t → AllByRecursion P xs → AllByRecursion P (insert_key cmp xs t)
  insert_all P t [] p a = (p, tt)
  insert_all P t (x ∷ xs) p a = by (cmp t x) (insert_all P t xs p a.1)
    where
      by : (o : Ordering) → AllByRecursion P (insert_key cmp xs t) → AllByRecursion P (match_ordering o (t ∷ x ∷ xs) (x ∷ xs) (x ∷ insert_key cmp xs t))
      by Less rest = (p, a)
      by Equal rest = a
      by Greater rest = (a.0, rest)

  insert_sorted : (total : IsTotalOrder cmp) (t : T) (xs : List T) → IsStrictlySortedBy cmp xs → IsStrictlySortedBy cmp (insert_key cmp xs t)
  unfolding IsStrictlySortedBy
  insert_sorted total t [] s = (tt, tt)
  insert_sorted total t (x ∷ xs) s = by (cmp t x) refl (insert_sorted total t xs s.1)
    where
      by : (o : Ordering) → cmp t x ≡ o → IsStrictlySortedBy cmp (insert_key cmp xs t) → IsStrictlySortedBy cmp (match_ordering o (t ∷ x ∷ xs) (x ∷ xs) (x ∷ insert_key cmp xs t))
      by Less e rest = ((e, all_more (λ y. cmp x y ≡ Less) (λ y. cmp t y ≡ Less) (λ y l. total.trans t x y e l) xs s.0), s)
      by Equal e rest = s
      by Greater e rest = (insert_all (λ y. cmp x y ≡ Less) t xs (total.antisymm x t ∙ ap ordering_reverse e) s.0, rest)

  -- the inserted element is there, and no other is lost
  insert_new : (exact : (s t : T) → cmp s t ≡ Equal → s ≡ t) (t : T) (xs : List T) → Among t (insert_key cmp xs t)
  insert_new exact t [] = inl refl
  insert_new exact t (x ∷ xs) = by (cmp t x) refl (insert_new exact t xs)
    where
      by : (o : Ordering) → cmp t x ≡ o → Among t (insert_key cmp xs t) → Among t (match_ordering o (t ∷ x ∷ xs) (x ∷ xs) (x ∷ insert_key cmp xs t))
      by Less e rest = inl refl
      by Equal e rest = inl (sym (exact t x e))
      by Greater e rest = inr rest

  insert_old : (t s : T) (xs : List T) → Among s xs → Among s (insert_key cmp xs t)
  insert_old t s [] h = absurd h
  insert_old t s (x ∷ xs) h = by (cmp t x) h (λ k. insert_old t s xs k)
    where
      by : (o : Ordering) → (x ≡ s) ⊎ Among s xs → (Among s xs → Among s (insert_key cmp xs t)) → Among s (match_ordering o (t ∷ x ∷ xs) (x ∷ xs) (x ∷ insert_key cmp xs t))
      by Less h rest = inr h
      by Equal h rest = h
      by Greater h rest = ⊎_elim (λ e. inl e) (λ k. inr (rest k)) h

  insert_only : (t s : T) (xs : List T) → Among s (insert_key cmp xs t) → (t ≡ s) ⊎ Among s xs
  insert_only t s [] h = h
  insert_only t s (x ∷ xs) h = by (cmp t x) h (λ k. insert_only t s xs k)
    where
      by : (o : Ordering) → Among s (match_ordering o (t ∷ x ∷ xs) (x ∷ xs) (x ∷ insert_key cmp xs t)) → (Among s (insert_key cmp xs t) → (t ≡ s) ⊎ Among s xs) → (t ≡ s) ⊎ ((x ≡ s) ⊎ Among s xs)
      by Less h rest = h
      by Equal h rest = inr h
      by Greater h rest = ⊎_elim (λ e. inr (inl e)) (λ k. ⊎_elim (λ e. inl e) (λ m. inr (inr m)) (rest k)) h

  -- sorted times are in order
  pub in_order-sorted : (total : IsTotalOrder cmp) (ts : List T) → IsStrictlySortedBy cmp (in_order cmp ts)
  unfolding IsStrictlySortedBy
  in_order-sorted total [] = tt
  in_order-sorted total (t ∷ ts) = insert_sorted total t (in_order cmp ts) (in_order-sorted total ts)

  -- sorting loses no time
  pub in_order-has : (exact : (s t : T) → cmp s t ≡ Equal → s ≡ t) (ts : List T) (s : T) → Among s ts → Among s (in_order cmp ts)
  in_order-has exact [] s h = h
  in_order-has exact (t ∷ ts) s h =
      ⊎_elim
      (λ e. subst_among e (insert_new exact t (in_order cmp ts)))
      (λ k. insert_old t s (in_order cmp ts) (in_order-has exact ts s k))
      h
    where
      subst_among : {r : T} → t ≡ r → Among t (insert_key cmp (in_order cmp ts) t) → Among r (insert_key cmp (in_order cmp ts) t)
      subst_among e h = subst (λ (x : T). Among x (insert_key cmp (in_order cmp ts) t)) e h

  -- sorting adds no time
  pub in_order-only : (ts : List T) (s : T) → Among s (in_order cmp ts) → Among s ts
  in_order-only [] s h = h
  in_order-only (t ∷ ts) s h = ⊎_elim (λ e. inl e) (λ k. inr (in_order-only ts s k)) (insert_only t s (in_order cmp ts) h)

  -- a frontier with the elements of these times is the times in order
  pub frontier_in_order : (total : IsTotalOrder cmp) → ((s t : T) → cmp s t ≡ Equal → s ≡ t) → (F ts : List T) → IsStrictlySortedBy cmp F → SameElements F ts → F ≡ in_order cmp ts
  frontier_in_order total exact F ts ascending same =
      sorted_same total F (in_order cmp ts) ascending (in_order-sorted total ts)
      (λ t h. in_order-has exact ts t (among_contains t ts (same.into t (contains_among t F h))))
      (λ t h. among_contains t F (same.back t (contains_among t ts (in_order-only ts t h))))

-- The joins of the times of a key, as sets: what adding times to them adds, and which of them are
-- at or after a new time.
use Rattle.std.proofs.Common.{◌≡◌, ◌↔◌, true, List, [], ◌∷◌, ◌++◌, map, ◌⊎◌, inl, inr, ⊎_elim, refl, sym, ap, subst, ◌∙◌}
use Rattle.lattice.specs.Times.{Times}
use Rattle.lattice.specs.Order.{PartialOrderLaws, LatticeLaws}
use Rattle.lattice.proofs.BoundLemmas.{join_commutes, join_associates, join_same}
use Rattle.update.specs.Joins.{joins_of}
use Rattle.joined_times.specs.Joined.{Member, IsFresh}
use Rattle.joined_times.specs.Additions.{SameMembers, joins_with}
use Rattle.joined_times.proofs.MemberLemmas.{in_left, in_right, in_either, only_one, image_in, image_of}

module _ {T : Type 0} (times : Times T) where
  -- a join is still one when there is a time more
  pub joins_kept : (n : T) (ts : List T) (t : T) → Member t (joins_of times ts) → Member t (joins_of times (n ∷ ts))
  joins_kept n ts t m =
      in_left t (joins_of times ts ++ map (λ s. times.joined s n) (joins_of times ts)) (n ∷ [])
      (in_left t (joins_of times ts) (map (λ s. times.joined s n) (joins_of times ts)) m)

  -- a time more adds itself, and each join joined with it
  pub joins_gained : (n : T) (ts : List T) (t : T) → Member t (joins_with times n (joins_of times ts)) → Member t (joins_of times (n ∷ ts))
  joins_gained n ts t m =
      ⊎_elim
      (λ e. in_right t (joins_of times ts ++ map (λ s. times.joined s n) (joins_of times ts)) (n ∷ []) (inl e))
      (λ k. in_left t (joins_of times ts ++ map (λ s. times.joined s n) (joins_of times ts)) (n ∷ [])
      (in_right t (joins_of times ts) (map (λ s. times.joined s n) (joins_of times ts)) k))
      m

  -- a time more adds no others
  pub joins_cases : (n : T) (ts : List T) (t : T) → Member t (joins_of times (n ∷ ts)) → Member t (joins_of times ts) ⊎ Member t (joins_with times n (joins_of times ts))
  joins_cases n ts t m =
      ⊎_elim
      (λ k. ⊎_elim (λ old. inl old) (λ new. inr (inr new)) (in_either t (joins_of times ts) (map (λ s. times.joined s n) (joins_of times ts)) k))
      (λ k. inr (inl (only_one t n k)))
      (in_either t (joins_of times ts ++ map (λ s. times.joined s n) (joins_of times ts)) (n ∷ []) m)

  -- each time is a join
  pub joins_have : (ts : List T) (t : T) → Member t ts → Member t (joins_of times ts)
  joins_have [] t m = absurd m
  joins_have (n ∷ ts) t m =
      ⊎_elim (λ e. joins_gained n ts t (inl e)) (λ k. joins_kept n ts t (joins_have ts t k)) m

  -- what is true of each time, and of the join of any two of which it is true, is true of each join
  pub joins_least : (P : T → Type 0) → ((a b : T) → P a → P b → P (times.joined a b)) → (ts : List T) → ((t : T) → Member t ts → P t) → (t : T) → Member t (joins_of times ts) → P t
  joins_least P closed [] all t m = absurd m
  joins_least P closed (n ∷ ts) all t m =
      let old : (s : T) → Member s (joins_of times ts) → P s = joins_least P closed ts (λ s k. all s (inr k)) in
      ⊎_elim
      (λ k. old t k)
      (λ k. ⊎_elim
      (λ e. all t (inl e))
      (λ l.
      let r = image_of (λ s. times.joined s n) t (joins_of times ts) l in
      subst P (sym r.2) (closed r.0 n (old r.0 r.1) (all n (inl refl))))
      k)
      (joins_cases n ts t m)

module _ {T : Type 0} {times : Times T} (o : PartialOrderLaws times) (b : LatticeLaws times) where
  -- the join with a later time is that time
  pub join_later : (s t : T) → times.below s t ≡ true → times.joined t s ≡ t
  join_later s t h = o.antisymmetric _ _ (b.join_least t s t (o.reflexive t) h) (b.join_left t s)

  -- joined with a second time and then with a third, or the other way round
  join_turned : (r s t : T) → times.joined (times.joined r s) t ≡ times.joined (times.joined r t) s
  join_turned r s t = join_associates o b r s t ∙ (ap (times.joined r) (join_commutes o b s t) ∙ sym (join_associates o b r t s))

  -- if the joins of some times are closed under joins, then so are those of one time more
  module _ (n : T) (ts : List T) (closed : (s t : T) → Member s (joins_of times ts) → Member t (joins_of times ts) → Member (times.joined s t) (joins_of times ts)) where
    -- an old join joined with the new time
    gained : (r : T) → Member r (joins_of times ts) → Member (times.joined r n) (joins_of times (n ∷ ts))
    gained r m = joins_gained times n ts (times.joined r n) (inr (image_in (λ s. times.joined s n) r (joins_of times ts) m))

    -- what has the new time in it stays as it is when it is joined with that time
    with_itself : (r : T) → Member r (joins_with times n (joins_of times ts)) → times.joined r n ≡ r
    with_itself r m =
        ⊎_elim
        (λ e. ap (λ u. times.joined u n) e ∙ (join_same o b n ∙ sym e))
        (λ i.
        let q = image_of (λ s. times.joined s n) r (joins_of times ts) i in
        ap (λ u. times.joined u n) q.2 ∙ (join_associates o b q.0 n n ∙ (ap (times.joined q.0) (join_same o b n) ∙ sym q.2)))
        m

    -- any join joined with the new time
    with_new : (r : T) → Member r (joins_of times (n ∷ ts)) → Member (times.joined r n) (joins_of times (n ∷ ts))
    with_new r m =
        ⊎_elim
        (λ old. gained r old)
        (λ new. subst (λ u. Member u (joins_of times (n ∷ ts))) (sym (with_itself r new)) m)
        (joins_cases times n ts r m)

    -- an old join joined with any
    with_old : (r u : T) → Member r (joins_of times ts) → Member u (joins_of times (n ∷ ts)) → Member (times.joined r u) (joins_of times (n ∷ ts))
    with_old r u old m =
        ⊎_elim
        (λ i. joins_kept times n ts (times.joined r u) (closed r u old i))
        (λ new. ⊎_elim
        (λ e. subst (λ v. Member v (joins_of times (n ∷ ts))) (ap (times.joined r) (sym e)) (gained r old))
        (λ i.
        let q = image_of (λ s. times.joined s n) u (joins_of times ts) i in
        subst (λ v. Member v (joins_of times (n ∷ ts))) (join_associates o b r q.0 n ∙ ap (times.joined r) (sym q.2)) (gained (times.joined r q.0) (closed r q.0 old q.1)))
        new)
        (joins_cases times n ts u m)

    -- any two
    more_closed : (s t : T) → Member s (joins_of times (n ∷ ts)) → Member t (joins_of times (n ∷ ts)) → Member (times.joined s t) (joins_of times (n ∷ ts))
    more_closed s t k l =
        ⊎_elim
        (λ old. with_old s t old l)
        (λ new. ⊎_elim
        (λ e. subst (λ r. Member r (joins_of times (n ∷ ts))) (join_commutes o b t n ∙ ap (λ r. times.joined r t) (sym e)) (with_new t l))
        (λ i.
        let r = image_of (λ s. times.joined s n) s (joins_of times ts) i in
        subst (λ u. Member u (joins_of times (n ∷ ts))) (join_turned r.0 t n ∙ ap (λ u. times.joined u t) (sym r.2)) (with_new (times.joined r.0 t) (with_old r.0 t r.1 l)))
        new)
        (joins_cases times n ts s k)

  -- the join of two joins is one
  pub joins_closed : (ts : List T) (s t : T) → Member s (joins_of times ts) → Member t (joins_of times ts) → Member (times.joined s t) (joins_of times ts)
  joins_closed [] s t k l = absurd k
  joins_closed (n ∷ ts) s t k l = more_closed n ts (joins_closed ts) s t k l

  -- the joins of some of the times are among the joins of all
  pub joins_within : (xs ys : List T) → ((t : T) → Member t xs → Member t (joins_of times ys)) → (t : T) → Member t (joins_of times xs) → Member t (joins_of times ys)
  joins_within xs ys to = joins_least times (λ t. Member t (joins_of times ys)) (joins_closed ys) xs to

  -- the joins depend on the members alone
  pub joins_same : (xs ys : List T) → SameMembers xs ys → SameMembers (joins_of times xs) (joins_of times ys)
  joins_same xs ys same t = (
    joins_within xs ys (λ s m. joins_have times ys s ((same s).0 m)) t,
    joins_within ys xs (λ s m. joins_have times xs s ((same s).1 m)) t,
  )

  -- each join is at or after one of the times
  pub joins_above : (ts : List T) (t : T) → Member t (joins_of times ts) → (n : T) × Member n ts × (times.below n t ≡ true)
  joins_above ts =
      joins_least times (λ t. (n : T) × Member n ts × (times.below n t ≡ true))
      (λ s t k l. (k.0, k.1, o.transitive _ _ _ k.2 (b.join_left s t))) ts
      (λ t m. (t, m, o.reflexive t))

  -- ---- fresh times

  module _ (new old : List T) where
    -- a fresh time joined with a join of new times is fresh
    fresh_with_new : (s t : T) → IsFresh times new old s → Member t (joins_of times new) → IsFresh times new old (times.joined s t)
    fresh_with_new s t f m =
        ⊎_elim
        (λ k. inl (joins_closed new s t k m))
        (λ r. inr (times.joined r.0 t, r.1, joins_closed new r.0 t r.2 m, r.3, join_turned r.0 t r.1 ∙ ap (λ u. times.joined u t) r.4))
        f

    -- and so is one joined with a join of old times
    fresh_with_old : (s t : T) → IsFresh times new old s → Member t (joins_of times old) → IsFresh times new old (times.joined s t)
    fresh_with_old s t f m =
        ⊎_elim
        (λ k. inr (s, t, k, m, refl))
        (λ r. inr (r.0, times.joined r.1 t, r.2, joins_closed old r.1 t r.3 m, sym (join_associates o b r.0 r.1 t) ∙ ap (λ u. times.joined u t) r.4))
        f

    -- the join of a fresh time with a fresh or an old one is fresh
    fresh_closed : (s t : T) → IsFresh times new old s → IsFresh times new old t ⊎ Member t (joins_of times old) → IsFresh times new old (times.joined s t)
    fresh_closed s t f g =
        ⊎_elim
        (λ h. ⊎_elim
        (λ k. fresh_with_new s t f k)
        (λ r. subst (IsFresh times new old) (join_associates o b s r.0 r.1 ∙ ap (times.joined s) r.4)
        (fresh_with_old (times.joined s r.0) r.1 (fresh_with_new s r.0 f r.2) r.3))
        h)
        (λ k. fresh_with_old s t f k)
        g

    -- the fresh times and the joins of old times are closed under joins
    either_closed : (s t : T) → IsFresh times new old s ⊎ Member s (joins_of times old) → IsFresh times new old t ⊎ Member t (joins_of times old) → IsFresh times new old (times.joined s t) ⊎ Member (times.joined s t) (joins_of times old)
    either_closed s t f g =
        ⊎_elim
        (λ h. inl (fresh_closed s t h g))
        (λ k. ⊎_elim
        (λ h. inl (subst (IsFresh times new old) (join_commutes o b t s) (fresh_closed t s h (inr k))))
        (λ l. inr (joins_closed old s t k l))
        g)
        f

    -- the joins of new and old times are the fresh ones and the joins of the old times
    pub joins_append : (t : T) → Member t (joins_of times (new ++ old)) ↔ (IsFresh times new old t ⊎ Member t (joins_of times old))
    joins_append t = (
      joins_least times (λ s. IsFresh times new old s ⊎ Member s (joins_of times old)) either_closed (new ++ old)
          (λ s m. ⊎_elim (λ k. inl (inl (joins_have times new s k))) (λ k. inr (joins_have times old s k)) (in_either s new old m)) t,
      (λ f. ⊎_elim
          (λ g. ⊎_elim
          (λ k. of_new t k)
          (λ r. subst (λ s. Member s (joins_of times (new ++ old))) r.4 (joins_closed (new ++ old) r.0 r.1 (of_new r.0 r.2) (of_old r.1 r.3)))
          g)
          (λ k. of_old t k)
          f),
    )
      where
        of_new : (s : T) → Member s (joins_of times new) → Member s (joins_of times (new ++ old))
        of_new = joins_within new (new ++ old) (λ s m. joins_have times (new ++ old) s (in_left s new old m))

        of_old : (s : T) → Member s (joins_of times old) → Member s (joins_of times (new ++ old))
        of_old = joins_within old (new ++ old) (λ s m. joins_have times (new ++ old) s (in_right s new old m))

    -- a fresh time is at or after a new one
    pub fresh_above : (t : T) → IsFresh times new old t → (n : T) × Member n new × (times.below n t ≡ true)
    fresh_above t f =
        ⊎_elim
        (λ k. joins_above new t k)
        (λ r.
        let n = joins_above new r.0 r.2 in
        (n.0, n.1, o.transitive _ _ _ n.2 (subst (λ s. times.below r.0 s ≡ true) r.4 (b.join_left r.0 r.1))))
        f

    -- a join of old times at or after a new one is fresh
    pub fresh_absorbs : (n t : T) → Member n new → Member t (joins_of times old) → times.below n t ≡ true → IsFresh times new old t
    fresh_absorbs n t m k h = inr (n, t, joins_have times new n m, k, join_commutes o b n t ∙ join_later n t h)

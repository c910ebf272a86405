-- The joins that new times take part in: how they are found half by half, and which near times a
-- half needs.
use Rattle.std.proofs.Common.{◌≡◌, ◌↔◌, true, List, [], ◌∷◌, ◌++◌, map, ◌⊎◌, inl, inr, ⊎_elim, refl, sym, ap, subst, ◌∙◌}
use Rattle.lattice.specs.Times.{Times}
use Rattle.lattice.specs.Order.{PartialOrderLaws, LatticeLaws}
use Rattle.lattice.proofs.BoundLemmas.{join_commutes, join_associates}
use Rattle.update.specs.Joins.{joins_of}
use Rattle.joined_times.specs.Joined.{Member}
use Rattle.joined_times.specs.Additions.{SameMembers, joins_with, IsFreshBy, AreBetween}
use Rattle.joined_times.proofs.MemberLemmas.{in_left, in_right, in_either, only_one, image_in, image_of}
use Rattle.joined_times.proofs.JoinLemmas.{joins_have, joins_least, joins_closed, joins_within, joins_same, joins_append, join_later}

module _ {T : Type 0} (times : Times T) where
  -- without new times nothing is fresh
  pub none_fresh : (near : List T) (t : T) → IsFreshBy times [] near t → ⊥
  none_fresh near t f = ⊎_elim (λ n. n) (λ r. r.2) f

  near_within : (new xs ys : List T) → ((t : T) → Member t xs → Member t ys) → (t : T) → IsFreshBy times new xs t → IsFreshBy times new ys t
  near_within new xs ys to t f = ⊎_elim (λ k. inl k) (λ r. inr (r.0, r.1, r.2, to r.1 r.3, r.4)) f

  -- of the near times only the members matter
  pub near_same : (new xs ys : List T) → SameMembers xs ys → (t : T) → IsFreshBy times new xs t ↔ IsFreshBy times new ys t
  near_same new xs ys same t = (near_within new xs ys (λ s. (same s).0) t, near_within new ys xs (λ s. (same s).1) t)

module _ {T : Type 0} {times : Times T} (o : PartialOrderLaws times) (b : LatticeLaws times) where
  -- of the new times only the members matter
  pub new_same : (new more near : List T) → SameMembers new more → (t : T) → IsFreshBy times new near t ↔ IsFreshBy times more near t
  new_same new more near same t =
      let js = joins_same o b new more same in (
        λ f. ⊎_elim (λ k. inl ((js t).0 k)) (λ r. inr (r.0, r.1, (js r.0).0 r.2, r.3, r.4)) f,
        λ f. ⊎_elim (λ k. inl ((js t).1 k)) (λ r. inr (r.0, r.1, (js r.0).1 r.2, r.3, r.4)) f,
      )

  -- by one new time, this time is fresh, and its join with each near one
  pub one_fresh : (n : T) (near : List T) (t : T) → Member t (joins_with times n near) ↔ IsFreshBy times (n ∷ []) near t
  one_fresh n near t = (
    (λ m. ⊎_elim
        (λ e. inl (inl e))
        (λ k. let r = image_of (λ s. times.joined s n) t near k in inr (n, r.0, inl refl, r.1, join_commutes o b n r.0 ∙ sym r.2))
        m),
    (λ f. ⊎_elim
        (λ m. inl (only_one t n m))
        (λ r.
        let e : times.joined r.1 n ≡ t = join_commutes o b r.1 n ∙ (ap (λ a. times.joined a r.1) (sym (only_one r.0 n r.2)) ∙ r.4) in
        inr (subst (λ s. Member s (map (λ s. times.joined s n) near)) e (image_in (λ s. times.joined s n) r.1 near r.3)))
        f),
  )

  -- ---- near times are moved

  -- a near time may be moved to its join with an earlier time
  moved_same : (m a s : T) → times.below m a ≡ true → times.joined a (times.joined s m) ≡ times.joined a s
  moved_same m a s h =
      ap (times.joined a) (join_commutes o b s m) ∙ (sym (join_associates o b a m s) ∙ ap (λ r. times.joined r s) (join_later o b m a h))

  -- each join of new times lies between their bounds, too
  joins_between : (low high : T) (new : List T) → AreBetween times low high new → AreBetween times low high (joins_of times new)
  joins_between low high new between =
      joins_least times (λ a. (times.below low a ≡ true) × (times.below a high ≡ true))
      (λ s t h k. (o.transitive _ _ _ h.0 (b.join_left s t), b.join_least s t high h.1 k.1)) new between

  module _ (near new within beyond : List T) (low high : T) (between : AreBetween times low high new) (parts : (t : T) → (Member t within ⊎ Member t beyond) ↔ Member t (map (λ s. times.joined s low) near)) (late : (t : T) → Member t beyond → times.below high t ≡ true) where
    moved : (a s : T) → Member a (joins_of times new) → times.joined a (times.joined s low) ≡ times.joined a s
    moved a s k = moved_same low a s (joins_between low high new between a k).0

    -- a time beyond the bounds is its join with each new time
    absorbed : (a s : T) → Member a (joins_of times new) → Member s beyond → times.joined a s ≡ s
    absorbed a s k m =
        join_commutes o b a s ∙ join_later o b a s (o.transitive _ _ _ (joins_between low high new between a k).1 (late s m))

    to_parts : (t : T) → IsFreshBy times new near t → Member t beyond ⊎ IsFreshBy times new within t
    to_parts t f =
        ⊎_elim
        (λ k. inr (inl k))
        (λ r.
        let s = times.joined r.1 low in
        let e : times.joined r.0 s ≡ t = moved r.0 r.1 r.2 ∙ r.4 in
        ⊎_elim
        (λ k. inr (inr (r.0, s, r.2, k, e)))
        (λ k. inl (subst (λ u. Member u beyond) (sym (absorbed r.0 s r.2 k) ∙ e) k))
        ((parts s).1 (image_in (λ u. times.joined u low) r.1 near r.3)))
        f

    of_beyond : (n t : T) → Member n new → Member t beyond → IsFreshBy times new near t
    of_beyond n t k m =
        let a = joins_have times new n k in
        let r = image_of (λ u. times.joined u low) t near ((parts t).0 (inr m)) in
        inr (n, r.0, a, r.1, sym (moved n r.0 a) ∙ (ap (times.joined n) (sym r.2) ∙ absorbed n t a m))

    of_within : (t : T) → IsFreshBy times new within t → IsFreshBy times new near t
    of_within t f =
        ⊎_elim
        (λ k. inl k)
        (λ r.
        let i = image_of (λ u. times.joined u low) r.1 near ((parts r.1).0 (inl r.3)) in
        inr (r.0, i.0, r.2, i.1, sym (moved r.0 i.0 r.2) ∙ (ap (times.joined r.0) (sym i.2) ∙ r.4)))
        f

    -- moved times beyond the bounds are fresh, and only the others have to be joined
    pub fresh_parted : (n : T) → Member n new → (t : T) → IsFreshBy times new near t ↔ (Member t beyond ⊎ IsFreshBy times new within t)
    fresh_parted n k t = (to_parts t, (λ f. ⊎_elim (λ m. of_beyond n t k m) (λ g. of_within t g) f))

  -- ---- half by half

  module _ (left right near added : List T) (is : (t : T) → Member t added ↔ IsFreshBy times left near t) where
    abbrev pub by_either : T → Type 0
    by_either t = IsFreshBy times left near t ⊎ IsFreshBy times right (near ++ added) t

    to_half : (t : T) → Member t (joins_of times (left ++ right)) → by_either t
    to_half t m =
        ⊎_elim
        (λ f. ⊎_elim
        (λ k. inl (inl k))
        (λ r. inr (inr (r.1, r.0, r.3, in_right r.0 near added ((is r.0).1 (inl r.2)), join_commutes o b r.1 r.0 ∙ r.4)))
        f)
        (λ k. inr (inl k))
        ((joins_append o b left right t).0 m)

    to_half_near : (a s : T) → Member a (joins_of times (left ++ right)) → Member s near → by_either (times.joined a s)
    to_half_near a s m k =
        ⊎_elim
        (λ f. ⊎_elim
        (λ l. inl (inr (a, s, l, k, refl)))
        (λ r.
        let e : times.joined r.1 (times.joined r.0 s) ≡ times.joined a s = sym (join_associates o b r.1 r.0 s) ∙ ap (λ u. times.joined u s) (join_commutes o b r.1 r.0 ∙ r.4) in
        inr (inr (r.1, times.joined r.0 s, r.3, in_right (times.joined r.0 s) near added ((is (times.joined r.0 s)).1 (inr (r.0, s, r.2, k, refl))), e)))
        f)
        (λ l. inr (inr (a, s, l, in_left s near added k, refl)))
        ((joins_append o b left right a).0 m)

    left_within : (t : T) → Member t (joins_of times left) → Member t (joins_of times (left ++ right))
    left_within = joins_within o b left (left ++ right) (λ s m. joins_have times (left ++ right) s (in_left s left right m))

    right_within : (t : T) → Member t (joins_of times right) → Member t (joins_of times (left ++ right))
    right_within = joins_within o b right (left ++ right) (λ s m. joins_have times (left ++ right) s (in_right s left right m))

    of_left : (t : T) → IsFreshBy times left near t → IsFreshBy times (left ++ right) near t
    of_left t f = ⊎_elim (λ k. inl (left_within t k)) (λ r. inr (r.0, r.1, left_within r.0 r.2, r.3, r.4)) f

    of_added : (a s : T) → Member a (joins_of times right) → Member s added → IsFreshBy times (left ++ right) near (times.joined a s)
    of_added a s k m =
        ⊎_elim
        (λ l. inl (joins_closed o b (left ++ right) a s (right_within a k) (left_within s l)))
        (λ r. inr (times.joined a r.0, r.1, joins_closed o b (left ++ right) a r.0 (right_within a k) (left_within r.0 r.2), r.3, join_associates o b a r.0 r.1 ∙ ap (times.joined a) r.4))
        ((is s).0 m)

    of_right : (t : T) → IsFreshBy times right (near ++ added) t → IsFreshBy times (left ++ right) near t
    of_right t f =
        ⊎_elim
        (λ k. inl (right_within t k))
        (λ r. ⊎_elim
        (λ k. inr (r.0, r.1, right_within r.0 r.2, k, r.4))
        (λ k. subst (IsFreshBy times (left ++ right) near) r.4 (of_added r.0 r.1 r.2 k))
        (in_either r.1 near added r.3))
        f

    -- the second half is joined with what the first half added, too
    pub fresh_halves : (t : T) → IsFreshBy times (left ++ right) near t ↔ by_either t
    fresh_halves t = (
      (λ f. ⊎_elim (to_half t) (λ r. subst by_either r.4 (to_half_near r.0 r.1 r.2 r.3)) f),
      (λ f. ⊎_elim (of_left t) (of_right t) f),
    )

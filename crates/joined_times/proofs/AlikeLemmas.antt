-- Kept times that may have been moved as of a since: they join with times beyond it as the joined
-- times do. So what new times add to them is fresh, and they go on to join alike.
use Rattle.std.proofs.Common.{◌≡◌, ◌↔◌, true, List, ◌++◌, map, IsTrue, ◌⊎◌, inl, inr, ⊎_elim, sym, subst, ◌∙◌}
use Rattle.lattice.specs.Times.{Times}
use Rattle.lattice.specs.Order.{PartialOrderLaws, LatticeLaws}
use Rattle.lattice.specs.Frontiers.{is_beyond, all_beyond}
use Rattle.lattice.proofs.FrontierLemmas.{beyond_up, beyond_later}
use Rattle.update.specs.Joins.{joins_of}
use Rattle.joined_times.specs.Joined.{Member, JoinAlike}
use Rattle.joined_times.specs.Additions.{SameMembers, IsFreshBy}
use Rattle.joined_times.proofs.MemberLemmas.{image_in, image_of}
use Rattle.joined_times.proofs.JoinLemmas.{joins_above, joins_append}

module _ {T : Type 0} {times : Times T} (o : PartialOrderLaws times) (b : LatticeLaws times) where
  -- the joins of times beyond a frontier are beyond it
  pub joins_beyond : (since new : List T) → ((n : T) → Member n new → IsTrue (is_beyond times since n)) → (a : T) → Member a (joins_of times new) → IsTrue (is_beyond times since a)
  joins_beyond since new all a m =
      let n = joins_above o b new a m in
      beyond_up o since n.0 a (all n.0 n.1) n.2

  -- what new times add is at or after one of them
  pub fresh_by_above : (new near : List T) (t : T) → IsFreshBy times new near t → (n : T) × Member n new × (times.below n t ≡ true)
  fresh_by_above new near t f =
      ⊎_elim
      (λ k. joins_above o b new t k)
      (λ r.
      let n = joins_above o b new r.0 r.2 in
      (n.0, n.1, o.transitive _ _ _ n.2 (subst (λ s. times.below r.0 s ≡ true) r.4 (b.join_left r.0 r.1))))
      f

  -- what joins alike as of a since does so as of a later one
  pub alike_later : (since later xs ys : List T) → IsTrue (all_beyond times since later) → JoinAlike times since xs ys → JoinAlike times later xs ys
  alike_later since later xs ys a alike n t h = alike n t (beyond_later o since later n a h)

  -- each time may be replaced by one that no join with a time beyond the since tells from it
  pub alike_moved : (since xs ys zs : List T) (f : T → T) → ((n s : T) → IsTrue (is_beyond times since n) → times.joined n (f s) ≡ times.joined n s) → SameMembers zs (map f xs) → JoinAlike times since xs ys → JoinAlike times since zs ys
  alike_moved since xs ys zs f keeps is alike n t h = (
    λ r.
        let s = image_of f r.0 xs ((is r.0).0 r.1) in
        (alike n t h).0 (s.0, s.1, sym (keeps n s.0 h) ∙ (subst (λ z. times.joined n z ≡ t) s.2 r.2)),
    λ r.
        let s = (alike n t h).1 r in
        (f s.0, (is (f s.0)).1 (image_in f s.0 xs s.1), keeps n s.0 h ∙ s.2),
  )

  module _ (since new : List T) (all : (n : T) → Member n new → IsTrue (is_beyond times since n)) where
    -- what new times beyond the since add to times that join alike is the same
    pub fresh_alike : (xs ys : List T) → JoinAlike times since xs ys → (t : T) → IsFreshBy times new xs t ↔ IsFreshBy times new ys t
    fresh_alike xs ys alike t = (
      λ f. ⊎_elim (λ k. inl k) (λ r. let s = (alike r.0 t (joins_beyond since new all r.0 r.2)).0 (r.1, r.3, r.4) in inr (r.0, s.0, r.2, s.1, s.2)) f,
      λ f. ⊎_elim (λ k. inl k) (λ r. let s = (alike r.0 t (joins_beyond since new all r.0 r.2)).1 (r.1, r.3, r.4) in inr (r.0, s.0, r.2, s.1, s.2)) f,
    )

    -- times that join alike with the joins of old times join alike with those of old and new times
    -- once what the new times add is among them
    pub alike_more : (xs old zs : List T) → JoinAlike times since xs (joins_of times old) → ((t : T) → Member t zs ↔ (Member t xs ⊎ IsFreshBy times new xs t)) → JoinAlike times since zs (joins_of times (new ++ old))
    alike_more xs old zs alike is n t h = (
      λ r. ⊎_elim
          (λ k. let s = (alike n t h).0 (r.0, k, r.2) in (s.0, (joins_append o b new old s.0).1 (inr s.1), s.2))
          (λ f. (r.0, (joins_append o b new old r.0).1 (inl ((fresh_alike xs (joins_of times old) alike r.0).0 f)), r.2))
          ((is r.0).0 r.1),
      λ r. ⊎_elim
          (λ f. (r.0, (is r.0).1 (inr ((fresh_alike xs (joins_of times old) alike r.0).1 f)), r.2))
          (λ k. let s = (alike n t h).1 (r.0, k, r.2) in (s.0, (is s.0).1 (inl s.1), s.2))
          ((joins_append o b new old r.0).0 r.1),
    )

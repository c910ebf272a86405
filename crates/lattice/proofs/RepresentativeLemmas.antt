-- What the representative of a time keeps, and that it is the greatest time that keeps it.
use Rattle.std.proofs.Common.{◌≡◌, List, [], ◌∷◌, map, IsTrue, refl, sym, ◌∙◌, ⊎_elim, ◌≢◌}
use Rattle.std.proofs.lemmas.Bool.{or_cases, and_parts, true≢false}
use Rattle.std.specs.List.{fold, list_all}
use Rattle.lattice.specs.Times.{Times}
use Rattle.lattice.specs.Order.{PartialOrderLaws, LatticeLaws}
use Rattle.lattice.specs.Frontiers.{is_beyond, all_beyond}
use Rattle.lattice.specs.Representatives.{representative_of, Indistinguishable}
use Rattle.lattice.proofs.BoundLemmas.{same_test}
use Rattle.lattice.proofs.FrontierLemmas.{all_more, beyond_up, beyond_later, beyond_itself}

module _ {T : Type 0} {times : Times T} (o : PartialOrderLaws times) (l : LatticeLaws times) where
  -- a meet of times is at or before the first of them
  meet_below_start : (m : T) (ts : List T) → IsTrue (times.below (fold times.met m ts) m)
  meet_below_start m [] = o.reflexive m
  meet_below_start m (t ∷ ts) = o.transitive _ _ _ (meet_below_start (times.met m t) ts) (l.meet_left m t)

  -- the meet of the joins is at or before each time after t that some element is at or before
  meet_below : (t s m : T) (F : List T) → IsTrue (is_beyond times F s) → IsTrue (times.below t s) → IsTrue (times.below (fold times.met m (map (times.joined t) F)) s)
  meet_below t s m [] h k = absurd (true≢false (sym h))
  meet_below t s m (f ∷ F) h k =
      ⊎_elim
      (λ e. o.transitive _ _ _ (meet_below_start (times.met m (times.joined t f)) (map (times.joined t) F)) (o.transitive _ _ _ (l.meet_right m (times.joined t f)) (l.join_least t f s k e)))
      (λ e. meet_below t s (times.met m (times.joined t f)) F e k)
      (or_cases _ _ h)

  representative_below : (t s : T) (F : List T) → IsTrue (is_beyond times F s) → IsTrue (times.below t s) → IsTrue (times.below (representative_of times F t) s)
  representative_below t s [] h k = absurd (true≢false (sym h))
  representative_below t s (f ∷ F) h k =
      ⊎_elim
      (λ e. o.transitive _ _ _ (meet_below_start (times.joined t f) (map (times.joined t) F)) (l.join_least t f s k e))
      (λ e. meet_below t s (times.joined t f) F e k)
      (or_cases _ _ h)

  -- a time at or before each of the joins is at or before their meet
  above_meet : (z t m : T) (F : List T) → IsTrue (times.below z m) → IsTrue (list_all (λ f. times.below z (times.joined t f)) F) → IsTrue (times.below z (fold times.met m (map (times.joined t) F)))
  above_meet z t m [] h a = h
  above_meet z t m (f ∷ F) h a =
      let parts = and_parts _ _ a in
      above_meet z t (times.met m (times.joined t f)) F (l.meet_greatest _ _ _ h parts.0) parts.1

  above_representative : (z t : T) (F : List T) → F ≢ [] → IsTrue (list_all (λ f. times.below z (times.joined t f)) F) → IsTrue (times.below z (representative_of times F t))
  above_representative z t [] some a = absurd (some refl)
  above_representative z t (f ∷ F) some a =
      let parts = and_parts _ _ a in
      above_meet z t (times.joined t f) F parts.0 parts.1

  -- the representative of t is the greatest time at or before all times beyond the frontier at
  -- which t is visible
  pub representative_greatest : (F : List T) (t z : T) → F ≢ [] → ((s : T) → IsTrue (is_beyond times F s) → IsTrue (times.below t s) → IsTrue (times.below z s)) → IsTrue (times.below z (representative_of times F t))
  representative_greatest F t z some h =
      above_representative z t F some
      (all_more (is_beyond times F) (λ f. times.below z (times.joined t f))
      (λ f b. h (times.joined t f) (beyond_up o F f (times.joined t f) b (l.join_right t f)) (l.join_left t f))
      F (beyond_itself o F))

  -- compaction moves a time later, never back
  pub representative_later : (F : List T) (t : T) → IsTrue (times.below t (representative_of times F t))
  representative_later [] t = o.reflexive t
  representative_later (f ∷ F) t = representative_greatest (f ∷ F) t t (λ e. cc) (λ s b k. k)

  -- no read beyond the frontier can tell a time from its representative
  pub representative_keeps : (F : List T) (t : T) → Indistinguishable times F t (representative_of times F t)
  representative_keeps F t s h =
      same_test _ _ (representative_below t s F h) (o.transitive _ _ _ (representative_later F t))

  -- a time that is beyond the frontier is its own representative
  pub representative_stays : (F : List T) (t : T) → IsTrue (is_beyond times F t) → representative_of times F t ≡ t
  representative_stays F t h = o.antisymmetric _ _ (representative_below t t F h (o.reflexive t)) (representative_later F t)

  representative_one_way : (F : List T) (t u : T) → F ≢ [] → Indistinguishable times F t u → IsTrue (times.below (representative_of times F t) (representative_of times F u))
  representative_one_way F t u some same =
      representative_greatest F u (representative_of times F t) some
      (λ s b k. representative_below t s F b (same s b ∙ k))

  -- times that no read can tell apart have one representative
  pub representative_one : (F : List T) (t u : T) → F ≢ [] → Indistinguishable times F t u → representative_of times F t ≡ representative_of times F u
  representative_one F t u some same =
      o.antisymmetric _ _ (representative_one_way F t u some same) (representative_one_way F u t some (λ s b. sym (same s b)))

  -- joined with a time beyond the frontier, the representative and the time give the same
  pub join_representative : (F : List T) (t u : T) → IsTrue (is_beyond times F t) → times.joined t (representative_of times F u) ≡ times.joined t u
  join_representative F t u h =
      let r = representative_of times F u in
      let there : IsTrue (is_beyond times F (times.joined t u)) = beyond_up o F t (times.joined t u) h (l.join_left t u) in
      o.antisymmetric _ _
      (l.join_least _ _ _ (l.join_left t u) (representative_below u (times.joined t u) F there (l.join_right t u)))
      (l.join_least _ _ _ (l.join_left t r) (o.transitive _ _ _ (representative_later F u) (l.join_right t r)))

  -- compacting in two steps gives the same as compacting once
  pub representative_in_steps : (F G : List T) (t : T) → G ≢ [] → IsTrue (all_beyond times F G) → representative_of times G (representative_of times F t) ≡ representative_of times G t
  representative_in_steps F G t some a =
      sym (representative_one G t (representative_of times F t) some (λ s b. representative_keeps F t s (beyond_later o F G s a b)))

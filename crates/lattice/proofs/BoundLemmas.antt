-- Joins and meets under the laws of a lattice: how to test them, and that joins may be taken in any
-- order.
use Rattle.std.proofs.Common.{◌≡◌, Bool, true, false, ◌&&◌, IsTrue, refl, sym}
use Rattle.std.proofs.lemmas.Bool.{and_parts, and_from}
use Rattle.lattice.specs.Times.{Times}
use Rattle.lattice.specs.Order.{PartialOrderLaws, LatticeLaws}

-- two tests are equal if each implies the other
pub same_test : (a b : Bool) → (IsTrue a → IsTrue b) → (IsTrue b → IsTrue a) → a ≡ b
same_test true b h k = sym (h refl)
same_test false true h k = k refl
same_test false false h k = refl

module _ {T : Type 0} {times : Times T} (o : PartialOrderLaws times) (l : LatticeLaws times) where
  -- a join is at or before a time if and only if both of its parts are
  pub join_below : (t u s : T) → times.below (times.joined t u) s ≡ (times.below t s && times.below u s)
  join_below t u s =
      same_test _ _
      (λ h. and_from _ _ (o.transitive _ _ _ (l.join_left t u) h) (o.transitive _ _ _ (l.join_right t u) h))
      (λ h. let p = and_parts _ _ h in l.join_least t u s p.0 p.1)

  -- a time is at or before a meet if and only if it is at or before both parts
  pub below_meet : (t u s : T) → times.below s (times.met t u) ≡ (times.below s t && times.below s u)
  below_meet t u s =
      same_test _ _
      (λ h. and_from _ _ (o.transitive _ _ _ h (l.meet_left t u)) (o.transitive _ _ _ h (l.meet_right t u)))
      (λ h. let p = and_parts _ _ h in l.meet_greatest t u s p.0 p.1)

  join_one_way : (t u : T) → IsTrue (times.below (times.joined t u) (times.joined u t))
  join_one_way t u = l.join_least t u (times.joined u t) (l.join_right u t) (l.join_left u t)

  -- joins commute
  pub join_commutes : (t u : T) → times.joined t u ≡ times.joined u t
  join_commutes t u = o.antisymmetric _ _ (join_one_way t u) (join_one_way u t)

  -- joins associate
  pub join_associates : (t u v : T) → times.joined (times.joined t u) v ≡ times.joined t (times.joined u v)
  join_associates t u v =
      let left = l.join_left t (times.joined u v) in
      let right = l.join_right t (times.joined u v) in
      let first = l.join_left (times.joined t u) v in
      o.antisymmetric _ _
      (l.join_least _ _ _
      (l.join_least _ _ _ left (o.transitive _ _ _ (l.join_left u v) right))
      (o.transitive _ _ _ (l.join_right u v) right))
      (l.join_least _ _ _
      (o.transitive _ _ _ (l.join_left t u) first)
      (l.join_least _ _ _ (o.transitive _ _ _ (l.join_right t u) first) (l.join_right (times.joined t u) v)))

  -- a time joined with itself is the time
  pub join_same : (t : T) → times.joined t t ≡ t
  join_same t = o.antisymmetric _ _ (l.join_least t t t (o.reflexive t) (o.reflexive t)) (l.join_left t t)

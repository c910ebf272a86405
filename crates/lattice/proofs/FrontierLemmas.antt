-- Which times and frontiers are beyond a frontier, under the laws of a partial order.
use Rattle.std.proofs.Common.{Bool, List, [], ◌∷◌, IsTrue, refl, sym, ⊎_elim}
use Rattle.std.proofs.lemmas.Bool.{or_cases, or_left, or_right, and_parts, and_from, true≢false}
use Rattle.std.specs.List.{list_all}
use Rattle.lattice.specs.Times.{Times}
use Rattle.lattice.specs.Order.{PartialOrderLaws}
use Rattle.lattice.specs.Frontiers.{is_beyond, all_beyond}

-- if one test implies another and all elements pass it, then all pass the other
pub all_more : {T : Type 0} (p q : T → Bool) → ((t : T) → IsTrue (p t) → IsTrue (q t)) → (ts : List T) → IsTrue (list_all p ts) → IsTrue (list_all q ts)
all_more p q h [] a = refl
all_more p q h (t ∷ ts) a =
    let parts = and_parts _ _ a in
    and_from _ _ (h t parts.0) (all_more p q h ts parts.1)

module _ {T : Type 0} {times : Times T} (o : PartialOrderLaws times) where
  -- if a time is beyond a frontier, then so is every later time
  pub beyond_up : (F : List T) (t u : T) → IsTrue (is_beyond times F t) → IsTrue (times.below t u) → IsTrue (is_beyond times F u)
  beyond_up [] t u h k = absurd (true≢false (sym h))
  beyond_up (f ∷ F) t u h k =
      ⊎_elim (λ e. or_left _ _ (o.transitive f t u e k)) (λ e. or_right (times.below f u) _ (beyond_up F t u e k)) (or_cases _ _ h)

  -- a time beyond the later frontier is beyond the earlier one
  pub beyond_later : (F G : List T) (t : T) → IsTrue (all_beyond times F G) → IsTrue (is_beyond times G t) → IsTrue (is_beyond times F t)
  beyond_later F [] t a h = absurd (true≢false (sym h))
  beyond_later F (g ∷ G) t a h =
      let parts = and_parts _ _ a in
      ⊎_elim (λ e. beyond_up F g t parts.0 e) (λ e. beyond_later F G t parts.1 e) (or_cases _ _ h)

  -- a frontier is beyond itself
  pub beyond_itself : (F : List T) → IsTrue (all_beyond times F F)
  beyond_itself [] = refl
  beyond_itself (f ∷ F) =
      and_from _ _ (or_left _ _ (o.reflexive f))
      (all_more (is_beyond times F) (is_beyond times (f ∷ F)) (λ t h. or_right (times.below f t) _ h) F (beyond_itself F))

  -- being beyond is transitive: a frontier that moves on twice has moved on
  pub all_beyond_later : (F G H : List T) → IsTrue (all_beyond times F G) → IsTrue (all_beyond times G H) → IsTrue (all_beyond times F H)
  all_beyond_later F G H a b = all_more (is_beyond times G) (is_beyond times F) (λ t h. beyond_later F G t a h) H b

  -- if every time beyond one frontier is beyond another, then the one frontier is beyond the other
  pub all_beyond_from : (F G : List T) → ((t : T) → IsTrue (is_beyond times G t) → IsTrue (is_beyond times F t)) → IsTrue (all_beyond times F G)
  all_beyond_from F G h = all_more (is_beyond times G) (is_beyond times F) h G (beyond_itself G)

-- Pairs of times, ordered component by component. Each law of pairs follows from the same law of
-- both components.
use Rattle.std.specs.Prelude.{◌≡◌, Bool, ◌&&◌, IsTrue, refl}
use Rattle.std.proofs.lemmas.Bool.{and_parts, and_from}
use Rattle.std.specs.Ordering.{is_le, ordering_then}
use Rattle.std.specs.declared.cmp.Ordering.{Ordering}
use Rattle.std.specs.declared.cmp.Ordering.TheVariants.{Less, Equal, Greater}
use Rattle.lattice.specs.Times.{Times}
use Rattle.lattice.specs.Order.{PartialOrderLaws, LatticeLaws, ExtendsLaws}
use Rattle.lattice.specs.declared.product.Pair.{Pair}

-- the pair of two components
abbrev pub make_pair : {A B : Type 0} → A → B → Pair A B
make_pair x y = record { first = x; second = y }

-- at or before in both components; join, meet and the least time component by component
abbrev pub pair_times : {A B : Type 0} → Times A → Times B → Times (Pair A B)
pair_times a b = record {
  below = λ p q. a.below p.first q.first && b.below p.second q.second;
  joined = λ p q. make_pair (a.joined p.first q.first) (b.joined p.second q.second);
  met = λ p q. make_pair (a.met p.first q.first) (b.met p.second q.second);
  least = make_pair a.least b.least;
}

-- the first components decide; if they tie, the second ones do
abbrev pub pair_cmp : {A B : Type 0} → (A → A → Ordering) → (B → B → Ordering) → Pair A B → Pair A B → Ordering
pair_cmp a b p q = ordering_then (a p.first q.first) (b p.second q.second)

same_pair : {A B : Type 0} (x u : A) (y v : B) → x ≡ u → y ≡ v → make_pair x y ≡ make_pair u v
same_pair x u y v e f = cc

then_le : (o p : Ordering) → IsTrue (is_le o) → IsTrue (is_le p) → IsTrue (is_le (ordering_then o p))
then_le Less p h k = refl
then_le Equal p h k = k
then_le Greater p h k = h

then_equal : (o p : Ordering) → ordering_then o p ≡ Equal → (o ≡ Equal) × (p ≡ Equal)
then_equal Less p e = cc
then_equal Equal p e = (refl, e)
then_equal Greater p e = cc

module _ {A B : Type 0} {a : Times A} {b : Times B} where
  -- pairs are partially ordered
  pub pair_order : PartialOrderLaws a → PartialOrderLaws b → PartialOrderLaws (pair_times a b)
  pair_order la lb = record {
    reflexive = λ p. and_from _ _ (la.reflexive p.first) (lb.reflexive p.second);
    transitive = λ p q r h k.
        let l = and_parts _ _ h in
        let m = and_parts _ _ k in
        and_from _ _ (la.transitive _ _ _ l.0 m.0) (lb.transitive _ _ _ l.1 m.1);
    antisymmetric = λ p q h k.
        let l = and_parts _ _ h in
        let m = and_parts _ _ k in
        same_pair _ _ _ _ (la.antisymmetric _ _ l.0 m.0) (lb.antisymmetric _ _ l.1 m.1);
  }

  -- joins and meets of pairs are least upper and greatest lower bounds
  pub pair_bounds : LatticeLaws a → LatticeLaws b → LatticeLaws (pair_times a b)
  pair_bounds la lb = record {
    join_left = λ p q. and_from _ _ (la.join_left _ _) (lb.join_left _ _);
    join_right = λ p q. and_from _ _ (la.join_right _ _) (lb.join_right _ _);
    join_least = λ p q r h k.
        let l = and_parts _ _ h in
        let m = and_parts _ _ k in
        and_from _ _ (la.join_least _ _ _ l.0 m.0) (lb.join_least _ _ _ l.1 m.1);
    meet_left = λ p q. and_from _ _ (la.meet_left _ _) (lb.meet_left _ _);
    meet_right = λ p q. and_from _ _ (la.meet_right _ _) (lb.meet_right _ _);
    meet_greatest = λ p q r h k.
        let l = and_parts _ _ h in
        let m = and_parts _ _ k in
        and_from _ _ (la.meet_greatest _ _ _ l.0 m.0) (lb.meet_greatest _ _ _ l.1 m.1);
  }

  -- the order of sorting extends the partial order of pairs
  pub pair_extends : {ca : A → A → Ordering} {cb : B → B → Ordering} → ExtendsLaws a ca → ExtendsLaws b cb
      → ExtendsLaws (pair_times a b) (pair_cmp ca cb)
  pair_extends la lb = record {
    extends = λ p q h.
        let l = and_parts _ _ h in
        then_le _ _ (la.extends _ _ l.0) (lb.extends _ _ l.1);
    exact = λ p q e.
        let l = then_equal _ _ e in
        same_pair _ _ _ _ (la.exact _ _ l.0) (lb.exact _ _ l.1);
  }

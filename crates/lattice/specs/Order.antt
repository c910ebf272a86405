-- The laws of the traits of timestamps. A partial order is given by its test, a lattice by its two
-- operations (Birkhoff, Lattice Theory, 1940; as timestamps: Abadi, McSherry and Plotkin,
-- Foundations of Differential Dataflow, 2015).
use Rattle.std.specs.Prelude.{◌≡◌, IsTrue}
use Rattle.std.specs.Ordering.{is_le}
use Rattle.std.specs.declared.cmp.Ordering.{Ordering}
use Rattle.std.specs.declared.cmp.Ordering.TheVariants.{Equal}
use Rattle.lattice.specs.Times.{Times}

-- a partial order: reflexive, transitive and antisymmetric
pub record PartialOrderLaws {T : Type 0} (times : Times T) : Type 0 where
  pub reflexive : (t : T) → IsTrue (times.below t t)
  pub transitive : (t u v : T) → IsTrue (times.below t u) → IsTrue (times.below u v) → IsTrue (times.below t v)
  pub antisymmetric : (t u : T) → IsTrue (times.below t u) → IsTrue (times.below u t) → t ≡ u

-- the join of two times is their least upper bound, and the meet their greatest lower bound
pub record LatticeLaws {T : Type 0} (times : Times T) : Type 0 where
  pub join_left : (t u : T) → IsTrue (times.below t (times.joined t u))
  pub join_right : (t u : T) → IsTrue (times.below u (times.joined t u))
  pub join_least : (t u v : T) → IsTrue (times.below t v) → IsTrue (times.below u v) → IsTrue (times.below (times.joined t u) v)
  pub meet_left : (t u : T) → IsTrue (times.below (times.met t u) t)
  pub meet_right : (t u : T) → IsTrue (times.below (times.met t u) u)
  pub meet_greatest : (t u v : T) → IsTrue (times.below v t) → IsTrue (times.below v u) → IsTrue (times.below v (times.met t u))

-- the order of sorting extends the partial order, and times that tie in it are identical
pub record ExtendsLaws {T : Type 0} (times : Times T) (cmp : T → T → Ordering) : Type 0 where
  pub extends : (t u : T) → IsTrue (times.below t u) → IsTrue (is_le (cmp t u))
  pub exact : (t u : T) → cmp t u ≡ Equal → t ≡ u

-- The differences of a view are one consolidated list of updates. At every time that the frontier
-- has passed, they sum to the query on the inputs as of that time (McSherry et al., Differential
-- Dataflow, CIDR 2013).
use Rattle.std.specs.Prelude.{ℕ, Bool, not, List, IsTrue}
use Rattle.std.specs.List.{list_all, flat_map}
use Rattle.std.specs.declared.cmp.Ordering.{Ordering}
use Rattle.lattice.specs.Times.{Times}
use Rattle.lattice.specs.Frontiers.{is_beyond}
use Rattle.update.specs.Bags.{Alike}
use Rattle.update.specs.Updates.{as_of, IsConsolidated}
use Rattle.update.specs.declared.change.Update.{Update}
use Rattle.plan.specs.Ancestors.{feeders}
use Rattle.plan.specs.Queries.{query}
use Rattle.plan.specs.declared.node.Node.{Node}

module _ {T : Type 0} (times : Times T) where
  -- the frontier has no element at or before t
  abbrev pub has_passed : List T → T → Bool
  has_passed frontier t = not (is_beyond times frontier t)

  -- the query of node n on the inputs as of time t
  abbrev pub query_at : List Node → (ℕ → List (Update T)) → ℕ → T → List Rattle.update.specs.Bags.Entry
  query_at p changes n t = query p (λ input. as_of times t (changes input)) n

  -- the frontier of node n: the elements of the frontiers of all inputs that feed it
  abbrev pub open_for : List Node → (ℕ → List T) → ℕ → List T
  open_for p frontiers n = flat_map frontiers (feeders p n)

  -- the differences of node n, as of a frontier
  pub record AreDifferences (cmp : T → T → Ordering) (p : List Node) (changes : ℕ → List (Update T))
      (frontier : List T) (n : ℕ) (us : List (Update T)) : Type 0 where
    pub consolidated : IsConsolidated cmp us
    pub passed : IsTrue (list_all (λ u. has_passed frontier u.time) us)
    pub sums : (t : T) → IsTrue (has_passed frontier t) → Alike (as_of times t us) (query_at p changes n t)

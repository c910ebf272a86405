-- What a worker has at an arrange node: what it gave is in its trace, and what it gathered waits
-- behind it.
use Rattle.std.specs.Prelude.{◌≡◌, ℕ, ◌≤◌, Bool, List, ℤ, IsTrue}
use Rattle.std.specs.declared.cmp.Ordering.{Ordering}
use Rattle.lattice.specs.Times.{Times}
use Rattle.lattice.specs.Frontiers.{all_beyond}
use Rattle.update.specs.declared.change.Update.{Update}
use Rattle.update.specs.Updates.{total_where, size}
use Rattle.plan.specs.declared.node.Node.TheVariants.{Arrange}
use Rattle.batch.specs.Batches.{IsSealed}
use Rattle.trace.specs.Readings.{Insertion, all_updates, reached}
use Rattle.histories.specs.Histories.Dataflows.{Dataflow, node_of}
use Rattle.histories.specs.Histories.States.{State, update_times, emitted_by}
use Rattle.histories.specs.Histories.Outstanding.{input_frontier}
use Rattle.histories.specs.Histories.Promises.{NeverGoesBack}
use Rattle.operator_laws.specs.GatheredUpdates.{IsGathering}

module _ {T : Type 0} (times : Times T) where
  -- the trace began at a boundary and stands for these insertions: they are what was given; what
  -- waits is beyond their boundary, and so is whatever may still come
  pub record IsArranging (p : Dataflow) (w : State T) (n k : ℕ) (start : List T) (inserted : List (Insertion T)) (waiting : List (Update T)) : Type 0 where
    pub source : ℕ
    pub key : ℕ
    pub node : node_of p n ≡ Arrange source key
    pub gathering : IsGathering times p w n k waiting
    pub emitted : emitted_by n k w.emitted ≡ all_updates inserted
    pub later : IsTrue (all_beyond times (reached start inserted) (update_times waiting))
    pub passed : NeverGoesBack times (reached start inserted) (input_frontier times p w n)

-- what a seal answers of these updates
pub record IsSealOf {T : Type 0} (cmp : T → T → Ordering) (us out : List (Update T)) : Type 0 where
  pub sealed : IsSealed cmp out
  pub totals : (test : List ℤ → T → Bool) → total_where test out ≡ total_where test us
  pub smaller : size out ≤ size us

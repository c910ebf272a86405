-- What a worker has computed at a node and has not given yet. It holds the times of it back, so
-- that no frontier passes them.
use Rattle.std.specs.Prelude.{◌≡◌, ◌≢◌, ℕ, ◌+◌, ◌≤◌, ◌<◌, Bool, false, ◌&&◌, eqb, List, ◌++◌, Some, IsTrue}
use Rattle.lattice.specs.Times.{Times}
use Rattle.lattice.specs.Frontiers.{all_beyond}
use Rattle.update.specs.Bags.{Alike}
use Rattle.update.specs.Updates.{as_of, size}
use Rattle.update.specs.declared.change.Update.{Update}
use Rattle.plan.specs.Operators.{operator_output}
use Rattle.plan.specs.Bounds.{output_bound}
use Rattle.plan.specs.Nodes.{is_reduction}
use Rattle.plan.specs.declared.node.Node.{Node}
use Rattle.linear.specs.Ports.{with_more_at}
use Rattle.histories.specs.declared.event.Bundle.{Bundle}
use Rattle.histories.specs.declared.event.Emission.{Emission}
use Rattle.histories.specs.declared.event.Event.{Event}
use Rattle.histories.specs.declared.event.Event.TheVariants.{Feed, Advance, Allow, Look, Take, TakeHeld, Give}
use Rattle.histories.specs.Histories.Dataflows.{Dataflow, node_of, node_output}
use Rattle.histories.specs.Histories.States.{State, update_times, emitted_by, held_at}
use Rattle.histories.specs.Histories.Shares.{AreShares, are_filled, are_stamped}
use Rattle.histories.specs.Histories.NodeLaws.{received_at}

-- the event is a take of a bundle at this node by this worker, or a give of it there
abbrev pub is_of : {T : Type 0} → ℕ → ℕ → Event T → Bool
is_of n k (Feed client f) = false
is_of n k (Advance client i ts) = false
is_of n k (Allow client v ts) = false
is_of n k (Look actor) = false
is_of n k (Take number bundle) = eqb bundle.place.node n && eqb bundle.place.worker k
is_of n k (TakeHeld worker node) = false
is_of n k (Give g ts sent) = eqb g.node n && eqb g.worker k

-- the worker has a piece of this node in hand
pub record IsInHand {T : Type 0} (p : Dataflow) (w : State T) (n k : ℕ) : Type 0 where
  pub worker : k < p.workers
  pub hand : w.hand k ≡ Some n

module _ {T : Type 0} (times : Times T) where
  -- the bundles carry exactly the given updates, and none is empty; if the updates are beyond
  -- everything held, so are the bundles' stamps, and each bundle's updates are beyond its stamp
  pub record IsCut (p : Dataflow) (g : Emission T) (sent : List (Bundle T)) : Type 0 where
    pub whole : AreShares p g sent
    pub filled : IsTrue (are_filled sent)
    pub stamped : (held : List T) → IsTrue (all_beyond times held (update_times g.updates))
        → IsTrue (are_stamped times held sent)

  -- each of the updates is beyond the bundle's stamp
  abbrev pub IsStamped : Bundle T → Type 0
  IsStamped bundle = IsTrue (all_beyond times bundle.stamp (update_times bundle.updates))

  -- one more bundle at a port, where these were received before, makes these: at every time, within
  -- the load, and none of them before the bundle
  pub record IsPiece (k : ℕ) (node : Node) (received : ℕ → List (Update T)) (port : ℕ) (us out : List (Update T)) : Type 0 where
    pub sums : (made : List (Update T)) (t : T)
        → Alike (as_of times t made) (operator_output k node (λ i. as_of times t (received i)))
        → Alike (as_of times t (out ++ made))
        (operator_output k node (λ i. as_of times t (with_more_at port us received i)))
    pub load : size out + output_bound node 0 (λ i. size (received i))
        ≤ output_bound node 0 (λ i. size (with_more_at port us received i))
    pub beyond : (frontier : List T) → IsTrue (all_beyond times frontier (update_times us))
        → IsTrue (all_beyond times frontier (update_times out))

  -- of what waits this is given, and that waits on; either may be consolidated
  pub record IsSplit (waiting out rest : List (Update T)) : Type 0 where
    pub sums : (t : T) → Alike (as_of times t (out ++ rest)) (as_of times t waiting)
    pub smaller : size out + size rest ≤ size waiting
    pub out_beyond : (frontier : List T) → IsTrue (all_beyond times frontier (update_times waiting))
        → IsTrue (all_beyond times frontier (update_times out))
    pub rest_beyond : (frontier : List T) → IsTrue (all_beyond times frontier (update_times waiting))
        → IsTrue (all_beyond times frontier (update_times rest))

  -- holding the one list of times is holding the other: each time of either is beyond some time of
  -- the other
  pub record IsHeldFor (held ts : List T) : Type 0 where
    pub covers : IsTrue (all_beyond times held ts)
    pub tight : IsTrue (all_beyond times ts held)

  -- what a worker gave at a node and what waits are together what the node makes of what was
  -- received; the worker holds the times of what waits, and between two pieces no earlier ones
  pub record IsGathering (p : Dataflow) (w : State T) (n k : ℕ) (waiting : List (Update T)) : Type 0 where
    pub kind : is_reduction (node_of p n) ≡ false
    pub sums : (t : T) → Alike (as_of times t (waiting ++ emitted_by n k w.emitted))
        (node_output p n (λ port. as_of times t (received_at w n k port)))
    pub load : size waiting + size (emitted_by n k w.emitted)
        ≤ output_bound (node_of p n) 0 (λ port. size (received_at w n k port))
    pub held : IsTrue (all_beyond times (held_at n k w.held) (update_times waiting))
    pub tight : w.hand k ≢ Some n → IsTrue (all_beyond times (update_times waiting) (held_at n k w.held))

-- What a worker has at a reduction: the times at which its answers are still to be found.
use Rattle.std.specs.Prelude.{◌≡◌, ◌≢◌, ℕ, List, ◌++◌, Some, IsTrue}
use Rattle.std.specs.List.{list_all}
use Rattle.lattice.specs.Times.{Times}
use Rattle.lattice.specs.Frontiers.{all_beyond}
use Rattle.update.specs.Bags.{Alike}
use Rattle.update.specs.Updates.{as_of, AreApart}
use Rattle.update.specs.declared.change.Update.{Update}
use Rattle.plan.specs.Changes.{has_passed}
use Rattle.plan.specs.declared.kind.Kind.{Kind}
use Rattle.plan.specs.declared.node.Node.TheVariants.{Reduce}
use Rattle.histories.specs.Histories.Dataflows.{Dataflow, node_of, node_output}
use Rattle.histories.specs.Histories.States.{State, update_times, emitted_by, held_at}
use Rattle.histories.specs.Histories.Outstanding.{input_frontier}
use Rattle.histories.specs.Histories.NodeLaws.{received_at, was_passed}
use Rattle.histories.specs.Histories.Promises.{NeverGoesBack}

module _ {T : Type 0} (times : Times T) where
  -- what a reduction gave is right wherever no pending time has come; it is final: of times that
  -- the boundary has passed, beyond which all that is pending and all that may still come lies; the
  -- worker holds the pending times
  pub record IsReducing (p : Dataflow) (w : State T) (n k : ℕ) (upper pending : List T) : Type 0 where
    pub kind : Kind
    pub source : ℕ
    pub node : node_of p n ≡ Reduce kind source
    pub law : (t : T) → IsTrue (has_passed times pending t)
        → Alike (as_of times t (emitted_by n k w.emitted))
        (node_output p n (λ port. as_of times t (received_at w n k port)))
    pub apart : AreApart times (emitted_by n k w.emitted)
    pub settled : IsTrue (list_all (λ u. has_passed times upper u.time) (emitted_by n k w.emitted))
    pub was : IsTrue (list_all (λ u. was_passed times n k w.observed u.time) (emitted_by n k w.emitted))
    pub later : IsTrue (all_beyond times upper pending)
    pub passed : NeverGoesBack times upper (input_frontier times p w n)
    pub held : IsTrue (all_beyond times (held_at n k w.held) pending)
    pub tight : w.hand k ≢ Some n → IsTrue (all_beyond times pending (held_at n k w.held))

  -- with these updates these times are pending: nothing of them and of what was pending comes
  -- before, and nothing else
  pub record IsPendingWith (pending : List T) (us : List (Update T)) (more : List T) : Type 0 where
    pub old : IsTrue (all_beyond times more pending)
    pub new : IsTrue (all_beyond times more (update_times us))
    pub beyond : (frontier : List T) → IsTrue (all_beyond times frontier pending)
        → IsTrue (all_beyond times frontier (update_times us)) → IsTrue (all_beyond times frontier more)

  -- of what is pending these answers were found, at times that a frontier has passed, and the rest
  -- stays pending
  pub record IsFound (p : Dataflow) (w : State T) (n k : ℕ) (upper pending frontier : List T) (out : List (Update T)) (rest : List T) : Type 0 where
    pub law : (t : T) → IsTrue (has_passed times rest t)
        → Alike (as_of times t (out ++ emitted_by n k w.emitted))
        (node_output p n (λ port. as_of times t (received_at w n k port)))
    pub apart : AreApart times (out ++ emitted_by n k w.emitted)
    pub settled : IsTrue (list_all (λ u. has_passed times frontier u.time) out)
    pub was : IsTrue (list_all (λ u. was_passed times n k w.observed u.time) out)
    pub later : IsTrue (all_beyond times frontier rest)
    pub on : NeverGoesBack times upper frontier
    pub passed : NeverGoesBack times frontier (input_frontier times p w n)
    pub out_beyond : (other : List T) → IsTrue (all_beyond times other pending)
        → IsTrue (all_beyond times other (update_times out))
    pub rest_beyond : (other : List T) → IsTrue (all_beyond times other pending)
        → IsTrue (all_beyond times other rest)

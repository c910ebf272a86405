-- What a worker holds at a node once it gave there what its input frontier had passed.
use Rattle.std.proofs.Common.{◌≡◌, ℕ, false, List, [], Option, Some, None, IsTrue, sym, refl, ap, ◌∙◌, subst}
use Rattle.std.specs.Prelude.{IfSome}
use Rattle.lattice.specs.Times.{Times}
use Rattle.lattice.specs.Order.{PartialOrderLaws}
use Rattle.lattice.specs.Frontiers.{all_beyond}
use Rattle.lattice.proofs.FrontierLemmas.{all_beyond_later}
use Rattle.update.specs.declared.change.Update.{Update}
use Rattle.batch.specs.Descriptions.{BatchState}
use Rattle.plan.specs.Nodes.{is_reduction}
use Rattle.plan.specs.declared.node.Node.{Node}
use Rattle.plan.specs.declared.node.Node.TheVariants.{Reduce}
use Rattle.histories.specs.declared.event.Bundle.{Bundle}
use Rattle.histories.specs.Histories.Dataflows.{Dataflow, node_of}
use Rattle.histories.specs.Histories.States.{ObservedFrontier, State, update_times}
use Rattle.histories.specs.Histories.{give_state}
use Rattle.operator_laws.specs.GatheredUpdates.{IsHeldFor}
use Rattle.operator_laws.proofs.GatheredLemmas.{held_beyond, held_now}
use Rattle.desk_laws.specs.Observed.{AreBeyondNewest, HoldsBeyondNewest, newest_observed}
use Rattle.desk_laws.specs.Own.{DeskView, IsOwn, due_in, due_on}
use Rattle.desk_laws.specs.declared.hand.Hand.TheVariants.{Ready, Sealed}
use Rattle.desk_laws.proofs.GivenLemmas.{due_waits}

module _ {T : Type 0} (times : Times T) (o : PartialOrderLaws times) where
  -- what is beyond times that are beyond the newest observed frontier is beyond that frontier
  pub newest_later : (n k : ℕ) (observed : List (ObservedFrontier T)) (F ts : List T) → AreBeyondNewest times n k observed F → IsTrue (all_beyond times F ts) → AreBeyondNewest times n k observed ts
  newest_later n k observed F ts first h = by (newest_observed n k observed) first
    where
      by : (found : Option (ObservedFrontier T)) → IfSome found (λ l. IsTrue (all_beyond times l.frontier F)) → IfSome found (λ l. IsTrue (all_beyond times l.frontier ts))
      by (Some l) g = all_beyond_later o l.frontier F ts g h
      by None g = tt

  -- of nothing all is beyond it
  newest_none : (n k : ℕ) (observed : List (ObservedFrontier T)) (ts : List T) → ((F : List T) → IsTrue (all_beyond times F ts)) → AreBeyondNewest times n k observed ts
  newest_none n k observed ts h = by (newest_observed n k observed)
    where
      by : (found : Option (ObservedFrontier T)) → IfSome found (λ l. IsTrue (all_beyond times l.frontier ts))
      by (Some l) = h l.frontier
      by None = tt

module _ {T : Type 0} (times : Times T) (o : PartialOrderLaws times) (p : Dataflow) (w : State T) (k n : ℕ) (d : DeskView T) (held : List T) (is_held : IsHeldFor times held (due_on d n (node_of p n))) where
  -- after a give these times are held
  now_held : (us : List (Update T)) (sent : List (Bundle T)) → AreBeyondNewest times n k w.observed held → HoldsBeyondNewest times (give_state times p w (record { node = n; worker = k; updates = us }) held sent) n k
  now_held us sent h = subst (AreBeyondNewest times n k w.observed) (sym (held_now times p w (record { node = n; worker = k; updates = us }) held sent)) h

  -- beside what is ready nothing waits, or it is a reduction, where the rest is pending
  pub ready_beyond : (us : List (Update T)) (sent : List (Bundle T)) → IsOwn times p w k d (Ready n us) → HoldsBeyondNewest times (give_state times p w (record { node = n; worker = k; updates = us }) held sent) n k
  ready_beyond us sent x = now_held us sent (by (node_of p n) refl)
    where
      waits : is_reduction (node_of p n) ≡ false → AreBeyondNewest times n k w.observed held
      waits e =
          let due : due_on d n (node_of p n) ≡ [] = due_waits d n (node_of p n) e ∙ ap update_times (x.on e) in
          newest_none times o n k w.observed held (λ F. held_beyond times o F held [] (subst (IsHeldFor times held) due is_held) refl)

      by : (node : Node) → node_of p n ≡ node → AreBeyondNewest times n k w.observed held
      by (Reduce kind source) e =
          let f = x.come source kind e in
          let due : due_on d n (node_of p n) ≡ due_in (Some (Some f.reduction)) = ap (due_on d n) e ∙ ap due_in f.there in
          newest_later times o n k w.observed f.frontier held f.newest (held_beyond times o f.frontier held (due_in (Some (Some f.reduction))) (subst (IsHeldFor times held) due is_held) f.found.later)
      by other e = waits (ap is_reduction e)

  -- what a batch leaves waits beyond its upper frontier
  pub batch_beyond : (batch : BatchState T) (sent : List (Bundle T)) → IsOwn times p w k d (Sealed n batch) → HoldsBeyondNewest times (give_state times p w (record { node = n; worker = k; updates = batch.updates }) held sent) n k
  batch_beyond batch sent x =
      let waits : is_reduction (node_of p n) ≡ false = ap is_reduction x.on.node in
      now_held batch.updates sent (newest_later times o n k w.observed batch.description.upper held x.come.newest
      (held_beyond times o batch.description.upper held _ (subst (IsHeldFor times held) (due_waits d n (node_of p n) waits) is_held) x.on.rest))

-- A node that reads other nodes is sent updates only through its ports. So its input frontier has
-- passed exactly the times that the frontiers of all its ports have passed. `progress` proves this
-- of whatever is counted at places of the plan, and so is all that is outstanding.
use Rattle.std.proofs.Common.{ℕ, List}
use Rattle.lattice.specs.Times.{Times}
use Rattle.lattice.specs.Order.{PartialOrderLaws}
use Rattle.progress.proofs.PortLemmas.{ports_pass}
use Rattle.histories.specs.declared.event.Event.{Event}
use Rattle.histories.specs.Histories.Dataflows.{Dataflow, IsDataflow}
use Rattle.histories.specs.Histories.Outstanding.{items_of}
use Rattle.histories.specs.Histories.{IsLegal, state_after}
use Rattle.histories.specs.Histories.Promises.{PortsAreInput}
use Rattle.histories.proofs.HistoryLemmas.PlaceLemmas.{in_place_lem, items_in_place}

-- the input frontier of a node passes what the frontiers of all its ports pass
pub port_fronts_lem : {T : Type 0} (times : Times T) (o : PartialOrderLaws times) (p : Dataflow) (q : IsDataflow p) (h : List (Event T)) → IsLegal times p h → (n : ℕ) → PortsAreInput times p (state_after times p h) n
port_fronts_lem times o p q h l n some t =
    let w = state_after times p h in
    ports_pass p.nodes q.plan n some times o (items_of w) t (items_in_place p w (in_place_lem p q times h l))

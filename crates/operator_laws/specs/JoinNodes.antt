-- What a worker has at a join: of both sources' traces as much as it took, and what it has still to
-- take.
use Rattle.std.specs.Prelude.{◌≡◌, ℕ, suc, ◌*◌, ◌≤◌, Bool, false, ◌&&◌, eqb, List, [], ◌∷◌, map, length, IsTrue}
use Rattle.lattice.specs.Times.{Times}
use Rattle.lattice.specs.Frontiers.{all_beyond}
use Rattle.update.specs.Bags.{Alike}
use Rattle.update.specs.Updates.{as_of, size}
use Rattle.update.specs.declared.change.Update.{Update}
use Rattle.plan.specs.declared.node.Node.TheVariants.{Join}
use Rattle.trace.specs.Readings.{Insertion, all_updates}
use Rattle.histories.specs.declared.event.Bundle.{Bundle}
use Rattle.histories.specs.declared.event.Event.{Event}
use Rattle.histories.specs.declared.event.Event.TheVariants.{Feed, Advance, Allow, Look, Take, TakeHeld, Give}
use Rattle.histories.specs.Histories.Dataflows.{Dataflow, node_of}
use Rattle.histories.specs.Histories.States.{State, place, same_place, update_times, queue}
use Rattle.histories.specs.Histories.NodeLaws.{received_at}
use Rattle.operator_laws.specs.GatheredUpdates.{IsGathering}

-- the event is a take from this port, or a give by the same worker at the node that is read there
abbrev pub is_at_port : {T : Type 0} → ℕ → ℕ → ℕ → ℕ → Event T → Bool
is_at_port n port k source (Feed client f) = false
is_at_port n port k source (Advance client i ts) = false
is_at_port n port k source (Allow client v ts) = false
is_at_port n port k source (Look actor) = false
is_at_port n port k source (Take number bundle) = same_place bundle.place (place n port k)
is_at_port n port k source (TakeHeld worker node) = false
is_at_port n port k source (Give g ts sent) = eqb g.node source && eqb g.worker k

-- some insertions, newest first, after later ones, oldest first
abbrev pub on_top : {T : Type 0} → List (Insertion T) → List (Insertion T) → List (Insertion T)
on_top [] taken = taken
on_top (i ∷ later) taken = on_top later (i ∷ taken)

-- of what was inserted at the source, these were taken at the port; the rest waits there, a bundle
-- for each
pub record IsQueued {T : Type 0} (w : State T) (n port k : ℕ) (inserted taken : List (Insertion T)) : Type 0 where
  pub later : List (Insertion T)
  pub all : inserted ≡ on_top later taken
  pub queued : map (λ (b : Bundle T). b.updates) (queue (place n port k) w.in_flight)
      ≡ map (λ (i : Insertion T). i.updates) later

-- all that was inserted at the source was taken at the port, but at most the newest insertion
pub record IsReadAt {T : Type 0} (w : State T) (n port k : ℕ) (inserted taken : List (Insertion T)) : Type 0 where
  pub queued : IsQueued w n port k inserted taken
  pub few : length inserted ≤ suc (length taken)

module _ {T : Type 0} (times : Times T) where
  -- what a join answers of a bundle: the pairs with what it took at the other port, consolidated or
  -- not
  pub record IsAnswer (pairs us others out : List (Update T)) : Type 0 where
    pub sums : (t : T) → Alike (as_of times t out) (as_of times t pairs)
    pub smaller : size out ≤ size us * size others
    pub beyond : (frontier : List T) → IsTrue (all_beyond times frontier (update_times us))
        → IsTrue (all_beyond times frontier (update_times out))

  -- a join took these insertions at its ports
  pub record IsJoining (p : Dataflow) (w : State T) (n k : ℕ) (left right : List (Insertion T)) (waiting : List (Update T)) : Type 0 where
    pub left_source : ℕ
    pub right_source : ℕ
    pub node : node_of p n ≡ Join left_source right_source
    pub gathering : IsGathering times p w n k waiting
    pub at_left : received_at w n k 0 ≡ all_updates left
    pub at_right : received_at w n k 1 ≡ all_updates right

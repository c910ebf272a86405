-- What an example shows: a legal history in which every kind of event occurs, and a view that is
-- read. There is one, so the theorems about legal histories are about something.
use Rattle.std.specs.Prelude.{◌≢◌, ℕ, ◌<◌, eqb, List, [], length, IsTrue}
use Rattle.std.specs.List.{list_all, list_any}
use Rattle.lattice.specs.Naturals.{nat_times}
use Rattle.lattice.specs.Frontiers.{is_beyond}
use Rattle.update.specs.Updates.{as_of}
use Rattle.update.specs.declared.change.Update.{Update}
use Rattle.plan.specs.Ancestors.{numbers_below}
use Rattle.plan.specs.Changes.{has_passed}
use Rattle.plan.specs.Nodes.{is_output, is_join, is_reduction}
use Rattle.histories.specs.declared.event.Event.{Event}
use Rattle.histories.specs.declared.event.Event.TheVariants.{Feed, Advance, Allow, Look, Take, TakeHeld, Give}
use Rattle.histories.specs.Histories.Dataflows.{Dataflow, IsDataflow, node_of}
use Rattle.histories.specs.Histories.{IsLegal, state_after}
use Rattle.histories.specs.Histories.Readings.{IsReading}

-- the number of an event's kind, among the seven kinds
abbrev pub event_number : {T : Type 0} → Event T → ℕ
event_number (Feed client f) = 0
event_number (Advance client i ts) = 1
event_number (Allow client v ts) = 2
event_number (Look actor) = 3
event_number (Take number bundle) = 4
event_number (TakeHeld k n) = 5
event_number (Give g ts sent) = 6

-- a legal history of a plan with a join and a reduction, in which each kind of event occurs, and a
-- reading of a view that contains something at a time that is passed and still held
pub record IsExample (p : Dataflow) (h : List (Event ℕ)) (v : ℕ) (us : List (Update ℕ)) (front since : List ℕ) (t : ℕ) : Type 0 where
  pub dataflow : IsDataflow p
  pub join : IsTrue (list_any is_join p.nodes)
  pub reduction : IsTrue (list_any is_reduction p.nodes)
  pub legal : IsLegal nat_times p h
  pub kinds : IsTrue (list_all (λ kind. list_any (λ e. eqb (event_number e) kind) h) (numbers_below 7))
  pub within : v < length p.nodes
  pub view : IsTrue (is_output (node_of p v))
  pub reading : IsReading nat_times p (state_after nat_times p h) v us front since
  pub passed : IsTrue (has_passed nat_times front t)
  pub held : IsTrue (is_beyond nat_times since t)
  pub some : as_of nat_times t us ≢ []

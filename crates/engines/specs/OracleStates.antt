-- What the oracle engine keeps, and for which session it stands.
use Rattle.std.specs.Prelude.{◌≡◌, ◌<◌, ℕ, List, ◌∷◌, [], ◌++◌, length, reverse, set, Option, IsTrue}
use Rattle.lattice.specs.Times.{Times}
use Rattle.lattice.specs.Frontiers.{is_beyond}
use Rattle.update.specs.declared.change.Update.{Update}
use Rattle.update.specs.declared.refusal.Refusal.{Refusal}
use Rattle.plan.specs.Nodes.{is_input}
use Rattle.plan.specs.Edges.{numbers_where}
use Rattle.plan.specs.Rules.{first_refusal}
use Rattle.plan.specs.declared.node.Node.{Node}
use Rattle.histories.specs.declared.event.Fed.{Fed}
use Rattle.outstanding.specs.Inputs.{front_at, feed_faults, advance_faults}
use Rattle.histories.specs.Histories.States.{fed_to}
use Rattle.grammar.specs.Commands.{is_input_of}
use Rattle.oracle.specs.Evaluation.{AreWide, inputs_before, list_of}
use Rattle.engines.specs.Sessions.{Session}

-- the state of the oracle engine
pub record Register (T : Type 0) : Type 0 where
  pub plan : List Node
  -- the accepted changes of each input, oldest first, in the order of the inputs' numbers
  pub changes : List (List (Update T))
  -- the frontier of each node that is an input, by node number
  pub inputs : List (List T)
  -- the frontier beyond which each view may be read, by node number
  pub sinces : List (List T)

module _ {T : Type 0} where
  -- each input has a list, and the rows in it have the input's width
  pub record IsRegister (r : Register T) : Type 0 where
    pub lists : length r.changes ≡ length (numbers_where is_input r.plan)
    pub wide : AreWide r.plan r.changes
    pub inputs : length r.inputs ≡ length r.plan
    pub sinces : length r.sinces ≡ length r.plan

  -- the change is appended to its input's list
  abbrev pub with_entry : Fed T → Register T → Register T
  with_entry f r =
      record r { changes = set r.changes (inputs_before r.plan f.input) (list_of r.plan r.changes f.input ++ f.update ∷ []) }

  -- the input has a new frontier
  abbrev pub with_input : ℕ → List T → Register T → Register T
  with_input i ts r = record r { inputs = set r.inputs i ts }

  -- the view has a new since
  abbrev pub with_view : ℕ → List T → Register T → Register T
  with_view v ts r = record r { sinces = set r.sinces v ts }

-- the changes, the frontiers of the inputs and the sinces of the views are those of the session
pub record Records {T : Type 0} (r : Register T) (s : Session T) : Type 0 where
  pub changes : (input : ℕ) → IsTrue (is_input_of r.plan input)
      → list_of r.plan r.changes input ≡ reverse (fed_to input s.fed)
  pub inputs : r.inputs ≡ s.inputs
  pub since : (view : ℕ) → view < length r.plan → front_at view r.sinces ≡ s.since view

module _ {T : Type 0} (times : Times T) where
  -- the refusal of a change
  abbrev pub entry_refusal : Register T → Fed T → Option Refusal
  entry_refusal r f =
      first_refusal (feed_faults times r.plan (front_at f.input r.inputs) (length (list_of r.plan r.changes f.input)) f)

  -- the refusal of a new frontier
  abbrev pub input_refusal : Register T → ℕ → List T → Option Refusal
  input_refusal r i ts = first_refusal (advance_faults times (front_at i r.inputs) ts)

  -- the refusal of a new since
  abbrev pub view_refusal : Register T → ℕ → List T → Option Refusal
  view_refusal r v ts = first_refusal (advance_faults times (front_at v r.sinces) ts)

  -- each of these frontiers, listed by input, has the same times beyond it as the input's own
  -- frontier
  abbrev pub AreFrontiers : List Node → List (List T) → List (List T) → Type 0
  AreFrontiers p inputs frontiers = (input : ℕ) → IsTrue (is_input_of p input)
      → (t : T)
      → is_beyond times (list_of p frontiers input) t ≡ is_beyond times (front_at input inputs) t

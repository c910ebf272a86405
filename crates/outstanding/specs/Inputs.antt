-- The frontiers of a dataflow's inputs, by node: changes may still be fed at times beyond them.
use Rattle.std.specs.Prelude.{ℕ, Bool, not, eqb, if◌then◌else◌, List, [], ◌∷◌, map, get_or, length, nat_lt, nat_le, pos, unsigned_abs}
use Rattle.std.specs.Ordering.{int_eq}
use Rattle.lattice.specs.Times.{Times}
use Rattle.lattice.specs.Frontiers.{is_beyond, all_beyond}
use Rattle.update.specs.declared.refusal.Refusal.{Refusal}
use Rattle.update.specs.declared.refusal.Refusal.TheVariants.{WrongWidth, ZeroWeight, WeightTooLarge, TimePassed, NotForward, InputFull}
use Rattle.plan.specs.Nodes.{is_input}
use Rattle.plan.specs.Widths.{width_of}
use Rattle.plan.specs.declared.node.Node.{Node}
use Rattle.histories.specs.declared.event.Fed.{Fed}

module _ {T : Type 0} where
  -- the frontier of a node; it has no times if the input is closed, or if the node is no input
  abbrev pub front_at : ℕ → List (List T) → List T
  front_at i inputs = get_or inputs i []

  -- the frontiers before the first event: each input's is the least time
  abbrev pub first_inputs : T → List Node → List (List T)
  first_inputs minimum p = map (λ node. if is_input node then minimum ∷ [] else []) p

module _ {T : Type 0} (times : Times T) where
  -- the faults of a change, in the order in which they are tested, from its input's frontier and
  -- the number of changes that the input has taken
  abbrev pub feed_faults : List Node → List T → ℕ → Fed T → List (Bool × Refusal)
  feed_faults nodes frontier taken f =
      (not (eqb (length f.update.row) (width_of nodes f.input)), WrongWidth)
      ∷ (int_eq f.update.diff (pos 0), ZeroWeight)
      ∷ (not (nat_le (unsigned_abs f.update.diff) 2147483647), WeightTooLarge)
      ∷ (not (is_beyond times frontier f.update.time), TimePassed)
      ∷ (not (nat_lt taken 1048576), InputFull)
      ∷ []

  -- the faults of times as the next frontier in the place of this one: an input's, or the since of
  -- a view
  abbrev pub advance_faults : List T → List T → List (Bool × Refusal)
  advance_faults frontier ts = (not (all_beyond times frontier ts), NotForward) ∷ []

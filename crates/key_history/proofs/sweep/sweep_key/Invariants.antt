use Rattle.std.proofs.Common.{◌≡◌, ◌++◌, List, length, drop}
use Rattle.std.specs.Prelude.{IsTrue}
use Rattle.std.specs.List.{filter, list_all}
use Rattle.update.specs.declared.change.Update.{Update}
use Rattle.joined_times.specs.Joined.{of_key}
use Rattle.key_history.specs.Sweeps.{IsSweep}
use Rattle.key_history.specs.Settlements.{Settling}
use Rattle.key_history.proofs.sweep.sweep_key.Given as goal

abbrev pub invariant-loop-i : goal.invariant-loop-i
invariant-loop-i g l =
    IsTrue (list_all (of_key (length l.history.key) l.history.key) l.sweep.given.items)
    × ((content : List (Update g.row.T.Denot)) → l.rows ≡ filter (of_key (length l.history.key) l.history.key) content
    → Settling g.T.PartialOrder.times (length l.history.key) (g.R.Reducer.reduces l.reducer) l.history.key content l.history.given l.frontier l.history.due l.i l.sweep.given.items l.sweep.due.items)
    × IsSweep g.T.PartialOrder.times g.T.Ord.cmp (drop l.i l.history.due) l.rows (l.history.given ++ l.sweep.given.items) l.sweep

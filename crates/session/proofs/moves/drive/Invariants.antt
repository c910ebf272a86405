use Rattle.std.proofs.Common.{List, drop}
use Rattle.std.specs.Prelude.{Result}
use Rattle.update.specs.declared.refusal.Refusal.{Refusal}
use Rattle.steps.specs.Workers.{WorkerView}
use Rattle.session.specs.Moves.{AreMoved}
use Rattle.session.proofs.moves.drive.Given as goal

-- what the moves that are left come to from here, all moves come to from the start
abbrev pub invariant-loop-move_ : goal.invariant-loop-move_
invariant-loop-move_ g l =
    let times = g.T.PartialOrder.times in
    let cmp = g.T.Ord.cmp in
    (new : List (WorkerView g.row.T.Denot)) (r : Result (Unit {0}) Refusal)
    → AreMoved times cmp (drop l.move_-index l.moves) l.workers new r → AreMoved times cmp l.moves l.fn.workers new r

-- A worker that pauses: what it has left.
use Rattle.std.specs.Prelude.{◌≡◌, ℕ, false}
use Rattle.lattice.specs.Times.{Times}
use Rattle.lattice.specs.declared.product.Pair.{Pair}
use Rattle.machine.specs.Boards.Pieces.{HasNoPiece}
use Rattle.desk_laws.specs.declared.hand.Hand.TheVariants.{Free}
use Rattle.shared_board.specs.Found.{dataflow_of}
use Rattle.shared_board.specs.Tenures.{state_found}
use Rattle.steps.specs.Workers.{WorkerView}

module _ (times : Times (Pair ℕ ℕ)) where
  -- the worker goes on. It has nothing in hand, and when it looked last there was no piece for it
  pub record HasNothingToDo (w : WorkerView (Pair ℕ ℕ)) : Type 0 where
    pub going : w.failed ≡ false
    pub free : w.hand ≡ Free
    pub none : HasNoPiece times (dataflow_of w.known) (state_found times w.known) w.known.number

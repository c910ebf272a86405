use Rattle.outstanding.specs.declared.queue.Parcel.TheVariants.{Change}
use Rattle.histories.specs.Histories.States.{place}
use Rattle.outstanding.specs.Loads.{load_of}
use Rattle.machine.proofs.BoardLemmas.AcceptLemmas.{board_sent}
use Rattle.machine.proofs.board.Board.send_change.Goals as goal

pub invariant_of-self : goal.invariant_of-self
invariant_of-self g c =
    board_sent _ c.self.invariant c.put.result c.put.new.self (place c.args.input 0 c.route-worker.result) (load_of (Change c.args.update)) c.put.ensures.put c.put.ensures.unchanged

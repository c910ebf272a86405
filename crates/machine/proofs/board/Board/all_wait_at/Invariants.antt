use Rattle.std.proofs.Common.{◌≡◌, true}
use Rattle.std.specs.List.{list_all}
use Rattle.lattice.specs.Frontiers.{is_beyond}
use Rattle.plan.specs.Ancestors.{numbers_below}
use Rattle.outstanding.specs.Loads.{lot_of}
use Rattle.machine.specs.Boards.Reads.{input_front}
use Rattle.machine.proofs.board.Board.all_wait_at.Given as goal

-- the board is as it was, and for each worker so far each held time could still receive input
abbrev pub invariant-loop-worker : goal.invariant-loop-worker
invariant-loop-worker g l =
    let times = g.T.PartialOrder.times in
    let b = l.fn.self in
    record {
      kept : l.self ≡ b;
      waits : list_all (λ k. list_all (is_beyond times (input_front times b l.node)) (lot_of b.stations l.node k).held) (numbers_below l.worker) ≡ true;
    }

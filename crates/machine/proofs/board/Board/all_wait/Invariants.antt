use Rattle.std.proofs.Common.{◌≡◌, true}
use Rattle.std.specs.List.{list_all}
use Rattle.lattice.specs.Frontiers.{is_beyond}
use Rattle.plan.specs.Ancestors.{numbers_below}
use Rattle.outstanding.specs.Loads.{lot_of}
use Rattle.machine.specs.Boards.Reads.{input_front}
use Rattle.machine.proofs.board.Board.all_wait.Given as goal

-- the board is as it was, and at each node so far each held time could still receive input
abbrev pub invariant-loop-n : goal.invariant-loop-n
invariant-loop-n g l =
    let times = g.T.PartialOrder.times in
    let b = l.fn.self in
    record {
      kept : l.self ≡ b;
      waits : list_all (λ n. list_all (λ k. list_all (is_beyond times (input_front times b n)) (lot_of b.stations n k).held) (numbers_below b.dataflow.workers)) (numbers_below l.n) ≡ true;
    }

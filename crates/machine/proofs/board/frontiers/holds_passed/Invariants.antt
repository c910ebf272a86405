use Rattle.std.proofs.Common.{◌≡◌, drop}
use Rattle.std.specs.List.{list_any}
use Rattle.plan.specs.Changes.{has_passed}
use Rattle.outstanding.specs.Loads.{lot_of}
use Rattle.accounts.specs.Accounts.{input_front_of}
use Rattle.machine.proofs.board.frontiers.holds_passed.Given as goal

-- the accounts are as they were, and the times that are left give the answer
abbrev pub invariant-loop-i : goal.invariant-loop-i
invariant-loop-i g l =
    let passed = has_passed g.T.PartialOrder.times (input_front_of g.T.PartialOrder.times l.fn.accounts l.node) in
    let held = (lot_of l.fn.accounts.stations l.node l.worker).held in
    record {
      kept : l.accounts ≡ l.fn.accounts;
      rest : list_any passed (drop l.i held) ≡ list_any passed held;
    }

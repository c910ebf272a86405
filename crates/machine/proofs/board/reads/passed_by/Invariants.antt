use Rattle.std.proofs.Common.{◌≡◌, take}
use Rattle.std.specs.List.{filter}
use Rattle.plan.specs.Changes.{has_passed}
use Rattle.accounts.specs.Accounts.{front_of}
use Rattle.machine.proofs.board.reads.passed_by.Given as goal

-- the accounts are as they were, and of the updates so far those at passed times are copied
abbrev pub invariant-loop-i : goal.invariant-loop-i
invariant-loop-i g l =
    let times = g.T.PartialOrder.times in
    record {
      kept : l.accounts ≡ l.fn.accounts;
      passed : l.passed.items ≡ filter (λ u. has_passed times (front_of times l.fn.accounts l.node) u.time) (take l.i l.updates);
    }

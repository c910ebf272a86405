use Rattle.std.proofs.Common.{sym, subst}
use Rattle.histories.specs.Histories.Dataflows.{Dataflow}
use Rattle.machine.specs.Boards.{IsBoard}
use Rattle.machine.proofs.BoardLemmas.FirstLemmas.{first_made, first_is_board}
use Rattle.machine.proofs.board.Board.first.Goals as goal

pub returns-clause-first : goal.returns-clause-first
returns-clause-first g c =
    let p : Dataflow = record { nodes = c.args.plan; workers = c.args.workers } in
    first_made g.T.PartialOrder.times.least p c.of.result.value c.of.ensures c.in_ok-accounts.accounts c.in_ok-hand.hand.items c.in_ok-accepted.accepted.items c.in_ok-views.views.items c.len-nodes.result
    c.in_ok-accounts.ensures.first c.in_ok-hand.ensures.empty c.in_ok-accepted.ensures.none c.len-nodes.ensures.len c.in_ok-views.ensures.first

pub invariant_of-result : goal.invariant_of-result
invariant_of-result g c =
    let p : Dataflow = record { nodes = c.args.plan; workers = c.args.workers } in
    subst IsBoard (sym (first_made g.T.PartialOrder.times.least p c.of.result.value c.of.ensures c.in_ok-accounts.accounts c.in_ok-hand.hand.items c.in_ok-accepted.accepted.items c.in_ok-views.views.items c.len-nodes.result
    c.in_ok-accounts.ensures.first c.in_ok-hand.ensures.empty c.in_ok-accepted.ensures.none c.len-nodes.ensures.len c.in_ok-views.ensures.first)) (first_is_board g.T.PartialOrder.times.least p (record { plan = c.len-nodes.ensures.plan; staffed = c.requires }))

use Rattle.std.proofs.Common.{subst}
use Rattle.shared_board.specs.Calls.{IsAnsweredInTurn}
use Rattle.session.specs.Clients.{IsProbed}
use Rattle.session.proofs.client.Client.probe_wait.Goals as goal

pub returns : goal.returns
returns g c =
    let new = c.frontier.new.self in
    subst (λ k. IsProbed g.T.PartialOrder.times k new (IsAnsweredInTurn k new) c.args.view c.frontier.result) c.self.view_is c.frontier.ensures

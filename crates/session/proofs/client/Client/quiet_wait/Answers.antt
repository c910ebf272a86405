use Rattle.std.proofs.Common.{subst}
use Rattle.std.specs.Prelude.{Ok}
use Rattle.shared_board.specs.Calls.{IsAnsweredInTurn}
use Rattle.session.specs.Clients.{HasAskedQuiet}
use Rattle.session.proofs.client.Client.quiet_wait.Goals as goal

pub returns : goal.returns
returns g c =
    let new = c.is_quiet.new.self in
    subst (λ k. HasAskedQuiet g.T.PartialOrder.times k new (IsAnsweredInTurn k new) (Ok c.is_quiet.result)) c.self.view_is c.is_quiet.ensures

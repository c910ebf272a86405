use Rattle.std.proofs.Common.{subst}
use Rattle.std.specs.Prelude.{Ok}
use Rattle.shared_board.specs.Calls.{IsDoneInTurn}
use Rattle.session.specs.Clients.{IsClosed}
use Rattle.session.proofs.client.Client.close_input_wait.Goals as goal

pub returns : goal.returns
returns g c =
    let new = c.close.new.self in
    subst (λ k. IsClosed g.T.PartialOrder.times k new (IsDoneInTurn k new) c.args.input (Ok c.close.result)) c.self.view_is c.close.ensures

use Rattle.std.proofs.Common.{subst}
use Rattle.shared_board.specs.Calls.{IsAnsweredInTurn}
use Rattle.session.specs.Clients.{HasRead}
use Rattle.session.proofs.client.Client.read_wait.Goals as goal

pub returns : goal.returns
returns g c =
    let new = c.read.new.self in
    subst (λ k. HasRead g.T.PartialOrder.times k new (IsAnsweredInTurn k new) c.args.view c.args.time c.read.result) c.self.view_is c.read.ensures

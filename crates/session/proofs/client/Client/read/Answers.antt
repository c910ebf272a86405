use Rattle.std.proofs.Common.{subst}
use Rattle.shared_board.specs.Calls.{IsAnswered}
use Rattle.session.specs.Clients.{HasRead}
use Rattle.session.proofs.client.Client.read.Goals as goal

pub returns : goal.returns
returns g c =
    subst (λ k. HasRead g.T.PartialOrder.times k c.try_read.new.self (IsAnswered k c.try_read.new.self) c.args.view c.args.time c.try_read.result) c.self.view_is c.try_read.ensures

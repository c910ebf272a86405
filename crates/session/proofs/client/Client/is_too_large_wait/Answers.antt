use Rattle.std.proofs.Common.{subst}
use Rattle.std.specs.Prelude.{Ok}
use Rattle.shared_board.specs.Calls.{IsAnsweredInTurn}
use Rattle.session.specs.Clients.{HasAskedLarge}
use Rattle.session.proofs.client.Client.is_too_large_wait.Goals as goal

pub returns : goal.returns
returns g c =
    let new = c.is_too_large.new.self in
    subst (λ k. HasAskedLarge g.T.PartialOrder.times k new (IsAnsweredInTurn k new) g.T.Ord.cmp (Ok c.is_too_large.result)) c.self.view_is c.is_too_large.ensures

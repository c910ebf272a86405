use Rattle.std.proofs.Common.{subst}
use Rattle.shared_board.specs.Calls.{IsAnswered}
use Rattle.session.specs.Clients.{HasAskedLarge}
use Rattle.session.proofs.client.Client.is_too_large.Goals as goal

pub returns : goal.returns
returns g c =
    subst (λ k. HasAskedLarge g.T.PartialOrder.times k c.try_is_too_large.new.self (IsAnswered k c.try_is_too_large.new.self) g.T.Ord.cmp c.try_is_too_large.result) c.self.view_is c.try_is_too_large.ensures

use Rattle.std.proofs.Common.{subst}
use Rattle.shared_board.specs.Calls.{IsDone}
use Rattle.session.specs.Clients.{IsGivenUp}
use Rattle.session.proofs.client.Client.allow.Goals as goal

pub returns : goal.returns
returns g c =
    let times = g.T.PartialOrder.times in
    let new = c.try_allow.new.self in
    subst (λ ts. IsGivenUp times c.args.self.now new (IsDone c.args.self.now new) c.args.view ts c.try_allow.result) c.elements.ensures.value
    (subst (λ k. IsGivenUp times k new (IsDone k new) c.args.view c.elements.result.now c.try_allow.result) c.self.view_is c.try_allow.ensures)

use Rattle.std.proofs.Common.{subst}
use Rattle.shared_board.specs.Calls.{IsDoneInTurn}
use Rattle.session.specs.Clients.{IsGivenUp}
use Rattle.session.proofs.client.Client.allow_wait.Goals as goal

pub returns : goal.returns
returns g c =
    let times = g.T.PartialOrder.times in
    let new = c.allow.new.self in
    subst (λ ts. IsGivenUp times c.args.self.now new (IsDoneInTurn c.args.self.now new) c.args.view ts c.allow.result) c.elements.ensures.value
    (subst (λ k. IsGivenUp times k new (IsDoneInTurn k new) c.args.view c.elements.result.now c.allow.result) c.self.view_is c.allow.ensures)

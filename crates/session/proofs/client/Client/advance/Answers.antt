use Rattle.std.proofs.Common.{subst}
use Rattle.shared_board.specs.Calls.{IsDone}
use Rattle.session.specs.Clients.{IsAdvanced}
use Rattle.session.proofs.client.Client.advance.Goals as goal

pub returns : goal.returns
returns g c =
    let times = g.T.PartialOrder.times in
    let new = c.try_advance.new.self in
    subst (λ ts. IsAdvanced times c.args.self.now new (IsDone c.args.self.now new) c.args.input ts c.try_advance.result) c.elements.ensures.value
    (subst (λ k. IsAdvanced times k new (IsDone k new) c.args.input c.elements.result.now c.try_advance.result) c.self.view_is c.try_advance.ensures)

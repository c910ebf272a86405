use Rattle.std.proofs.Common.{subst}
use Rattle.histories.specs.Histories.States.{change_to}
use Rattle.shared_board.specs.Calls.{IsDoneInTurn}
use Rattle.session.specs.Clients.{IsFed}
use Rattle.session.proofs.client.Client.feed_in_turn.Goals as goal

pub returns : goal.returns
returns g c =
    let new = c.feed.new.self in
    subst (λ k. IsFed g.T.PartialOrder.times k new (IsDoneInTurn k new) (change_to c.args.input c.args.update) c.feed.result) c.self.view_is c.feed.ensures

use Rattle.std.proofs.Common.{ℕ, subst}
use Rattle.lattice.specs.Bitimes.{bitime_times}
use Rattle.hub.specs.Known.{Known}
use Rattle.lattice.specs.Naturals.{nat_order}
use Rattle.lattice.specs.Pairs.{pair_order}
use Rattle.lattice.specs.declared.product.Pair.{Pair}
use Rattle.shared_board.specs.Found.{dataflow_of}
use Rattle.shared_board.specs.declared.event.BoardEvent.{BoardEvent}
use Rattle.engines.specs.Answers.{TakesSince}
use Rattle.crews.specs.BoardStates.{StandsAs}
use Rattle.crews.proofs.BoardStateLemmas.{since_answered}
use Rattle.crews.proofs.TurnLemmas.{ends_of}
use Rattle.crews.proofs.crew.CrewEngine.allow.Goals as goal

pub returns-clause-answered : goal.returns-clause-answered
returns-clause-answered g c s =
    let o = pair_order nat_order nat_order in
    let k = c.self.inside.client in
    let number = c.self.invariant.0 in
    let one = c.self.invariant.1 in
    let new = c.allow_wait-told.new.self in
    let v = c.args.view in
    let ts = c.args.frontier.now in
    let ends = ends_of k new _ _ _ c.allow_wait-told.result c.allow_wait-told.ensures in
    subst (λ (e : Known (BoardEvent (Pair ℕ ℕ))). StandsAs bitime_times e s → TakesSince (dataflow_of e).nodes s v ts (StandsAs bitime_times new) c.allow_wait-told.result) c.self.view_is
    (λ a. since_answered bitime_times o k new number one c.known.ensures s c.allow_wait-told.result a v ts ends.done ends.accepted ends.refused ends.looked)

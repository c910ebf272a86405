use Rattle.std.proofs.Common.{ℕ, IsTrue, sym, subst}
use Rattle.lattice.specs.Bitimes.{bitime_times}
use Rattle.hub.specs.Known.{Known}
use Rattle.lattice.specs.Naturals.{nat_order}
use Rattle.lattice.specs.Pairs.{pair_order}
use Rattle.lattice.specs.declared.product.Pair.{Pair}
use Rattle.grammar.specs.Commands.{is_input_of}
use Rattle.shared_board.specs.Found.{dataflow_of}
use Rattle.shared_board.specs.declared.event.BoardEvent.{BoardEvent}
use Rattle.engines.specs.Answers.{TakesFrontier}
use Rattle.crews.specs.BoardStates.{StandsAs}
use Rattle.crews.proofs.BoardStateLemmas.{frontier_answered, input_there}
use Rattle.crews.proofs.TurnLemmas.{ends_of}
use Rattle.crews.proofs.crew.CrewEngine.advance.Goals as goal

pub returns-clause-answered : goal.returns-clause-answered
returns-clause-answered g c s =
    let o = pair_order nat_order nat_order in
    let k = c.self.inside.client in
    let number = c.self.invariant.0 in
    let one = c.self.invariant.1 in
    let new = c.advance_wait-told.new.self in
    let i = c.args.input in
    let ts = c.args.frontier.now in
    let ends = ends_of k new _ _ _ c.advance_wait-told.result c.advance_wait-told.ensures in
    let there = subst (λ (e : Known (BoardEvent (Pair ℕ ℕ))). IsTrue (is_input_of (dataflow_of e).nodes i)) (sym c.self.view_is) c.requires in
    subst (λ (e : Known (BoardEvent (Pair ℕ ℕ))). StandsAs bitime_times e s → TakesFrontier (dataflow_of e).nodes s i ts (StandsAs bitime_times new) c.advance_wait-told.result) c.self.view_is
    (λ a. frontier_answered bitime_times o k new number one c.known.ensures s c.advance_wait-told.result a i ts (input_there (dataflow_of k) i there).0 ends.done ends.accepted ends.refused ends.looked)

use Rattle.std.proofs.Common.{◌≡◌, ◌∙◌, ◌<◌, [], sym, ap, subst, refl, get_or, length}
use Rattle.std.proofs.lemmas.List.{length-set}
use Rattle.plan.specs.Nodes.{is_output}
use Rattle.machine.specs.Boards.{BoardState}
use Rattle.histories.specs.Histories.Dataflows.{node_of}
use Rattle.machine.proofs.BoardLemmas.AcceptLemmas.{board_passed, staffed_there}
use Rattle.machine.proofs.BoardLemmas.GiveLemmas.{passed_on, passed_to, stayed, stayed_at}
use Rattle.machine.proofs.BoardLemmas.ReadLemmas.{view_read}
use Rattle.machine.proofs.board.Board.pass_on.Goals as goal

pub invariant_of-self : goal.invariant_of-self
invariant_of-self g c =
    board_passed _ c.self.invariant c.give_to.result c.args.cut.given c.args.held c.args.cut.sent c.give_to.new.self _ c.give_to.ensures.given c.give_to.ensures.unchanged
    (length-set c.self.inside.views.items c.number.result c.give_to.new.view)

pub give-requires-clause-staffed : goal.give-requires-clause-staffed
give-requires-clause-staffed g c =
    let node = c.args.cut.given.node in
    subst (λ (z : BoardState g.row.T.Denot). c.args.cut.given.worker < length (get_or z.stations node [])) (sym c.self.view_is)
    (staffed_there c.args.self.now c.known.ensures.board node c.args.cut.given.worker c.requires.within c.requires.worker).1

pub invariant_of-self-else-is_output : goal.invariant_of-self-else-is_output
invariant_of-self-else-is_output g c =
    board_passed _ c.self.invariant c.give.result c.args.cut.given c.args.held c.args.cut.sent c.give.new.self c.self.inside.views.items c.give.ensures.given c.give.ensures.unchanged refl

pub returns-then-is_output-clause-given : goal.returns-then-is_output-clause-given
returns-then-is_output-clause-given g c =
    let b = c.args.self.now in
    let at : c.number.result ≡ c.args.cut.given.node = c.number.ensures ∙ c.node-node.ensures in
    let seen = view_read b c.self.view_is c.args.cut.given.node c.number.result at c.requires.within c.index_mut.result.now c.self.invariant c.index_mut.ensures.value in
    let here = sym (c.is_output.ensures ∙ ap is_output (c.node.ensures ∙ (λ i. node_of (record { nodes = c.plan.ensures i; workers = 0 }) (c.node-node.ensures i)))) ∙ c.if-is_output.true in
    passed_to b c.self.view_is c.args.cut.given c.args.held c.args.cut.sent c.give_to.new.self c.give_to.result c.number.result c.index_mut.result.now c.give_to.new.view c.give_to.ensures.given c.give_to.ensures.captured seen at here

pub returns-then-is_output-clause-unchanged : goal.returns-then-is_output-clause-unchanged
returns-then-is_output-clause-unchanged g c =
    let b = c.args.self.now in
    let at : c.number.result ≡ c.args.cut.given.node = c.number.ensures ∙ c.node-node.ensures in
    let seen = view_read b c.self.view_is c.args.cut.given.node c.number.result at c.requires.within c.index_mut.result.now c.self.invariant c.index_mut.ensures.value in
    stayed_at b c.self.view_is c.args.cut.given c.args.held c.args.cut.sent c.give_to.new.self c.give_to.result c.number.result c.index_mut.result.now c.give_to.new.view c.give_to.ensures.unchanged c.give_to.ensures.same seen at

pub returns-else-is_output-clause-given : goal.returns-else-is_output-clause-given
returns-else-is_output-clause-given g c =
    let elsewhere = sym (c.is_output.ensures ∙ ap is_output (c.node.ensures ∙ (λ i. node_of (record { nodes = c.plan.ensures i; workers = 0 }) (c.node-node.ensures i)))) ∙ c.if-is_output.false in
    passed_on c.args.self.now c.self.view_is c.args.cut.given c.args.held c.args.cut.sent c.give.new.self c.give.result c.give.ensures.given elsewhere

pub returns-else-is_output-clause-unchanged : goal.returns-else-is_output-clause-unchanged
returns-else-is_output-clause-unchanged g c =
    stayed c.args.self.now c.self.view_is c.args.cut.given c.args.held c.args.cut.sent c.give.new.self c.give.result c.give.ensures.unchanged

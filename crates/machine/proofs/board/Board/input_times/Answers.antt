use Rattle.std.proofs.Common.{◌≡◌, ◌∙◌, subst}
use Rattle.std.specs.Result.{IfOk}
use Rattle.lattice.specs.Frontiers.{is_beyond}
use Rattle.machine.specs.Boards.{BoardState}
use Rattle.machine.specs.Boards.Reads.{input_front}
use Rattle.machine.proofs.BoardLemmas.FrontLemmas.{on_ok, input_front_stands}
use Rattle.machine.proofs.board.Board.input_times.Goals as goal

pub returns-clause-beyond : goal.returns-clause-beyond
returns-clause-beyond g c =
    let times = g.T.PartialOrder.times in
    subst (λ (z : BoardState g.row.T.Denot). IfOk c.input_times.result (λ found. (t : g.row.T.Denot) → is_beyond times found t ≡ is_beyond times (input_front times z c.args.node) t)) c.self.view_is c.input_times.ensures.beyond

pub returns-clause-stands : goal.returns-clause-stands
returns-clause-stands g c h s =
    on_ok c.input_times.result _ _ (λ found same t. same t ∙ input_front_stands g.T.PartialOrder.times g.met.T.PartialOrder.order c.args.self.now c.known.ensures.board h s c.args.node t) (returns-clause-beyond g c)

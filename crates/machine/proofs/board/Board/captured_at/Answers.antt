use Rattle.std.proofs.Common.{subst}
use Rattle.std.specs.Result.{IfOk}
use Rattle.update.specs.Bags.{Alike}
use Rattle.update.specs.Updates.{as_of}
use Rattle.views.specs.Views.{ViewState}
use Rattle.machine.proofs.BoardLemmas.ReadLemmas.{view_read}
use Rattle.machine.proofs.board.Board.captured_at.Goals as goal

pub returns-clause-sum : goal.returns-clause-sum
returns-clause-sum g c =
    let seen = view_read c.args.self.now c.self.view_is c.args.view c.number.result c.number.ensures c.requires.within c.index_mut.result.now c.self.invariant c.index_mut.ensures.value in
    subst (λ (z : ViewState g.row.T.Denot). IfOk c.sum_at.result (λ bag. Alike bag (as_of g.T.PartialOrder.times c.args.t z.captured))) seen c.sum_at.ensures.sum

use Rattle.machine.proofs.BoardLemmas.ReadLemmas.{changes_answers}
use Rattle.machine.proofs.board.Board.changes.Goals as goal

pub returns-clause-differences : goal.returns-clause-differences
returns-clause-differences g c h s =
    let r = c.passed_changes in
    changes_answers g.T.PartialOrder.times g.met.T.PartialOrder.order r.result (λ us. us.items) c.args.self.now h c.args.view _ r.ensures.board c.requires.within c.requires.view r.ensures.consolidated r.ensures.passed r.ensures.sums r.ensures.accepted s

use Rattle.machine.proofs.BoardLemmas.ReadLemmas.{read_answers}
use Rattle.machine.proofs.board.Board.read.Goals as goal

pub returns-clause-query : goal.returns-clause-query
returns-clause-query g c h s =
    let r = c.read_captured in
    read_answers g.T.PartialOrder.times g.met.T.PartialOrder.order r.result c.args.self.now h c.args.view c.args.t r.ensures.board c.requires.within c.requires.view r.ensures.accepted r.ensures.sum s

use Rattle.machine.proofs.BoardLemmas.BoardLemmas.{stands_after_give}
use Rattle.machine.proofs.board.Board.give.Goals as goal

pub returns-clause-stands : goal.returns-clause-stands
returns-clause-stands g c h s legal =
    let r = c.give_or_look in
    stands_after_give g.T.PartialOrder.times r.result c.args.self.now r.new.self h c.args.cut.given c.args.held c.args.cut.sent r.ensures.board c.requires.worker c.requires.within r.ensures.given r.ensures.unchanged s legal

use Rattle.machine.proofs.BoardLemmas.BoardLemmas.{stands_after_take}
use Rattle.machine.proofs.board.Board.take.Goals as goal

pub returns-clause-stands : goal.returns-clause-stands
returns-clause-stands g c h s =
    let r = c.try_take in
    stands_after_take g.T.PartialOrder.times r.result c.args.self.now r.new.self h c.args.place c.args.number r.ensures.board c.requires.worker c.requires.free c.requires.turn r.ensures.waited r.ensures.place r.ensures.taken r.ensures.unchanged s

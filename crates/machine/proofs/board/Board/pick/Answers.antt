use Rattle.std.proofs.Common.{◌∙◌, sym, ap, slice_get}
use Rattle.std.proofs.Math.Nat.{mod-eq_of_lt}
use Rattle.std.proofs.lemmas.Option.{slice_get_within}
use Rattle.machine.specs.Boards.Pieces.{pieces}
use Rattle.machine.proofs.board.Board.pick.Goals as goal

pub returns-in-Ok-clause-value : goal.returns-in-Ok-clause-value
returns-in-Ok-clause-value g c =
    let all = pieces g.T.PartialOrder.times c.args.self.now c.args.worker in
    let within = slice_get_within all c.args.pick c.in-Ok.piece c.in-Ok.ensures.found in
    sym c.in-Ok.ensures.found ∙ ap (slice_get all) (sym (mod-eq_of_lt within))

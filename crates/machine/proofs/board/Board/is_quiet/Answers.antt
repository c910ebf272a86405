use Rattle.std.proofs.Common.{sym, ◌∙◌}
use Rattle.histories.proofs.HistoryLemmas.PlaceLemmas.{in_place_lem}
use Rattle.machine.proofs.BoardLemmas.FrontLemmas.{quiet_into, quiet_back}
use Rattle.machine.proofs.board.Board.is_quiet.Goals as goal

pub returns-clause-quiet : goal.returns-clause-quiet
returns-clause-quiet g c h s =
    let r = c.rests in
    let b = c.args.self.now in (
      λ e. quiet_into g.T.PartialOrder.times g.met.T.PartialOrder.order b r.ensures.board h s (sym r.ensures.value ∙ e),
      λ q. r.ensures.value ∙ quiet_back g.T.PartialOrder.times g.met.T.PartialOrder.order b r.ensures.board h s (in_place_lem b.dataflow r.ensures.board.dataflow _ h s.legal) q,
    )

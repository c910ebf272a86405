use Rattle.histories.proofs.HistoryLemmas.HeadlineLemmas.{headline_lem}
use Rattle.histories.proofs.HistoryLemmas.MeetsLemmas.{reads_lem}
use Rattle.machine.proofs.board.promises.meets.Goals as goal

pub returns-clause-headline : goal.returns-clause-headline
returns-clause-headline g c h s n = headline_lem g.T.PartialOrder.times g.met.T.PartialOrder.order _ c.known.ensures.dataflow h s.legal n

pub returns-clause-reading : goal.returns-clause-reading
returns-clause-reading g c h s = reads_lem g.T.PartialOrder.times g.met.T.PartialOrder.order _ c.known.ensures.dataflow h s.legal

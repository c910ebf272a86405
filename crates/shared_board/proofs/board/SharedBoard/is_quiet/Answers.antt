use Rattle.std.proofs.Common.{IsTrue}
use Rattle.std.specs.Prelude.{◌↔◌}
use Rattle.histories.specs.Histories.Readings.{IsQuiet}
use Rattle.shared_board.proofs.SharedLemmas.{asked, of_history}
use Rattle.shared_board.proofs.board.SharedBoard.is_quiet.Goals as goal

pub returns-clause-event : goal.returns-clause-event
returns-clause-event g c = asked g.T.PartialOrder.times g.T.Ord.cmp c.self.view_is c.is_quiet-quiet.new.self c.look.new.self c.args.actor c.is_quiet-quiet.ensures.kept c.look.ensures.looked c.look.ensures.stands

pub returns-clause-quiet : goal.returns-clause-quiet
returns-clause-quiet g c = of_history g.T.PartialOrder.times g.T.Ord.cmp c.self.view_is (λ p w. IsTrue c.is_quiet-quiet.result ↔ IsQuiet g.T.PartialOrder.times p w) c.is_quiet-quiet.ensures.quiet

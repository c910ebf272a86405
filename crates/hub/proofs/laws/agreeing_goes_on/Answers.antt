use Rattle.hub.proofs.HistoryLemmas.{agrees_but, later_ends}
use Rattle.hub.proofs.laws.agreeing_goes_on.Goals as goal

pub returns-clause-but_for_its_event : goal.returns-clause-but_for_its_event
returns-clause-but_for_its_event g c = agrees_but

pub returns-clause-ends_in_the_earlier : goal.returns-clause-ends_in_the_earlier
returns-clause-ends_in_the_earlier g c = later_ends

use Rattle.plan.proofs.StepLemmas.{query_by_sources, above_by_sources}
use Rattle.plan.proofs.StandLemmas.{above_earlier, above_transitive, fed_by}
use Rattle.plan.proofs.laws.nodes_stand_on_their_sources.Goals as goal

pub returns-clause-query : goal.returns-clause-query
returns-clause-query c = query_by_sources

pub returns-clause-above : goal.returns-clause-above
returns-clause-above c = above_by_sources

pub returns-clause-earlier : goal.returns-clause-earlier
returns-clause-earlier c = above_earlier

pub returns-clause-transitive : goal.returns-clause-transitive
returns-clause-transitive c = above_transitive

pub returns-clause-fed : goal.returns-clause-fed
returns-clause-fed c = fed_by

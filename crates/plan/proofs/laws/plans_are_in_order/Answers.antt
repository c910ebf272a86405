use Rattle.plan.proofs.PlanLemmas.{source_smaller, source_readable}
use Rattle.plan.proofs.StepLemmas.{width_by_sources}
use Rattle.plan.proofs.WidthLemmas.{faultless, width_bounds}
use Rattle.plan.proofs.KeyLemmas.{key_bounds, source_arranged}
use Rattle.plan.proofs.laws.plans_are_in_order.Goals as goal

pub returns-clause-smaller : goal.returns-clause-smaller
returns-clause-smaller c = source_smaller

pub returns-clause-readable : goal.returns-clause-readable
returns-clause-readable c = source_readable

pub returns-clause-faultless : goal.returns-clause-faultless
returns-clause-faultless c = faultless

pub returns-clause-widths : goal.returns-clause-widths
returns-clause-widths c = width_bounds

pub returns-clause-width : goal.returns-clause-width
returns-clause-width c = width_by_sources

pub returns-clause-keys : goal.returns-clause-keys
returns-clause-keys c = key_bounds

pub returns-clause-arranged : goal.returns-clause-arranged
returns-clause-arranged c = source_arranged

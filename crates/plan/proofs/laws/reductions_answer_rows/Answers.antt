use Rattle.plan.proofs.AnswerLemmas.{distinct_answered, least_answered, greatest_answered, answered_once}
use Rattle.plan.proofs.laws.reductions_answer_rows.Goals as goal

pub returns-clause-distinct : goal.returns-clause-distinct
returns-clause-distinct c = distinct_answered

pub returns-clause-least : goal.returns-clause-least
returns-clause-least c = least_answered

pub returns-clause-greatest : goal.returns-clause-greatest
returns-clause-greatest c = greatest_answered

pub returns-clause-once : goal.returns-clause-once
returns-clause-once c = answered_once

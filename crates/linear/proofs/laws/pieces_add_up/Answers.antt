use Rattle.linear.proofs.SumLemmas.{linear_output-append, applied_sums, applied_goes_on}
use Rattle.linear.proofs.SizeLemmas.{size_applied, large_applied}
use Rattle.linear.proofs.laws.pieces_add_up.Goals as goal

pub returns-clause-pieces : goal.returns-clause-pieces
returns-clause-pieces g c = linear_output-append

pub returns-clause-sums : goal.returns-clause-sums
returns-clause-sums g c = λ k node l port h us t. applied_sums g.T.PartialOrder.times t k node l port h us

pub returns-clause-goes_on : goal.returns-clause-goes_on
returns-clause-goes_on g c = λ k node l port h received emitted us t before. applied_goes_on g.T.PartialOrder.times t k node l port h received emitted us before

pub returns-clause-size : goal.returns-clause-size
returns-clause-size g c = size_applied

pub returns-clause-large : goal.returns-clause-large
returns-clause-large g c = large_applied

use Rattle.std.proofs.Common.{◌≤◌, ◌∙◌, ap, sym, subst, IsTrue}
use Rattle.std.specs.List.{list_all}
use Rattle.update.specs.Bags.{count_of}
use Rattle.update.specs.Updates.{as_of, size}
use Rattle.linear.proofs.SumLemmas.{applied_sums}
use Rattle.linear.proofs.SizeLemmas.{size_applied, times_applied}
use Rattle.linear.proofs.application.apply.Goals as goal

pub returns-clause-sums : goal.returns-clause-sums
returns-clause-sums g c k port t h row =
    ap (λ us. count_of (as_of g.T.PartialOrder.times t us) row) c.in_ok-overwrite.ensures.applied ∙ applied_sums g.T.PartialOrder.times t k c.args.node.now c.requires.linear port h c.args.updates.now.items row

pub returns-clause-times : goal.returns-clause-times
returns-clause-times g c p h =
    subst (λ us. IsTrue (list_all (λ u. p u.time) us)) (sym c.in_ok-overwrite.ensures.applied) (times_applied c.args.node.now p c.args.updates.now.items h)

pub returns-clause-size : goal.returns-clause-size
returns-clause-size g c =
    subst (λ us. size us ≤ size c.args.updates.now.items) (sym c.in_ok-overwrite.ensures.applied) (size_applied c.args.node.now c.args.updates.now.items)

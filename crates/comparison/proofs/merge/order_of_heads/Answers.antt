use Rattle.std.proofs.Common.{arith, ◌∙◌}
use Rattle.comparison.proofs.MergeLemmas.{greater_at_end, order_here}
use Rattle.comparison.proofs.merge.order_of_heads.Goals as goal

pub returns-then-at-len-3-clause-order : goal.returns-then-at-len-3-clause-order
returns-then-at-len-3-clause-order c =
    greater_at_end c.args.before.now c.args.after.now c.args.at.before c.args.at.after (omega arith) (omega arith)

pub returns-clause-order : goal.returns-clause-order
returns-clause-order c =
    c.cmp.ensures
    ∙ order_here c.args.before.now c.args.after.now c.args.at.before c.args.at.after c.row.result.now c.row-2.result.now c.row.ensures c.row-2.ensures

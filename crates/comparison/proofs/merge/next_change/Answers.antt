use Rattle.std.proofs.Common.{sym, ◌∙◌}
use Rattle.comparison.proofs.MergeLemmas.{next_less, next_equal, next_greater}
use Rattle.comparison.proofs.merge.next_change.Goals as goal

pub returns-in-Less-clause-next : goal.returns-in-Less-clause-next
returns-in-Less-clause-next c =
    next_less c.args.before.now c.args.after.now c.args.at.now.before c.args.at.now.after c.removed_row-change.result
    (sym c.in-Less.is ∙ c.in_ok-order_of_heads.ensures.order) c.removed_row-change.ensures

pub returns-in-Equal-clause-next : goal.returns-in-Equal-clause-next
returns-in-Equal-clause-next c =
    next_equal c.args.before.now c.args.after.now c.args.at.now.before c.args.at.now.after c.common_row-change.result
    (sym c.in-Equal.is ∙ c.in_ok-order_of_heads.ensures.order) c.common_row-change.ensures

pub returns-in-Greater-clause-next : goal.returns-in-Greater-clause-next
returns-in-Greater-clause-next c =
    next_greater c.args.before.now c.args.after.now c.args.at.now.before c.args.at.now.after c.added_row-change.result
    (sym c.in-Greater.is ∙ c.in_ok-order_of_heads.ensures.order) c.added_row-change.ensures

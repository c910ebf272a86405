use Rattle.std.proofs.Common.{sym, ap, ◌∙◌, drop, is_le, arith}
use Rattle.std.specs.Ordering.{ordering_then}
use Rattle.batch.specs.Merges.{MergingState, is_left_next}
use Rattle.batch.proofs.UnderwayLemmas.{next_alone, next_by_order}
use Rattle.batch.proofs.merger.Merging.is_left_next.Goals as goal

pub returns-then-self-len-2 : goal.returns-then-self-len-2
returns-then-self-len-2 g c =
    let us = c.args.us.now in
    let vs = c.args.vs.now in
    sym (next_alone g.T.Ord.cmp us vs c.self.inside.left c.self.inside.right (omega arith) (omega arith))
    ∙ ap (λ (s : MergingState g.row.T.Denot). is_left_next g.T.Ord.cmp (drop s.left us) (drop s.right vs)) c.self.view_is

pub returns : goal.returns
returns g c =
    let us = c.args.us.now in
    let vs = c.args.vs.now in
    c.is_le.ensures
    ∙ ap is_le (c.then.ensures ∙ ap (λ o. ordering_then c.compare_rows-rows.result o) c.cmp-times.ensures)
    ∙ next_by_order g.T.Ord.cmp us vs c.self.inside.left c.self.inside.right c.compare_rows-rows.result c.time.result c.time-2.result c.compare_rows-rows.ensures c.time.ensures c.time-2.ensures
    ∙ ap (λ (s : MergingState g.row.T.Denot). is_left_next g.T.Ord.cmp (drop s.left us) (drop s.right vs)) c.self.view_is

use Rattle.std.proofs.Common.{[], sym, subst, arith}
use Rattle.batch.specs.Changes.{with_row}
use Rattle.batch.specs.Merges.{IsMerging}
use Rattle.batch.proofs.MergeLemmas.{merging_begins}
use Rattle.batch.proofs.merger.begun.Goals as goal

pub returns-clause-underway : goal.returns-clause-underway
returns-clause-underway g c =
    let times = g.T.PartialOrder.times in
    let cmp = g.T.Ord.cmp in
    let us = c.args.us.now in
    let vs = c.args.vs.now in
    let since = c.args.description.since in
    record {
      left = omega arith;
      right = omega arith;
      still = c.requires.still;
      merging = subst (λ ws. IsMerging times cmp since us vs ws (with_row c.in_ok-rows.rows.row c.in_ok-rows.rows.in_hand.items) us vs) (sym c.in_ok-rows.ensures.finished)
          (subst (λ cs. IsMerging times cmp since us vs [] (with_row c.in_ok-rows.rows.row cs) us vs) (sym c.in_ok-rows.ensures.in_hand)
          (merging_begins times cmp since us vs c.requires.left.ascending c.requires.right.ascending));
    }

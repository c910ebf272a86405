use Rattle.std.proofs.Common.{◌∙◌, length, slice_index_or, slice_set}
use Rattle.std.proofs.lemmas.List.Edits.{map_over_more}
use Rattle.linear.specs.Applied.{mapped_update}
use Rattle.linear.specs.Widths.{takes_items}
use Rattle.linear.proofs.LoopLemmas.{read_passes, read_itself, items_some, items_few, items_within}
use Rattle.linear.proofs.application.map_rows.Goals as goal

pub project-requires-clause-some : goal.project-requires-clause-some
project-requires-clause-some g c =
    let items = c.args.items.now in
    let u = slice_index_or c.loop-update.updates c.loop-update.update-index c.update-item.result in
    items_some items (length u.row) (read_passes (λ u. takes_items items (length u.row)) (mapped_update items) c.args.updates.now c.loop-update.updates c.loop-update.update-index c.update-item.result c.loop-update-test.true c.loop-update.invariant c.requires)

pub project-requires-clause-few : goal.project-requires-clause-few
project-requires-clause-few g c =
    let items = c.args.items.now in
    let u = slice_index_or c.loop-update.updates c.loop-update.update-index c.update-item.result in
    items_few items (length u.row) (read_passes (λ u. takes_items items (length u.row)) (mapped_update items) c.args.updates.now c.loop-update.updates c.loop-update.update-index c.update-item.result c.loop-update-test.true c.loop-update.invariant c.requires)

pub project-requires-clause-within : goal.project-requires-clause-within
project-requires-clause-within g c =
    let items = c.args.items.now in
    let u = slice_index_or c.loop-update.updates c.loop-update.update-index c.update-item.result in
    items_within items (length u.row) (read_passes (λ u. takes_items items (length u.row)) (mapped_update items) c.args.updates.now c.loop-update.updates c.loop-update.update-index c.update-item.result c.loop-update-test.true c.loop-update.invariant c.requires)

pub loop-update-preserved : goal.loop-update-preserved
loop-update-preserved g c =
    let ys = c.loop-update.updates in
    let i = c.loop-update.update-index in
    let u = slice_index_or ys i c.update-item.result in
    (λ j. slice_set ys i (record u { row = c.project.ensures j }))
    ∙ map_over_more (mapped_update c.args.items.now) c.args.updates.now ys i u c.loop-update-test.true c.loop-update.invariant (read_itself ys i c.update-item.result c.update-item.is)

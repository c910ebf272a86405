use Rattle.std.proofs.Common.{ap, ◌∙◌}
use Rattle.progress.specs.declared.counts.PlaceCounts.{PlaceCounts}
use Rattle.progress.specs.PlacedCounts.{items_in}
use Rattle.progress.proofs.PlacedLemmas.{nothing_more}
use Rattle.progress.proofs.counts.push_place.Goals as goal

pub returns-clause-items : goal.returns-clause-items
returns-clause-items g c =
    let p : PlaceCounts g.row.T.Denot = record { place = c.args.place; times = c.new-times.result } in
    ap items_in c.in_ok-push.ensures.items ∙ nothing_more c.args.places.now.items p c.new-times.ensures

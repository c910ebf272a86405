use Rattle.std.proofs.Common.{◌<◌, ◌∙◌, length, map, take, sym, ap, rules}
use Rattle.std.specs.List.{flat_map}
use Rattle.std.proofs.lemmas.List.{take_more}
use Rattle.update.specs.Bags.{count_of}
use Rattle.update.specs.Updates.{as_of, entry}
use Rattle.views.specs.Views.{update_at}
use Rattle.views.proofs.CapturedLemmas.{sums_of_more}
use Rattle.views.proofs.last_read.arrived_at.Goals as goal

pub loop-position-preserved : goal.loop-position-preserved
loop-position-preserved g c row =
    let i = c.loop-position in
    let within : i.position-index < length c.args.positions.now = search rules in
    sums_of_more g.T.PartialOrder.times c.args.t.now c.args.captured.now (take i.position-index c.args.positions.now) _ (map entry i.arrived.items) (map entry c.push_if_arrived.new.arrived.items) i.invariant c.in_ok-run.ensures.more row
    ∙ ap (λ ks. count_of (flat_map (λ k. as_of g.T.PartialOrder.times c.args.t.now (update_at c.args.captured.now k)) ks) row) (sym (take_more c.args.positions.now i.position-index 0 within))

use Rattle.std.proofs.Common.{◌≡◌, ◌++◌, [], map, ap, subst, ◌∙◌, arith}
use Rattle.std.proofs.lemmas.Grind.{common_steps}
use Rattle.progress.specs.Several.{items_at}
use Rattle.progress.specs.Tallies.{SameCounts}
use Rattle.outstanding.specs.Loads.{held_by_all}
use Rattle.outstanding.specs.Stations.{lot}
use Rattle.outstanding.proofs.GiveLemmas.{held_last, last_is_counted, last_went}
use Rattle.outstanding.proofs.stations.Row.give_back.Goals as goal

pub give_back-requires : goal.give_back-requires
give_back-requires g c =
    let i = c.loop-station in
    let place = c.args.place.now in
    let all = items_at place (held_by_all (map lot c.args.self)) in
    let rest = c.pop.new.self.items in
    let split = ap (λ row. items_at place (held_by_all (map lot row))) c.in-Some.ensures.items ∙ held_last place rest c.in-Some.station in
    last_is_counted all (items_at place (held_by_all (map lot rest))) (items_at place c.in-Some.station.held) c.args.tally.now.items i.tally.items
    (subst (λ left. SameCounts (all ++ i.tally.items) (left ++ c.args.tally.now.items)) split i.invariant.0) c.requires

pub loop-station-preserved : goal.loop-station-preserved
loop-station-preserved g c =
    let i = c.loop-station in
    let place = c.args.place.now in
    let all = items_at place (held_by_all (map lot c.args.self)) in
    let rest = c.pop.new.self.items in
    let split = ap (λ row. items_at place (held_by_all (map lot row))) c.in-Some.ensures.items ∙ held_last place rest c.in-Some.station in (
      last_went all (items_at place (held_by_all (map lot rest))) (items_at place c.in-Some.station.held) c.args.tally.now.items i.tally.items
          (subst (λ left. SameCounts (all ++ i.tally.items) (left ++ c.args.tally.now.items)) split i.invariant.0) c.give_back.new.tally.items c.give_back.ensures.counted,
      c.give_back.ensures.nodes ∙ i.invariant.1,
    )

pub returns-clause-counted : goal.returns-clause-counted
returns-clause-counted g c =
    let i = c.loop-station in
    let place = c.args.place.now in
    let none : i.by_worker.items ≡ [] = grind (arith, common_steps) in
    subst (λ row. SameCounts (items_at place (held_by_all (map lot c.args.self)) ++ i.tally.items) (items_at place (held_by_all (map lot row)) ++ c.args.tally.now.items)) none i.invariant.0

use Rattle.std.proofs.Common.{◌≡◌, ◌++◌, [], map, ap, subst, ◌∙◌, arith}
use Rattle.std.proofs.lemmas.Grind.{common_steps}
use Rattle.progress.specs.Several.{items_at}
use Rattle.progress.specs.Tallies.{SameCounts}
use Rattle.progress.specs.declared.place.Place.TheVariants.{Held}
use Rattle.histories.specs.Histories.Outstanding.{items_held}
use Rattle.outstanding.specs.Loads.{held_by_all, all_held}
use Rattle.outstanding.specs.Stations.{lot, lots}
use Rattle.outstanding.proofs.GiveLemmas.{row_last, last_is_counted, last_went}
use Rattle.outstanding.proofs.stations.Stations.give_back.Goals as goal

pub give_back-requires : goal.give_back-requires
give_back-requires g c =
    let i = c.loop-row in
    let all = items_held (all_held (lots c.args.self)) in
    let rest = c.pop.new.self.items in
    let last = items_at (Held c.new-node.result) (held_by_all (map lot c.in-Some.row)) in
    let split = ap (λ rows. items_held (all_held (lots rows))) c.in-Some.ensures.items ∙ row_last rest c.in-Some.row c.new-node.result (omega arith) in
    last_is_counted all (items_held (all_held (lots rest))) last c.args.tally.now.items i.tally.items
    (subst (λ left. SameCounts (all ++ i.tally.items) (left ++ c.args.tally.now.items)) split i.invariant.0) c.requires

pub loop-row-preserved : goal.loop-row-preserved
loop-row-preserved g c =
    let i = c.loop-row in
    let all = items_held (all_held (lots c.args.self)) in
    let rest = c.pop.new.self.items in
    let last = items_at (Held c.new-node.result) (held_by_all (map lot c.in-Some.row)) in
    let split = ap (λ rows. items_held (all_held (lots rows))) c.in-Some.ensures.items ∙ row_last rest c.in-Some.row c.new-node.result (omega arith) in (
      last_went all (items_held (all_held (lots rest))) last c.args.tally.now.items i.tally.items
          (subst (λ left. SameCounts (all ++ i.tally.items) (left ++ c.args.tally.now.items)) split i.invariant.0) c.give_back.new.tally.items c.give_back.ensures.counted,
      c.give_back.ensures.nodes ∙ i.invariant.1,
    )

pub returns-clause-counted : goal.returns-clause-counted
returns-clause-counted g c =
    let i = c.loop-row in
    let none : i.by_node.items ≡ [] = grind (arith, common_steps) in
    subst (λ rows. SameCounts (items_held (all_held (lots c.args.self)) ++ i.tally.items) (items_held (all_held (lots rows)) ++ c.args.tally.now.items)) none i.invariant.0

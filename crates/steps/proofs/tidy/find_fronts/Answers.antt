use Rattle.std.proofs.Common.{rules}
use Rattle.histories.specs.declared.event.Event.TheVariants.{Look}
use Rattle.shared_board.specs.Found.{AreFrontsFound}
use Rattle.shared_board.specs.Tenures.{IsNextTenure}
use Rattle.desk_laws.specs.declared.hand.Hand.TheVariants.{Free}
use Rattle.steps.proofs.FrontsLemmas.{told_found}
use Rattle.steps.proofs.TenureLemmas.{looked_right}
use Rattle.steps.proofs.tidy.find_fronts.Goals as goal

pub returns-in-Some-Ok-clause-right : goal.returns-in-Some-Ok-clause-right
returns-in-Some-Ok-clause-right g c d x =
    let times = g.T.PartialOrder.times in
    let old = c.args.actor.now in
    let new = c.try_port_frontiers-found.new.self in
    let adds : IsNextTenure old (Look old.number) new = search rules in
    looked_right times g.met.T.PartialOrder.order old new c.known.ensures adds d Free x

pub returns-in-Some-Ok-clause-told : goal.returns-in-Some-Ok-clause-told
returns-in-Some-Ok-clause-told g c =
    let times = g.T.PartialOrder.times in
    let old = c.args.actor.now in
    let new = c.try_port_frontiers-found.new.self in
    let adds : IsNextTenure old (Look old.number) new = search rules in
    let found : AreFrontsFound times old new c.args.ports.now c.in-Some-Ok.fronts.items = search rules in
    told_found times g.met.T.PartialOrder.order old new c.known.ensures adds c.args.ports.now c.in-Some-Ok.fronts.items c.requires.ports found

pub returns-in-Some-Err-clause-right : goal.returns-in-Some-Err-clause-right
returns-in-Some-Err-clause-right g c d x =
    let times = g.T.PartialOrder.times in
    let old = c.args.actor.now in
    let new = c.try_port_frontiers-found.new.self in
    let adds : IsNextTenure old (Look old.number) new = search rules in
    looked_right times g.met.T.PartialOrder.order old new c.known.ensures adds d Free x

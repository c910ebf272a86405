use Rattle.std.proofs.Common.{ℕ, subst}
use Rattle.lattice.specs.Bitimes.{bitime_times}
use Rattle.hub.specs.Known.{Known}
use Rattle.lattice.specs.Naturals.{nat_order}
use Rattle.lattice.specs.Pairs.{pair_order}
use Rattle.lattice.specs.declared.product.Pair.{Pair}
use Rattle.histories.specs.declared.event.Event.TheVariants.{Look}
use Rattle.shared_board.specs.declared.event.BoardEvent.{BoardEvent}
use Rattle.crews.specs.BoardStates.{StandsAs}
use Rattle.crews.proofs.BoardStateLemmas.{after_looked, client_step}
use Rattle.crews.proofs.crew.Crew.is_quiet.Goals as goal

pub returns-clause-stands : goal.returns-clause-stands
returns-clause-stands g c s =
    let o = pair_order nat_order nat_order in
    let k = c.self.inside.client in
    let number = c.self.invariant.0 in
    let one = c.self.invariant.1 in
    let new = c.quiet_wait-quiet.new.self in
    subst (λ (e : Known (BoardEvent (Pair ℕ ℕ))). StandsAs bitime_times e s → StandsAs bitime_times new s) c.self.view_is
    (λ a. after_looked bitime_times o k new k.number s (client_step bitime_times o k new (Look k.number) number one c.known.ensures c.quiet_wait-quiet.ensures.0) a)

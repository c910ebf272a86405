use Rattle.std.proofs.Common.{◌≡◌, true, ℕ, subst}
use Rattle.std.proofs.lemmas.Cmp.{then_total, on_total, nat_cmp_total}
use Rattle.lattice.specs.Bitimes.{bitime_times}
use Rattle.hub.specs.Known.{Known}
use Rattle.lattice.specs.Naturals.{nat_order, nat_bounds, nat_extends}
use Rattle.lattice.specs.Pairs.{pair_order, pair_bounds, pair_extends}
use Rattle.lattice.specs.declared.product.Pair.{Pair}
use Rattle.histories.specs.declared.event.Event.TheVariants.{Look}
use Rattle.shared_board.specs.Found.{dataflow_of}
use Rattle.shared_board.specs.Tenures.{state_found, state_left}
use Rattle.shared_board.specs.declared.event.BoardEvent.{BoardEvent}
use Rattle.engines.specs.Bounds.{IsLarge}
use Rattle.crews.specs.BoardStates.{StandsAs}
use Rattle.crews.proofs.BoardStateLemmas.{after_looked, client_step, large_session, session_found}
use Rattle.crews.proofs.crew.Crew.is_too_large.Goals as goal

pub returns-clause-stands : goal.returns-clause-stands
returns-clause-stands g c s =
    let o = pair_order nat_order nat_order in
    let k = c.self.inside.client in
    let number = c.self.invariant.0 in
    let one = c.self.invariant.1 in
    let new = c.is_too_large_wait-large.new.self in
    subst (λ (e : Known (BoardEvent (Pair ℕ ℕ))). StandsAs bitime_times e s → StandsAs bitime_times new s) c.self.view_is
    (λ a. after_looked bitime_times o k new k.number s (client_step bitime_times o k new (Look k.number) number one c.known.ensures c.is_too_large_wait-large.ensures.0) a)

-- what the client heard of has its cause in the session
pub returns-clause-cause : goal.returns-clause-cause
returns-clause-cause g c s =
    let o = pair_order nat_order nat_order in
    let k = c.self.inside.client in
    let number = c.self.invariant.0 in
    let one = c.self.invariant.1 in
    let l = pair_bounds nat_bounds nat_bounds in
    let x = pair_extends nat_extends nat_extends in
    let total = then_total (on_total (λ (t : Pair ℕ ℕ). t.first) nat_cmp_total) (on_total (λ (t : Pair ℕ ℕ). t.second) nat_cmp_total) in
    let new = c.is_too_large_wait-large.new.self in
    let step = client_step bitime_times o k new (Look k.number) number one c.known.ensures c.is_too_large_wait-large.ensures.0 in
    subst (λ (e : Known (BoardEvent (Pair ℕ ℕ))). StandsAs bitime_times e s → c.is_too_large_wait-large.result ≡ true → IsLarge (dataflow_of e).nodes s) c.self.view_is
    (λ a told. large_session o l x total (dataflow_of k) (state_found bitime_times new) s step.dataflow
    (session_found bitime_times o (dataflow_of k) (state_left bitime_times k) (state_found bitime_times new) s step.clients a) (c.is_too_large_wait-large.ensures.1 told))

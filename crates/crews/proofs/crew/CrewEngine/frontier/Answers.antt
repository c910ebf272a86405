use Rattle.std.proofs.Common.{ℕ, ◌<◌, length, List, IsTrue, ltb-true, refl, inl, inr, sym, subst}
use Rattle.std.proofs.lemmas.Cmp.{then_total, on_total, nat_cmp_total}
use Rattle.lattice.specs.Bitimes.{bitime_times}
use Rattle.hub.specs.Known.{Known}
use Rattle.lattice.specs.Naturals.{nat_order, nat_bounds, nat_extends}
use Rattle.lattice.specs.Pairs.{pair_order, pair_bounds, pair_extends}
use Rattle.lattice.specs.declared.product.Pair.{Pair}
use Rattle.std.specs.Prelude.{Result}
use Rattle.std.proofs.lemmas.Bool.{and_parts}
use Rattle.grammar.specs.Commands.{is_view_of}
use Rattle.update.specs.declared.refusal.Refusal.{Refusal}
use Rattle.histories.specs.declared.event.Event.TheVariants.{Look}
use Rattle.histories.specs.Histories.Readings.{IsQuiet}
use Rattle.shared_board.specs.Found.{dataflow_of}
use Rattle.shared_board.specs.Tenures.{state_found, state_left}
use Rattle.shared_board.specs.declared.event.BoardEvent.{BoardEvent}
use Rattle.engines.specs.Answers.{FindsFrontier}
use Rattle.engines.specs.Bounds.{EndsByBound}
use Rattle.crews.specs.BoardStates.{HasSession, StandsAs}
use Rattle.crews.proofs.ReadLemmas.{frontier_found}
use Rattle.crews.proofs.BoardStateLemmas.{after_looked, client_step, session_found}
use Rattle.crews.proofs.TurnLemmas.{answers_of}
use Rattle.crews.proofs.crew.CrewEngine.frontier.Goals as goal
use Rattle.crews.proofs.crew.CrewEngine.frontier.Goals.{in-Ok, in-Err}

pub returns-clause-stands : goal.returns-clause-stands
returns-clause-stands g c s =
    let o = pair_order nat_order nat_order in
    let k = c.self.inside.client in
    let number = c.self.invariant.0 in
    let one = c.self.invariant.1 in
    let new = c.probe_wait-frontier.new.self in
    let answer = answers_of k new _ _ c.probe_wait-frontier.result c.probe_wait-frontier.ensures in
    subst (λ (e : Known (BoardEvent (Pair ℕ ℕ))). StandsAs bitime_times e s → StandsAs bitime_times new s) c.self.view_is
    (λ a. after_looked bitime_times o k new k.number s (client_step bitime_times o k new (Look k.number) number one c.known.ensures answer.looked) a)

pub returns-clause-answered : goal.returns-clause-answered
returns-clause-answered g c s =
    let o = pair_order nat_order nat_order in
    let k = c.self.inside.client in
    let number = c.self.invariant.0 in
    let one = c.self.invariant.1 in
    let l = pair_bounds nat_bounds nat_bounds in
    let x = pair_extends nat_extends nat_extends in
    let total = then_total (on_total (λ (t : Pair ℕ ℕ). t.first) nat_cmp_total) (on_total (λ (t : Pair ℕ ℕ). t.second) nat_cmp_total) in
    let new = c.probe_wait-frontier.new.self in
    let answer = answers_of k new _ _ c.probe_wait-frontier.result c.probe_wait-frontier.ensures in
    let v = c.args.view in
    let p = dataflow_of k in
    let w = state_found bitime_times new in
    let step = client_step bitime_times o k new (Look k.number) number one c.known.ensures answer.looked in
    let there = subst (λ (e : Known (BoardEvent (Pair ℕ ℕ))). IsTrue (is_view_of (dataflow_of e).nodes v)) (sym c.self.view_is) c.requires.view in
    let within : v < length p.nodes = ltb-true v (length p.nodes) (and_parts _ _ there).0 in
    let still = subst (λ (e : Known (BoardEvent (Pair ℕ ℕ))). IsQuiet bitime_times (dataflow_of e) (state_left bitime_times e)) (sym c.self.view_is) c.requires.caught_up in
    let caught = step.caught v (subst (IsQuiet bitime_times p) (sym (step.quiet still)) still) in
    let found : StandsAs bitime_times k s → HasSession p w s = session_found bitime_times o p (state_left bitime_times k) w s step.clients in
    let Answered : Known (BoardEvent (Pair ℕ ℕ)) → Result (List (Pair ℕ ℕ)) Refusal → Type 0 = λ e r. StandsAs bitime_times e s
    → FindsFrontier (EndsByBound (dataflow_of e).nodes s) (dataflow_of e).nodes s v r in
    subst (λ e. Answered e c.match-frontier.result) c.self.view_is
    (elim c.match-frontier.branch [
      | in-Ok z ↦ subst (Answered k) (sym z.result-is)
          (λ a. (refl, frontier_found bitime_times o p step.dataflow w s (found a) v caught total x.exact z.in-Ok.frontier z.known-in-Ok.ensures z.in-Ok.ensures.1))
      | in-Err z ↦ subst (Answered k) (sym z.result-is) (λ a. inr (inl z.in-Err.ensures.1))
    ])

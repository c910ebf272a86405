use Rattle.std.proofs.Common.{ℕ, ◌<◌, length, List, IsTrue, ltb-true, sym, subst, ◌∙◌}
use Rattle.std.proofs.lemmas.Cmp.{then_total, on_total, nat_cmp_total}
use Rattle.lattice.specs.Bitimes.{bitime_times}
use Rattle.hub.specs.Known.{Known}
use Rattle.lattice.specs.Naturals.{nat_order, nat_bounds, nat_extends}
use Rattle.lattice.specs.Pairs.{pair_order, pair_bounds, pair_extends}
use Rattle.lattice.specs.declared.product.Pair.{Pair}
use Rattle.std.specs.Prelude.{Result}
use Rattle.std.proofs.lemmas.Bool.{and_parts}
use Rattle.grammar.specs.Commands.{is_view_of}
use Rattle.update.specs.declared.change.Update.{Update}
use Rattle.update.specs.declared.refusal.Refusal.{Refusal}
use Rattle.histories.specs.declared.event.Event.TheVariants.{Look}
use Rattle.histories.specs.Histories.Readings.{IsQuiet}
use Rattle.shared_board.specs.Found.{dataflow_of}
use Rattle.shared_board.specs.Tenures.{HasLargeListed, changes_refusal_in, state_found, state_left}
use Rattle.shared_board.specs.declared.event.BoardEvent.{BoardEvent}
use Rattle.engines.specs.Answers.{FindsChanges}
use Rattle.engines.specs.Bounds.{IsLarge, EndsByBound}
use Rattle.crews.specs.BoardStates.{HasSession, StandsAs}
use Rattle.crews.proofs.ReadLemmas.{changes_found, large_changes, refused_alike, same_changes_refusal}
use Rattle.crews.proofs.BoardStateLemmas.{after_looked, client_step, session_found}
use Rattle.crews.proofs.TurnLemmas.{answers_of}
use Rattle.crews.proofs.crew.CrewEngine.changes.Goals as goal
use Rattle.crews.proofs.crew.CrewEngine.changes.Goals.{in-Ok, in-Err}

pub returns-clause-stands : goal.returns-clause-stands
returns-clause-stands g c s =
    let o = pair_order nat_order nat_order in
    let k = c.self.inside.client in
    let number = c.self.invariant.0 in
    let one = c.self.invariant.1 in
    let new = c.changes_wait-changes.new.self in
    let answer = answers_of k new _ _ c.changes_wait-changes.result c.changes_wait-changes.ensures in
    subst (λ (e : Known (BoardEvent (Pair ℕ ℕ))). StandsAs bitime_times e s → StandsAs bitime_times new s) c.self.view_is
    (λ a. after_looked bitime_times o k new k.number s (client_step bitime_times o k new (Look k.number) number one c.known.ensures answer.looked) a)

pub returns-clause-answered : goal.returns-clause-answered
returns-clause-answered g c s =
    let o = pair_order nat_order nat_order in
    let k = c.self.inside.client in
    let number = c.self.invariant.0 in
    let one = c.self.invariant.1 in
    let l = pair_bounds nat_bounds nat_bounds in
    let x = pair_extends nat_extends nat_extends in
    let total = then_total (on_total (λ (t : Pair ℕ ℕ). t.first) nat_cmp_total) (on_total (λ (t : Pair ℕ ℕ). t.second) nat_cmp_total) in
    let new = c.changes_wait-changes.new.self in
    let answer = answers_of k new _ _ c.changes_wait-changes.result c.changes_wait-changes.ensures in
    let v = c.args.view in
    let p = dataflow_of k in
    let w = state_found bitime_times new in
    let step = client_step bitime_times o k new (Look k.number) number one c.known.ensures answer.looked in
    let there = subst (λ (e : Known (BoardEvent (Pair ℕ ℕ))). IsTrue (is_view_of (dataflow_of e).nodes v)) (sym c.self.view_is) c.requires.view in
    let within : v < length p.nodes = ltb-true v (length p.nodes) (and_parts _ _ there).0 in
    let still = subst (λ (e : Known (BoardEvent (Pair ℕ ℕ))). IsQuiet bitime_times (dataflow_of e) (state_left bitime_times e)) (sym c.self.view_is) c.requires.caught_up in
    let caught = step.caught v (subst (IsQuiet bitime_times p) (sym (step.quiet still)) still) in
    let found : StandsAs bitime_times k s → HasSession p w s = session_found bitime_times o p (state_left bitime_times k) w s step.clients in
    let Changes : Type 0 = List (Update (Pair ℕ ℕ)) in
    let Answered : Known (BoardEvent (Pair ℕ ℕ)) → Result Changes Refusal → Type 0 = λ e r. StandsAs bitime_times e s
    → FindsChanges (EndsByBound (dataflow_of e).nodes s) (dataflow_of e).nodes s v r in
    subst (λ e. Answered e c.match-changes.result) c.self.view_is
    (elim c.match-changes.branch [
      | in-Ok z ↦ subst (Answered k) (sym z.result-is)
          (λ a. (
            sym (same_changes_refusal bitime_times o p step.dataflow w s (found a) v caught) ∙ z.in-Ok.ensures.1.accepted,
            z.from.ensures ∙ changes_found bitime_times o p step.dataflow w s (found a) v caught l x total within z.in-Ok.changes.items z.in-Ok.ensures.1.differences,
          ))
      | in-Err z ↦ subst (Answered k) (sym z.result-is)
          (λ a. refused_alike (HasLargeListed bitime_times p w v) (IsLarge p.nodes s) (changes_refusal_in bitime_times w v) _ z.in-Err.refusal
          (same_changes_refusal bitime_times o p step.dataflow w s (found a) v caught)
          (large_changes o l x total p step.dataflow w s (found a) v within) z.in-Err.ensures.1)
    ])

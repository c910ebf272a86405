use Rattle.std.proofs.Common.{ℕ, ◌<◌, length, IsTrue, ltb-true, sym, subst}
use Rattle.std.proofs.lemmas.Result.{IfOk-weaker}
use Rattle.std.proofs.lemmas.Cmp.{then_total, on_total, nat_cmp_total}
use Rattle.lattice.specs.Bitimes.{bitime_times}
use Rattle.hub.specs.Known.{Known}
use Rattle.lattice.specs.Naturals.{nat_order, nat_bounds, nat_extends}
use Rattle.lattice.specs.Pairs.{pair_order, pair_bounds, pair_extends}
use Rattle.lattice.specs.declared.product.Pair.{Pair}
use Rattle.std.proofs.lemmas.Bool.{and_parts}
use Rattle.grammar.specs.Commands.{is_view_of}
use Rattle.update.specs.Bags.{HasLargeCount}
use Rattle.plan.specs.Changes.{query_at}
use Rattle.histories.specs.declared.event.Event.TheVariants.{Look}
use Rattle.histories.specs.Histories.Promises.{changes_in}
use Rattle.histories.specs.Histories.Readings.{IsQuiet}
use Rattle.shared_board.specs.Found.{dataflow_of}
use Rattle.shared_board.specs.Tenures.{state_found, state_left}
use Rattle.shared_board.specs.declared.event.BoardEvent.{BoardEvent}
use Rattle.engines.specs.Answers.{FindsRows}
use Rattle.engines.specs.Bounds.{IsLarge, EndsByBound}
use Rattle.crews.specs.BoardStates.{HasSession, StandsAs}
use Rattle.crews.proofs.ReadLemmas.{read_answered, large_read}
use Rattle.crews.proofs.BoardStateLemmas.{after_looked, client_step, session_found}
use Rattle.crews.proofs.TurnLemmas.{answers_of, on_ok_of}
use Rattle.crews.proofs.crew.CrewEngine.read.Goals as goal

pub returns-clause-stands : goal.returns-clause-stands
returns-clause-stands g c s =
    let o = pair_order nat_order nat_order in
    let k = c.self.inside.client in
    let number = c.self.invariant.0 in
    let one = c.self.invariant.1 in
    let new = c.read_wait-rows.new.self in
    let answer = answers_of k new _ _ c.read_wait-rows.result c.read_wait-rows.ensures in
    subst (λ (e : Known (BoardEvent (Pair ℕ ℕ))). StandsAs bitime_times e s → StandsAs bitime_times new s) c.self.view_is
    (λ a. after_looked bitime_times o k new k.number s (client_step bitime_times o k new (Look k.number) number one c.known.ensures answer.looked) a)

pub returns-clause-answered : goal.returns-clause-answered
returns-clause-answered g c s =
    let o = pair_order nat_order nat_order in
    let k = c.self.inside.client in
    let number = c.self.invariant.0 in
    let one = c.self.invariant.1 in
    let l = pair_bounds nat_bounds nat_bounds in
    let x = pair_extends nat_extends nat_extends in
    let total = then_total (on_total (λ (t : Pair ℕ ℕ). t.first) nat_cmp_total) (on_total (λ (t : Pair ℕ ℕ). t.second) nat_cmp_total) in
    let new = c.read_wait-rows.new.self in
    let answer = answers_of k new _ _ c.read_wait-rows.result c.read_wait-rows.ensures in
    let v = c.args.view in
    let p = dataflow_of k in
    let w = state_found bitime_times new in
    let step = client_step bitime_times o k new (Look k.number) number one c.known.ensures answer.looked in
    let there = subst (λ (e : Known (BoardEvent (Pair ℕ ℕ))). IsTrue (is_view_of (dataflow_of e).nodes v)) (sym c.self.view_is) c.requires.view in
    let within : v < length p.nodes = ltb-true v (length p.nodes) (and_parts _ _ there).0 in
    let still = subst (λ (e : Known (BoardEvent (Pair ℕ ℕ))). IsQuiet bitime_times (dataflow_of e) (state_left bitime_times e)) (sym c.self.view_is) c.requires.caught_up in
    let caught = step.caught v (subst (IsQuiet bitime_times p) (sym (step.quiet still)) still) in
    let found : StandsAs bitime_times k s → HasSession p w s = session_found bitime_times o p (state_left bitime_times k) w s step.clients in
    let t = c.args.time in
    subst (λ (e : Known (BoardEvent (Pair ℕ ℕ))). StandsAs bitime_times e s → FindsRows (EndsByBound (dataflow_of e).nodes s) (dataflow_of e).nodes s v t c.read_wait-rows.result) c.self.view_is
    (λ a. read_answered bitime_times o p step.dataflow w s (found a) v caught t
    (HasLargeCount (query_at bitime_times p.nodes (changes_in w) v t)) (IsLarge p.nodes s) c.read_wait-rows.result
    (large_read o l x total p step.dataflow w s (found a) v within t)
    (on_ok_of c.read_wait-rows.result (λ bag read. read.accepted) answer.found) answer.refused
    (IfOk-weaker c.read_wait-rows.result _ _ (λ bag read. read.is_bag) answer.found) (IfOk-weaker c.read_wait-rows.result _ _ (λ bag read. read.query) answer.found))

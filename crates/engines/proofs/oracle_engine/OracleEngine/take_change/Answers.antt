use Rattle.std.proofs.Common.{◌≡◌, ◌<◌, ◌∙◌, ℕ, map, Some, None, IsTrue, Vec, Global, refl, ap, sym, subst}
use Rattle.lattice.specs.Bitimes.{bitime_times}
use Rattle.lattice.specs.declared.product.Pair.{Pair}
use Rattle.update.specs.declared.change.Update.{Update}
use Rattle.update.specs.Refusals.{IsRefusalBy}
use Rattle.histories.specs.declared.event.Fed.{Fed}
use Rattle.grammar.specs.Commands.{is_input_of}
use Rattle.engines.specs.OracleStates.{Register, entry_refusal}
use Rattle.engines.proofs.OracleEngineLemmas.{in_lists, taken_is, same_faults, after_entry}
use Rattle.engines.proofs.oracle_engine.OracleEngine.take_change.Goals as goal

pub index-requires : goal.index-requires
index-requires c =
    let there = subst (λ (r : Register (Pair ℕ ℕ)). IsTrue (is_input_of r.plan c.args.input)) (sym c.self.view_is) c.requires in
    let within = in_lists (λ (v : Vec (Update (Pair ℕ ℕ)) Global). v.items) c.self.inside.changes.items c.self.inside.plan c.args.input c.inputs_before-place.result there c.self.invariant.lists c.inputs_before-place.ensures in
    subst (λ n. c.inputs_before-place.result < n) (sym c.self.inside.changes.ok.0) within

pub push_change-requires : goal.push_change-requires
push_change-requires c =
    let there = subst (λ (r : Register (Pair ℕ ℕ)). IsTrue (is_input_of r.plan c.args.input)) (sym c.self.view_is) c.requires in
    in_lists (λ (v : Vec (Update (Pair ℕ ℕ)) Global). v.items) c.self.inside.changes.items c.self.inside.plan c.args.input c.inputs_before-place.result there c.self.invariant.lists c.inputs_before-place.ensures

pub returns-in-Some-clause-refused : goal.returns-in-Some-clause-refused
returns-in-Some-clause-refused c =
    let f : Fed (Pair ℕ ℕ) = record { input = c.args.input; update = c.args.update } in
    let items = λ (v : Vec (Update (Pair ℕ ℕ)) Global). v.items in
    let r : Register (Pair ℕ ℕ) = record { plan = c.self.inside.plan; changes = map items c.self.inside.changes.items; inputs = c.self.inside.inputs; sinces = c.self.inside.sinces } in
    let there = subst (λ (r : Register (Pair ℕ ℕ)). IsTrue (is_input_of r.plan c.args.input)) (sym c.self.view_is) c.requires in
    let within = in_lists items c.self.inside.changes.items c.self.inside.plan c.args.input c.inputs_before-place.result there c.self.invariant.lists c.inputs_before-place.ensures in
    let taken = taken_is items c.self.inside.changes.items c.self.inside.plan c.args.input c.inputs_before-place.result c.len-taken.result c.index.result.now within c.inputs_before-place.ensures c.index.ensures (c.len-taken.ensures ∙ c.index.result.now.ok.0) in
    let same = same_faults bitime_times r f c.self.inside.inputs c.len-taken.result refl taken in
    let is : entry_refusal bitime_times c.args.self.now f ≡ Some c.in-Some.refusal = ap (λ (r : Register (Pair ℕ ℕ)). entry_refusal bitime_times r f) (sym c.self.view_is) ∙ (sym same ∙ (sym c.feed_refusal.ensures ∙ c.in-Some.is)) in
    subst (λ o. IsRefusalBy o c.in-Some.refusal) (sym is) refl

pub invariant_of-self : goal.invariant_of-self
invariant_of-self c =
    let f : Fed (Pair ℕ ℕ) = record { input = c.args.input; update = c.args.update } in
    let items = λ (v : Vec (Update (Pair ℕ ℕ)) Global). v.items in
    let r : Register (Pair ℕ ℕ) = record { plan = c.self.inside.plan; changes = map items c.self.inside.changes.items; inputs = c.self.inside.inputs; sinces = c.self.inside.sinces } in
    let there = subst (λ (r : Register (Pair ℕ ℕ)). IsTrue (is_input_of r.plan c.args.input)) (sym c.self.view_is) c.requires in
    let within = in_lists items c.self.inside.changes.items c.self.inside.plan c.args.input c.inputs_before-place.result there c.self.invariant.lists c.inputs_before-place.ensures in
    let taken = taken_is items c.self.inside.changes.items c.self.inside.plan c.args.input c.inputs_before-place.result c.len-taken.result c.index.result.now within c.inputs_before-place.ensures c.index.ensures (c.len-taken.ensures ∙ c.index.result.now.ok.0) in
    let same = same_faults bitime_times r f c.self.inside.inputs c.len-taken.result refl taken in
    let none : entry_refusal bitime_times r f ≡ None = sym same ∙ (sym c.feed_refusal.ensures ∙ c.in-None.is) in
    after_entry bitime_times r (map items c.push_change.new.lists.items) f c.inputs_before-place.result c.push_change.result c.self.invariant there none c.inputs_before-place.ensures c.push_change.ensures.pushed c.push_change.ensures.unchanged

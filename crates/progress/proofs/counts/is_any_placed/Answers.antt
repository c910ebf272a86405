use Rattle.std.proofs.Common.{◌≡◌, ◌+◌, true, false, cond, ◌∷◌, ◌||◌, drop, ap, sym, ◌∙◌, arith}
use Rattle.std.proofs.lemmas.Grind.{common_steps}
use Rattle.lattice.specs.Frontiers.{is_beyond}
use Rattle.progress.specs.PlacedCounts.{items_in}
use Rattle.progress.specs.Scopes.{is_in_scope}
use Rattle.progress.specs.Tallies.{times_where}
use Rattle.progress.proofs.PlacedLemmas.{first_beyond}
use Rattle.progress.proofs.counts.is_any_placed.Goals as goal
use Rattle.progress.proofs.counts.is_any_placed.Goals.{else-counts-via-then-counts+else-is_any_before, else-counts-via-else-counts}

pub returns-then-is_any_before : goal.returns-then-is_any_before
returns-then-is_any_before g c =
    let times = g.T.PartialOrder.times in
    let test = is_in_scope c.args.graph.now c.args.scope.now in
    let t = c.args.t.now in
    let x = c.counts-item.result in
    let rest = drop (c.loop-counts.counts-index + 1) c.args.places.now in
    let left : drop c.loop-counts.counts-index c.args.places.now ≡ x ∷ rest = grind (arith, common_steps) in
    let some : cond (test x.place) (is_beyond times x.times t) false ≡ true = ap (λ b. cond b (is_beyond times x.times t) false) (sym c.counts.ensures ∙ c.if-counts.true) ∙ (sym c.is_any_before.ensures ∙ c.if-is_any_before.true) in
    sym (sym c.loop-counts.invariant
    ∙ (ap (λ ps. is_beyond times (times_where test (items_in ps)) t) left
    ∙ (first_beyond times test x rest t ∙ ap (λ b. b || is_beyond times (times_where test (items_in rest)) t) some)))

pub loop-counts-preserved : goal.loop-counts-preserved
loop-counts-preserved g c =
    let times = g.T.PartialOrder.times in
    let test = is_in_scope c.args.graph.now c.args.scope.now in
    let t = c.args.t.now in
    let x = c.counts-item.result in
    let rest = drop (c.loop-counts.counts-index + 1) c.args.places.now in
    let left : drop c.loop-counts.counts-index c.args.places.now ≡ x ∷ rest = grind (arith, common_steps) in
    let none : cond (test x.place) (is_beyond times x.times t) false ≡ false =
    elim c.else-counts.branch [
      | else-counts-via-then-counts+else-is_any_before w ↦
          ap (λ b. cond b (is_beyond times x.times t) false) (sym c.counts.ensures ∙ w.if-counts.true) ∙ (sym w.is_any_before.ensures ∙ w.if-is_any_before.false)
      | else-counts-via-else-counts w ↦
          ap (λ b. cond b (is_beyond times x.times t) false) (sym c.counts.ensures ∙ w.if-counts.false)
    ] in
    sym (ap (λ ps. is_beyond times (times_where test (items_in ps)) t) left
    ∙ (first_beyond times test x rest t ∙ ap (λ b. b || is_beyond times (times_where test (items_in rest)) t) none))
    ∙ c.loop-counts.invariant

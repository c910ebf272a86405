use Rattle.std.proofs.Common.{◌≡◌, ◌+◌, Bool, true, false, cond, ◌∷◌, ◌||◌, drop, ap, sym, ◌∙◌, arith}
use Rattle.std.proofs.Common.{Vec}
use Rattle.std.proofs.lemmas.Grind.{common_steps}
use Rattle.std.specs.declared.alloc.Global.{Global}
use Rattle.lattice.specs.Frontiers.{is_beyond}
use Rattle.progress.specs.PlacedCounts.{items_in}
use Rattle.progress.specs.Scopes.{is_in_scope}
use Rattle.progress.specs.Tallies.{times_where}
use Rattle.progress.proofs.PlacedLemmas.{first_beyond}
use Rattle.progress.proofs.counts.insert_placed.Goals as goal
use Rattle.progress.proofs.counts.insert_placed.Goals.{then-counts+in_ok-insert_into, else-counts}

-- the step that inserts the times of one place more, if it counts
step : (c f x r : Bool) (m : Bool) → m ≡ cond c (f || x) f → (m || r) ≡ (f || (cond c x false || r))
step true false x r m e = ap (λ b. b || r) e
step true true x r m e = ap (λ b. b || r) e
step false false x r m e = ap (λ b. b || r) e
step false true x r m e = ap (λ b. b || r) e

pub loop-counts-preserved : goal.loop-counts-preserved
loop-counts-preserved g c t =
    let times = g.T.PartialOrder.times in
    let test = is_in_scope c.args.graph.now c.args.scope.now in
    let x = c.counts-item.result in
    let found = is_beyond times c.loop-counts.found.items t in
    let rest = drop (c.loop-counts.counts-index + 1) c.args.places.now in
    let others = is_beyond times (times_where test (items_in rest)) t in
    let left : drop c.loop-counts.counts-index c.args.places.now ≡ x ∷ rest = grind (arith, common_steps) in
    let now : is_beyond times c.if-counts.found.items t ≡ cond (test x.place) (found || is_beyond times x.times t) found =
    elim c.if-counts.branch [
      | then-counts+in_ok-insert_into w ↦
          ap (λ (f : Vec g.row.T.Denot Global). is_beyond times f.items t) w.found-is ∙ (w.in_ok-insert_into.ensures.beyond t
          ∙ ap (λ b. cond b (found || is_beyond times x.times t) found) (sym w.if-counts.true ∙ c.counts.ensures))
      | else-counts w ↦
          ap (λ (f : Vec g.row.T.Denot Global). is_beyond times f.items t) w.found-is
          ∙ ap (λ b. cond b (found || is_beyond times x.times t) found) (sym w.if-counts.false ∙ c.counts.ensures)
    ] in
    step (test x.place) found (is_beyond times x.times t) others (is_beyond times c.if-counts.found.items t) now
    ∙ (ap (λ b. found || b) (sym (ap (λ ps. is_beyond times (times_where test (items_in ps)) t) left ∙ first_beyond times test x rest t))
    ∙ c.loop-counts.invariant t)

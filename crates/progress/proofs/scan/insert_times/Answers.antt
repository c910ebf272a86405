use Rattle.std.proofs.Common.{◌≡◌, ◌+◌, ◌∷◌, ◌||◌, cond, drop, ap, sym, ◌∙◌, arith}
use Rattle.std.proofs.lemmas.Grind.{common_steps}
use Rattle.std.proofs.Common.{Vec}
use Rattle.std.specs.declared.alloc.Global.{Global}
use Rattle.lattice.specs.Frontiers.{is_beyond}
use Rattle.progress.specs.Scopes.{is_in_scope}
use Rattle.progress.specs.Tallies.{times_where}
use Rattle.progress.proofs.CountLemmas.{insert_step}
use Rattle.progress.proofs.scan.insert_times.Goals as goal
use Rattle.progress.proofs.scan.insert_times.Goals.{then-counts+in_ok-insert_time, else-counts}

pub loop-item-preserved : goal.loop-item-preserved
loop-item-preserved g c t =
    let times = g.T.PartialOrder.times in
    let test = is_in_scope c.args.graph.now c.args.scope.now in
    let rest = drop (c.loop-item.item-index + 1) c.args.items.now in
    let left : drop c.loop-item.item-index c.args.items.now ≡ c.item-item.result ∷ rest = grind (arith, common_steps) in
    let all = is_beyond times c.args.found.now.items t || is_beyond times (times_where test c.args.items.now) t in
    let so_far = rw left at (c.loop-item.invariant t) in
    insert_step times test c.loop-item.found.items c.if-counts.found.items c.item-item.result rest t all so_far
    (elim c.if-counts.branch [
      | then-counts+in_ok-insert_time w ↦
          ap (λ (f : Vec g.row.T.Denot Global). is_beyond times f.items t) w.found-is ∙ (w.in_ok-insert_time.ensures.beyond t
          ∙ ap (λ b. cond b (times.below c.item-item.result.time t || is_beyond times c.loop-item.found.items t) (is_beyond times c.loop-item.found.items t)) (sym w.if-counts.true ∙ c.counts.ensures))
      | else-counts w ↦
          ap (λ (f : Vec g.row.T.Denot Global). is_beyond times f.items t) w.found-is
          ∙ ap (λ b. cond b (times.below c.item-item.result.time t || is_beyond times c.loop-item.found.items t) (is_beyond times c.loop-item.found.items t)) (sym w.if-counts.false ∙ c.counts.ensures)
    ])

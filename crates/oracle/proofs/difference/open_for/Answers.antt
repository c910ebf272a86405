use Rattle.std.proofs.Common.{◌≡◌, ◌∙◌, ◌++◌, ap, sym}
use Rattle.plan.specs.Ancestors.{feeds}
use Rattle.oracle.specs.Evaluation.{list_of}
use Rattle.oracle.proofs.DifferenceLemmas.{feeds_more, feeds_same}
use Rattle.oracle.proofs.difference.open_for.Goals as goal

pub loop-n-preserved : goal.loop-n-preserved
loop-n-preserved g c =
    let p = c.args.plan.now in
    let n = c.loop-n.n in
    let view = c.args.view in
    let frontiers = list_of c.args.plan.now c.args.frontiers.now in
    let old = c.loop-n.times.items in
    let here : c.feeds.result ≡ feeds p n view = c.feeds.ensures ∙ ap (λ m. feeds p m view) c.new.ensures in
    elim c.if-feeds.branch [
      | goal.then-feeds+in_ok-extend_from_slice w ↦
          rw w.times-is (feeds_more _ p frontiers view n old w.extend_from_slice.new.self.items (sym here ∙ w.if-feeds.true) c.loop-n.invariant
          (w.in_ok-extend_from_slice.ensures.items ∙ ap (λ xs. old ++ xs) (w.frontier_of.ensures ∙ ap frontiers w.new-then-feeds.ensures)))
      | goal.else-feeds w ↦ rw w.times-is (feeds_same _ p frontiers view n old (sym here ∙ w.if-feeds.false) c.loop-n.invariant)
    ]

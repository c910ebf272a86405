use Rattle.std.proofs.Common.{◌≡◌, ◌∙◌, ap, map, sym, subst, arith}
use Rattle.plan.specs.Ancestors.{feeds}
use Rattle.oracle.specs.Evaluation.{list_of}
use Rattle.oracle.specs.JoinClosures.{HavePassed}
use Rattle.oracle.proofs.JoinClosureLemmas.{covers_next, covers_skip, covers_all, passed_none, passed_push}
use Rattle.oracle.proofs.join_closure.occurring.Goals as goal

pub loop-n-init : goal.loop-n-init
loop-n-init g c = record {
  covers = λ input l h. absurd (omega (arith, l));
  passed = subst (HavePassed g.T.PartialOrder.times c.args.frontier.now) (sym c.new-times.ensures.items) (passed_none g.T.PartialOrder.times c.args.frontier.now);
}

pub loop-n-preserved : goal.loop-n-preserved
loop-n-preserved g c =
    let times = g.T.PartialOrder.times in
    let p = c.args.plan.now in
    let n = c.loop-n.n in
    let view = c.args.view in
    let frontier = c.args.frontier.now in
    let changes = list_of c.args.plan.now (map (λ v. v.items) c.args.changes.now) in
    let old = c.loop-n.times.items in
    let here : c.feeds.result ≡ feeds p n view = c.feeds.ensures ∙ ap (λ m. feeds p m view) c.new.ensures in
    elim c.if-feeds.branch [
      | goal.then-feeds+in_ok-push_times w ↦
          let us = w.list_of.result.now in
          let same : us ≡ changes n = w.list_of.ensures ∙ ap changes w.new-then-feeds.ensures in
          rw w.times-is record {
            covers = covers_next times frontier p changes view old w.push_times.new.times.items n us same w.in_ok-push_times.ensures.times c.loop-n.invariant.covers;
            passed = passed_push times frontier old w.push_times.new.times.items (map (λ u. u.time) us) w.in_ok-push_times.ensures.times c.loop-n.invariant.passed;
          }
      | goal.else-feeds w ↦
          rw w.times-is record {
            covers = covers_skip times frontier p changes view old n (sym here ∙ w.if-feeds.false) c.loop-n.invariant.covers;
            passed = c.loop-n.invariant.passed;
          }
    ]

pub returns-clause-covers : goal.returns-clause-covers
returns-clause-covers g c =
    let changes = list_of c.args.plan.now (map (λ v. v.items) c.args.changes.now) in
    covers_all g.T.PartialOrder.times c.args.frontier.now c.args.plan.now changes c.args.view c.known.ensures.plan c.requires c.loop-n.times.items c.keep_once.new.times.items c.loop-n.n (omega arith) c.keep_once.ensures.kept c.loop-n.invariant.covers

pub returns-clause-passed : goal.returns-clause-passed
returns-clause-passed g c t h = c.loop-n.invariant.passed t (c.keep_once.ensures.among t h)

use Rattle.std.proofs.Common.{◌<◌, length, sym, subst, arith}
use Rattle.std.specs.List.Sorted.{IsStrictlySortedBy}
use Rattle.oracle.specs.JoinClosures.{HavePassed, IsClosed}
use Rattle.oracle.proofs.JoinClosureLemmas.{sorted_none, closed_none, kept_next, kept_all, passed_none}
use Rattle.oracle.proofs.join_closure.with_joins.Goals as goal

pub loop-t-init : goal.loop-t-init
loop-t-init g c = record {
  ascending = subst (λ xs. IsStrictlySortedBy g.T.Ord.cmp xs) (sym c.new-join_closure.ensures.items) (sorted_none g.T.Ord.cmp);
  closed = subst (IsClosed g.T.PartialOrder.times c.args.frontier.now) (sym c.new-join_closure.ensures.items) (closed_none g.T.PartialOrder.times c.args.frontier.now);
  passed = subst (HavePassed g.T.PartialOrder.times c.args.frontier.now) (sym c.new-join_closure.ensures.items) (passed_none g.T.PartialOrder.times c.args.frontier.now);
  kept = λ k d l. absurd (omega (arith, l));
}

-- each time has passed
pub add_time-requires-clause-time : goal.add_time-requires-clause-time
add_time-requires-clause-time g c =
    let inside : c.loop-t.t-index < length c.args.times.now = omega arith in
    c.requires c.t-item.result (c.loop-t.t-index, inside, sym c.t-item.is)

pub loop-t-preserved : goal.loop-t-preserved
loop-t-preserved g c = record {
  ascending = c.in_ok-add_time.ensures.ascending;
  closed = c.in_ok-add_time.ensures.closed;
  passed = c.in_ok-add_time.ensures.passed;
  kept = kept_next c.loop-t.join_closure.items c.add_time.new.times.items c.args.times.now c.loop-t.t-index c.t-item.result (omega arith) c.t-item.is c.in_ok-add_time.ensures.kept c.in_ok-add_time.ensures.added c.loop-t.invariant.kept;
}

pub returns-clause-kept : goal.returns-clause-kept
returns-clause-kept g c = kept_all c.loop-t.join_closure.items c.args.times.now c.loop-t.t-index (omega arith) c.loop-t.invariant.kept

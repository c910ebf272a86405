use Rattle.oracle.proofs.JoinClosureLemmas.{added_closed, added_old, added_passed}
use Rattle.oracle.proofs.join_closure.add_time.Goals as goal

pub returns-clause-closed : goal.returns-clause-closed
returns-clause-closed g c =
    added_closed g.met.T.PartialOrder.order g.met.T.Lattice.bounds c.args.frontier.now c.args.times.now.items c.push_joins.new.times.items c.push.new.self.items c.keep_once.new.times.items c.args.t
    c.in_ok-push_joins.ensures.joins c.in_ok-push.ensures.items c.keep_once.ensures.kept c.keep_once.ensures.among c.requires.closed

pub returns-clause-passed : goal.returns-clause-passed
returns-clause-passed g c =
    added_passed g.met.T.PartialOrder.order g.met.T.Lattice.bounds c.args.frontier.now c.args.times.now.items c.push_joins.new.times.items c.push.new.self.items c.keep_once.new.times.items c.args.t
    c.in_ok-push_joins.ensures.joins c.in_ok-push.ensures.items c.keep_once.ensures.kept c.keep_once.ensures.among c.requires.passed c.requires.time

pub returns-clause-kept : goal.returns-clause-kept
returns-clause-kept g c =
    added_old g.met.T.PartialOrder.order g.met.T.Lattice.bounds c.args.frontier.now c.args.times.now.items c.push_joins.new.times.items c.push.new.self.items c.keep_once.new.times.items c.args.t
    c.in_ok-push_joins.ensures.joins c.in_ok-push.ensures.items c.keep_once.ensures.kept

use Rattle.std.proofs.Common.{IsTrue, sym, ◌∙◌}
use Rattle.joined_times.proofs.AdditionLemmas.{pushed_within, pushed_beyond, pushed_late}
use Rattle.joined_times.proofs.times.push_to_part.Goals as goal

pub returns-in_ok-push_unless_last-clause-members : goal.returns-in_ok-push_unless_last-clause-members
returns-in_ok-push_unless_last-clause-members g c s =
    pushed_beyond c.args.t s c.args.within.now.items c.args.beyond.now.items c.push_unless_last.new.times.items c.in_ok-push_unless_last.ensures.appended

pub returns-in_ok-push_unless_last-clause-beyond : goal.returns-in_ok-push_unless_last-clause-beyond
returns-in_ok-push_unless_last-clause-beyond g c =
    pushed_late (λ r. IsTrue (g.T.PartialOrder.times.below c.args.join r)) c.args.t c.args.beyond.now.items c.push_unless_last.new.times.items c.in_ok-push_unless_last.ensures.appended
    (sym c.less_equal.ensures ∙ c.if-less_equal.true)

pub returns-in_ok-push_unless_last-2-clause-members : goal.returns-in_ok-push_unless_last-2-clause-members
returns-in_ok-push_unless_last-2-clause-members g c s =
    pushed_within c.args.t s c.args.within.now.items c.args.beyond.now.items c.push_unless_last-else-less_equal.new.times.items c.in_ok-push_unless_last-2.ensures.appended

use Rattle.std.proofs.Common.{[], ◌++◌, drop, ◌∙◌, refl}
use Rattle.update.proofs.ConsolidatedLemmas.{sorted_by_time}
use Rattle.key_history.proofs.ReplayLemmas.{ever_none, ever_sorted}
use Rattle.key_history.proofs.replay.Replay.of.Goals as goal

pub returns-clause-ascending : goal.returns-clause-ascending
returns-clause-ascending g c = sorted_by_time g.met.T.Ord.total _ c.in_ok-sort.ensures.sorted

pub returns-clause-stands : goal.returns-clause-stands
returns-clause-stands g c =
    let times = g.T.PartialOrder.times in
    let p = c.put_from.new.self in
    let first = c.in_ok-put_all.ensures.put [] (ever_none times [] (c.new.result.items ++ c.new-2.result.items) refl (rw (c.new.ensures.items, c.new-2.ensures.items) refl)) in
    let both = c.in_ok-put_from.ensures.put c.args.updates.now first in
    rw (c.put_from.ensures.entered ∙ c.put_all.ensures.entered)
    (ever_sorted times (c.args.updates.now ++ drop c.args.from c.args.given.now) p.near.items p.later.items c.sort.new.self.items both c.in_ok-sort.ensures.permutation)

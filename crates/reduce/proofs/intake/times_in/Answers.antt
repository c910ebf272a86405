use Rattle.std.proofs.Common.{rules}
use Rattle.reduce.proofs.RunLemmas.{range_mapped}
use Rattle.reduce.proofs.intake.times_in.Goals as goal

pub loop-i-preserved : goal.loop-i-preserved
loop-i-preserved g c =
    range_mapped (λ u. u.time) (g.B.BatchReader.content c.args.batch.now) c.args.run.start c.loop-i.i c.loop-i.times.items c.push.new.self.items c.time.result c.loop-i.auto.i (search rules) c.time.ensures c.loop-i.invariant c.in_ok-push.ensures.items

use Rattle.std.proofs.Common.{◌∙◌, false, rules}
use Rattle.reduce.specs.Seen.{as_seen}
use Rattle.reduce.proofs.KeyRowLemmas.{range_pushed}
use Rattle.reduce.proofs.key_rows.read_blind.Goals as goal

pub loop-i-preserved : goal.loop-i-preserved
loop-i-preserved g c =
    c.in_ok-push.ensures.items
    ∙ range_pushed (as_seen false c.args.key.now) (g.B.BatchReader.content c.args.batch.now) c.args.rows.now.items c.loop-i.rows.items _ c.args.range.start c.loop-i.i c.loop-i.auto.i (search rules) (search rules) c.loop-i.invariant

use Rattle.std.proofs.Common.{rules}
use Rattle.columns.proofs.CopyLemmas.{copies_with_next}
use Rattle.columns.proofs.columns.Columns.push_columns.Goals as goal

pub loop-i-preserved : goal.loop-i-preserved
loop-i-preserved g c =
    let i = c.loop-i in
    copies_with_next c.args.more.now i.i (search rules) c.copy.result c.copy.ensures c.args.self.now i.self c.push.new.self i.invariant c.in_ok-push.ensures.more

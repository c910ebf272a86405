use Rattle.std.proofs.Common.{[], rules}
use Rattle.columns.proofs.CopyLemmas.{copies_with_next}
use Rattle.columns.proofs.columns.Columns.to_vec.Goals as goal

pub loop-i-preserved : goal.loop-i-preserved
loop-i-preserved g c =
    let i = c.loop-i in
    copies_with_next c.args.self.now i.i (search rules) c.copy.result c.copy.ensures [] i.list.items c.push.new.self.items i.invariant c.in_ok-push.ensures.items

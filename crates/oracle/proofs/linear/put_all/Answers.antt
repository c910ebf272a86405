use Rattle.std.proofs.Common.{arith}
use Rattle.oracle.proofs.PutLemmas.{no_entry, put_next}
use Rattle.oracle.proofs.linear.put_all.Goals as goal

pub loop-i-preserved : goal.loop-i-preserved
loop-i-preserved c =
    put_next c.args.entries.now c.loop-i.entries c.put_entry.new.entries c.args.bag.now c.loop-i.i no_entry (omega arith)
    c.loop-i.invariant (c.in_ok-put_entry.ensures.put no_entry)

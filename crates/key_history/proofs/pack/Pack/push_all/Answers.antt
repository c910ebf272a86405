use Rattle.std.proofs.Common.{◌<◌, length, arith}
use Rattle.key_history.proofs.PackLemmas.{range_pushed}
use Rattle.key_history.proofs.pack.Pack.push_all.Goals as goal

pub loop-i-preserved : goal.loop-i-preserved
loop-i-preserved g c =
    let out = c.args.out.now in
    let i = c.loop-i.i in
    let test = c.loop-i-test.true in
    let end = c.requires in
    let within : i < length out = omega (arith, test, end) in
    range_pushed out c.args.part.start i c.loop-i.auto.i within c.args.self.now _ _ c.loop-i.invariant c.in_ok-push_from.ensures.more

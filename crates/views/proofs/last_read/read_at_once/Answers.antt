use Rattle.std.proofs.Common.{◌≡◌, length, ap, rules, arith}
use Rattle.views.proofs.CapturedLemmas.{later_few}
use Rattle.views.proofs.last_read.read_at_once.Goals as goal

pub overflow_sub-len : goal.overflow_sub-len
overflow_sub-len g c =
    let few = later_few g.T.PartialOrder.times c.args.t c.args.captured.now c.len.result in
    let later = ap length c.in_ok-push_later.ensures.later in
    let first = c.len.ensures in
    let all = c.len-2.ensures in
    let size : c.len-3.result ≡ length c.push_later.new.later.items = search rules in
    omega (arith, few, later, first, all, size)

use Rattle.std.proofs.Common.{rules, ◌≡◌, ◌<◌, ◌-◌, length, false, pos, w64, to_z, of_z, get_or}
use Rattle.std.specs.Ordering.{int_eq}
use Rattle.join.proofs.LastLemmas.{set_is}
use Rattle.join.proofs.formed.set_last.Goals as goal

pub returns-else-sum-eq0 : goal.returns-else-sum-eq0
returns-else-sum-eq0 g c =
    let us = c.args.updates.now.items in
    let n = c.len-last.result in
    let long : n ≡ length us = search rules in
    let some : 0 < length us = search rules in
    let fits : to_z w64 (of_z w64 c.args.sum) ≡ c.args.sum = search rules in
    let other : int_eq c.args.sum (pos 0) ≡ false = search rules in
    let read : c.index_mut.result.now ≡ get_or us (n - 1) c.index_mut.result.now = search rules in
    set_is us n c.index_mut.result.now c.args.sum _ long some read fits other

use Rattle.std.proofs.Common.{length, ap, arith}
use Rattle.std.proofs.lemmas.List.{length-append}
use Rattle.progress.specs.CountLists.{listed}
use Rattle.progress.proofs.entries.Entries.put.Goals as goal

pub put_in_list-requires : goal.put_in_list-requires
put_in_list-requires g c =
    let both = length-append (listed c.self.inside.few.items) (listed c.self.inside.others.entries) in
    let same = ap length c.self.view_is in
    omega (arith, both, same, c.requires)

pub put_in_tree-requires : goal.put_in_tree-requires
put_in_tree-requires g c =
    let both = length-append (listed c.self.inside.few.items) (listed c.self.inside.others.entries) in
    let same = ap length c.self.view_is in
    omega (arith, both, same, c.requires)

use Rattle.std.proofs.Common.{rules, ◌≡◌, w64, to_z, of_z}
use Rattle.join.proofs.LastLemmas.{added_stands}
use Rattle.join.proofs.formed.push_or_add.Goals as goal

pub returns-in-Some-clause-stands : goal.returns-in-Some-clause-stands
returns-in-Some-clause-stands g c =
    let fits : to_z w64 (of_z w64 c.in-Some.sum) ≡ c.in-Some.sum = search rules in
    added_stands g.met.T.Lattice.extends.exact c.args.updates.now.items c.set_last.new.updates.items c.args.pair c.in-Some.sum (to_z w64 (of_z w64 c.in-Some.sum)) fits (rw c.as_slice.ensures.value at c.in-Some.ensures.some) (rw c.as_slice.ensures.value at c.in-Some.ensures.sum) c.set_last.ensures

use Rattle.std.proofs.Common.{◌∷◌, length, ap, arith}
use Rattle.std.proofs.lemmas.List.{length-append}
use Rattle.progress.proofs.CountListLemmas.{same_length}
use Rattle.progress.proofs.time_counts.TimeCounts.add.Goals as goal

pub invariant_of-self-2 : goal.invariant_of-self-2
invariant_of-self-2 g c =
    let l = same_length c.put.new.self (c.args.t ∷ c.self.inside.entries) c.in_default.ensures.counted in
    let now = length-append c.put.new.self c.make_room.new.moved.items in
    let was = length-append c.self.inside.entries c.self.inside.moved.items in
    let same = ap length c.in_ok-make_room.ensures.items in
    (omega (arith, l, now, was, same, c.self.invariant.0), omega (arith, c.in_ok-make_room.ensures.room))

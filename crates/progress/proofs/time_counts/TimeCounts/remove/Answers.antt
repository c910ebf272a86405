use Rattle.std.proofs.Common.{◌∷◌, ◌++◌, arith}
use Rattle.progress.proofs.CountListLemmas.{same_length}
use Rattle.progress.proofs.time_counts.TimeCounts.remove.Goals as goal

pub invariant_of-self : goal.invariant_of-self
invariant_of-self g c =
    let l = same_length (c.args.t.now ∷ (c.take.new.entries ++ c.take.new.moved.items)) (c.self.inside.entries ++ c.self.inside.moved.items) c.take.ensures.counted in
    (omega (arith, l, c.self.invariant.0), omega (arith, c.self.invariant.1, c.take.ensures.room))

use Rattle.std.proofs.Common.{◌++◌, take, sym, subst}
use Rattle.progress.specs.Tallies.{SameCounts}
use Rattle.progress.specs.Several.{items_at}
use Rattle.progress.proofs.SeveralLemmas.{taken_back}
use Rattle.progress.proofs.tally.Tally.add_all.Goals as goal

pub remove_all-requires : goal.remove_all-requires
remove_all-requires g c = record {
  rest = c.args.self.now.items;
  counts = subst (λ xs. SameCounts xs (items_at c.args.place.now (take c.loop-number.number c.args.times.now) ++ c.args.self.now.items)) (sym c.in-Err.ensures.unchanged) c.loop-number.invariant.0;
}

pub returns-in-Err-clause-unchanged : goal.returns-in-Err-clause-unchanged
returns-in-Err-clause-unchanged g c =
    taken_back c.args.place.now (take c.loop-number.number c.args.times.now) c.args.self.now.items c.add.new.self.items c.remove_all.new.self.items
    (subst (λ xs. SameCounts xs (items_at c.args.place.now (take c.loop-number.number c.args.times.now) ++ c.args.self.now.items)) (sym c.in-Err.ensures.unchanged) c.loop-number.invariant.0)
    c.remove_all.ensures.counted

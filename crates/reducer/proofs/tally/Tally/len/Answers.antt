use Rattle.std.proofs.Common.{ap, length, subst, arith}
use Rattle.reducer.specs.Tallies.{AreInOrder}
use Rattle.reducer.proofs.TallyLemmas.{tallied_length, tallied_order}
use Rattle.reducer.proofs.tally.Tally.len.Goals as goal

pub returns-clause-len : goal.returns-clause-len
returns-clause-len c =
    let long = tallied_length c.self.inside.rows.items c.self.inside.counts.items c.self.invariant.lengths in
    let seen = ap length c.self.view_is in
    omega (arith, long, seen, c.len.ensures)

pub returns-clause-order : goal.returns-clause-order
returns-clause-order c = subst AreInOrder c.self.view_is (tallied_order c.self.inside.rows.items c.self.inside.counts.items c.self.invariant.ascending)

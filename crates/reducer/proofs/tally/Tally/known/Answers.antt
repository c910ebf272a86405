use Rattle.std.proofs.Common.{subst}
use Rattle.reducer.specs.Tallies.{AreInOrder}
use Rattle.reducer.proofs.TallyLemmas.{tallied_order}
use Rattle.reducer.proofs.tally.Tally.known.Goals as goal

pub returns : goal.returns
returns c = record { order = subst AreInOrder c.self.view_is (tallied_order c.self.inside.rows.items c.self.inside.counts.items c.self.invariant.ascending) }

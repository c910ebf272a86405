use Rattle.std.proofs.Common.{length, sym, subst}
use Rattle.reduce.specs.Histories.{ReduceView}
use Rattle.reduce.specs.Visits.{AreWithin}
use Rattle.reduce.proofs.state.ReduceState.commit.Goals as goal

pub change_all-requires-clause-within : goal.change_all-requires-clause-within
change_all-requires-clause-within g c =
    subst (λ (v : ReduceView g.row.T.Denot g.row.R.Denot). AreWithin (length v.histories) c.args.gathered.changes.items) (sym c.self.view_is) c.requires.within

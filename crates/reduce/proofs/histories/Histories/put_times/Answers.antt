use Rattle.std.proofs.Common.{refl, ap}
use Rattle.reduce.specs.Histories.{HistoriesState, times_put}
use Rattle.reduce.proofs.CommitLemmas.{changed_there, keys_stay}
use Rattle.reduce.proofs.histories.Histories.put_times.Goals as goal

-- the history keeps its key
pub invariant_of-self : goal.invariant_of-self
invariant_of-self g c =
    keys_stay c.args.i (times_put c.args.times.items c.args.due.items) c.self.inside.histories.items c.args.self.now.items c.index_mut-history.result.now c.put_times.new.self (ap (λ (s : HistoriesState g.row.T.Denot). s.items) c.self.view_is) c.requires c.index_mut-history.ensures.value c.put_times.ensures
    c.self.inside.keys.keys (λ h. refl) c.self.invariant

pub returns-clause-items : goal.returns-clause-items
returns-clause-items g c =
    changed_there c.args.i (times_put c.args.times.items c.args.due.items) c.self.inside.histories.items c.args.self.now.items c.index_mut-history.result.now c.put_times.new.self (ap (λ (s : HistoriesState g.row.T.Denot). s.items) c.self.view_is) c.requires c.index_mut-history.ensures.value c.put_times.ensures

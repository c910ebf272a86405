use Rattle.std.proofs.Common.{refl, ap}
use Rattle.reduce.specs.Histories.{HistoriesState, given_less}
use Rattle.reduce.proofs.CommitLemmas.{changed_there, keys_stay}
use Rattle.reduce.proofs.histories.Histories.take_back.Goals as goal

-- the history keeps its key
pub invariant_of-self : goal.invariant_of-self
invariant_of-self g c =
    keys_stay c.args.i (given_less c.args.many) c.self.inside.histories.items c.args.self.now.items c.index_mut-history.result.now c.take_back.new.self (ap (λ (s : HistoriesState g.row.T.Denot). s.items) c.self.view_is) c.requires c.index_mut-history.ensures.value c.take_back.ensures
    c.self.inside.keys.keys (λ h. refl) c.self.invariant

pub returns : goal.returns
returns g c =
    changed_there c.args.i (given_less c.args.many) c.self.inside.histories.items c.args.self.now.items c.index_mut-history.result.now c.take_back.new.self (ap (λ (s : HistoriesState g.row.T.Denot). s.items) c.self.view_is) c.requires c.index_mut-history.ensures.value c.take_back.ensures

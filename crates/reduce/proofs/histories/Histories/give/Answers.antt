use Rattle.std.proofs.Common.{refl, ap}
use Rattle.std.specs.List.{slice_range}
use Rattle.reduce.specs.Histories.{HistoriesState, given_more}
use Rattle.reduce.proofs.CommitLemmas.{changed_there, keys_stay}
use Rattle.reduce.proofs.histories.Histories.give.Goals as goal

-- the history keeps its key
pub invariant_of-self-2 : goal.invariant_of-self-2
invariant_of-self-2 g c =
    keys_stay c.args.i (given_more (slice_range c.args.out.now c.args.part.start c.args.part.end)) c.self.inside.histories.items c.args.self.now.items c.index_mut-history.result.now c.give.new.self (ap (λ (s : HistoriesState g.row.T.Denot). s.items) c.self.view_is) c.requires.there c.index_mut-history.ensures.value c.in_ok-give.ensures.given
    c.self.inside.keys.keys (λ h. refl) c.self.invariant

pub returns-clause-items : goal.returns-clause-items
returns-clause-items g c =
    changed_there c.args.i (given_more (slice_range c.args.out.now c.args.part.start c.args.part.end)) c.self.inside.histories.items c.args.self.now.items c.index_mut-history.result.now c.give.new.self (ap (λ (s : HistoriesState g.row.T.Denot). s.items) c.self.view_is) c.requires.there c.index_mut-history.ensures.value c.in_ok-give.ensures.given

use Rattle.columns.proofs.KeyLemmas.{ends_in_order, range_is_filter, front_before, end_after}
use Rattle.columns.proofs.columns.Columns.range_of.Goals as goal

pub returns-clause-ordered : goal.returns-clause-ordered
returns-clause-ordered g c =
    ends_in_order g.T.Ord.cmp c.args.key.now c.args.self.now _ _ c.split.ensures.within c.split.ensures.parted c.split-2.ensures.parted

pub returns-clause-exact : goal.returns-clause-exact
returns-clause-exact g c =
    range_is_filter g.T.Ord.cmp c.args.key.now c.args.self.now _ _ (returns-clause-ordered g c) c.split.ensures.parted c.split-2.ensures.parted

pub returns-clause-before : goal.returns-clause-before
returns-clause-before g c =
    front_before g.T.Ord.cmp c.args.key.now c.args.self.now c.split.result c.split.ensures.parted

pub returns-clause-behind : goal.returns-clause-behind
returns-clause-behind g c =
    end_after g.T.Ord.cmp c.args.key.now c.args.self.now c.split-2.result c.split-2.ensures.parted

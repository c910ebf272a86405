use Rattle.columns.proofs.KeyLemmas.{ends_in_order, range_is_filter}
use Rattle.columns.proofs.PlaceLemmas.{run_place_within, run_place_order}
use Rattle.columns.proofs.columns.Columns.key_runs.Goals as goal

pub returns-clause-ordered : goal.returns-clause-ordered
returns-clause-ordered g c =
    run_place_order c.args.self.now c.run_split.result c.run_split-2.result c.run_split.ensures.within
    (ends_in_order g.T.Ord.cmp c.args.key.now c.args.self.now _ _ (run_place_within c.args.self.now c.run_split.result) c.run_split.ensures.parted c.run_split-2.ensures.parted)

pub returns-clause-exact : goal.returns-clause-exact
returns-clause-exact g c =
    range_is_filter g.T.Ord.cmp c.args.key.now c.args.self.now _ _
    (ends_in_order g.T.Ord.cmp c.args.key.now c.args.self.now _ _ (run_place_within c.args.self.now c.run_split.result) c.run_split.ensures.parted c.run_split-2.ensures.parted)
    c.run_split.ensures.parted c.run_split-2.ensures.parted

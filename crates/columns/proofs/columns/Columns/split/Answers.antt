use Rattle.std.proofs.Common.{◌≡◌, sym, subst, true, false}
use Rattle.std.specs.List.Sorted.{IsPartitionPoint}
use Rattle.columns.specs.Keys.{is_left_behind}
use Rattle.columns.proofs.columns.Columns.split.Goals as goal

pub returns-clause-parted : goal.returns-clause-parted
returns-clause-parted g c =
    subst
    (λ n. IsPartitionPoint (λ u. is_left_behind c.args.key.now c.args.through u ≡ true) (λ u. is_left_behind c.args.key.now c.args.through u ≡ false) c.args.self.now n)
    (sym c.run_start.ensures.place)
    c.run_split.ensures.parted

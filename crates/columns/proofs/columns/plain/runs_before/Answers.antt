use Rattle.std.proofs.Common.{suc, leb, rules}
use Rattle.std.proofs.lemmas.List.Sorted.{IsPartitionPoint-from_clause}
use Rattle.columns.proofs.TruncateLemmas.{starts_parted_before, point_of_tests}
use Rattle.columns.proofs.columns.plain.runs_before.Goals as goal

pub returns-clause-parted : goal.returns-clause-parted
returns-clause-parted c =
    let starts = c.args.starts.now in
    let place = c.args.place in
    let point = IsPartitionPoint-from_clause (λ s. leb (suc s) place) _ _ c.partition_point.ensures.partitioned (starts_parted_before place starts c.requires) (λ a r q k. search rules) in
    point_of_tests place starts c.partition_point.result point

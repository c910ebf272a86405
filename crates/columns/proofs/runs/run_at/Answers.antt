use Rattle.std.proofs.Common.{◌-◌, leb, ap, sym, rules, arith}
use Rattle.std.proofs.lemmas.List.Sorted.{IsPartitionPoint-from_clause}
use Rattle.columns.proofs.RunLemmas.{starts_parted, counted_at, counts, some_first}
use Rattle.columns.proofs.runs.run_at.Goals as goal

pub overflow_sub-result : goal.overflow_sub-result
overflow_sub-result c =
    let starts = c.args.starts.now in
    let place = c.args.place in
    let point = IsPartitionPoint-from_clause (λ s. leb s place) _ _ c.partition_point.ensures.partitioned (starts_parted place starts c.requires.ascending) (λ a r q k. search rules) in
    let count = counted_at place starts c.partition_point.result c.requires.ascending c.partition_point.ensures.bound point in
    let some = some_first starts c.requires.first in
    let first = counts place starts c.requires.ascending 0 1 some (let e = c.requires.first in omega (arith, e)) in
    omega (arith, count, first)

pub returns-clause-number : goal.returns-clause-number
returns-clause-number c =
    let starts = c.args.starts.now in
    let place = c.args.place in
    let point = IsPartitionPoint-from_clause (λ s. leb s place) _ _ c.partition_point.ensures.partitioned (starts_parted place starts c.requires.ascending) (λ a r q k. search rules) in
    let count = counted_at place starts c.partition_point.result c.requires.ascending c.partition_point.ensures.bound point in
    ap (λ n. n - 1) (sym count)

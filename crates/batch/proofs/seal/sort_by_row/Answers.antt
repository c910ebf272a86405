use Rattle.std.proofs.Common.{rules}
use Rattle.std.specs.Ordering.{is_lt}
use Rattle.std.proofs.lemmas.Fn.{always_returns_same}
use Rattle.std.proofs.lemmas.List.Sorted.{ranks_by}
use Rattle.batch.specs.Batches.{by_row_then_time}
use Rattle.batch.proofs.SealLemmas.{by_row_total}
use Rattle.batch.proofs.seal.sort_by_row.Goals as goal

pub returns-clause-sorted : goal.returns-clause-sorted
returns-clause-sorted g c =
    c.sort_unstable_by.ensures.sorted (λ u v. is_lt (by_row_then_time g.T.Ord.cmp u v)) (ranks_by (by_row_total g.met.T.Ord.total) (λ u. u)) (always_returns_same _ _ _ (λ a r f' k. search rules))

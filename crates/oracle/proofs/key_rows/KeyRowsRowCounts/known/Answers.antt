use Rattle.std.proofs.Common.{subst}
use Rattle.std.specs.Cmp.Lexicographic.{slice_cmp}
use Rattle.std.specs.Ordering.{int_cmp}
use Rattle.reducer.specs.Tallies.{AreInOrder}
use Rattle.oracle.proofs.RangeLemmas.{sorted_range}
use Rattle.oracle.proofs.key_rows.KeyRowsRowCounts.known.Goals as goal

pub returns : goal.returns
returns c =
    let rows = c.self.inside in
    record { order = subst AreInOrder c.self.view_is (sorted_range (λ a b. slice_cmp int_cmp a.row b.row) rows.from rows.to rows.bag.now c.known.ensures.bag.ascending) }

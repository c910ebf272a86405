use Rattle.std.proofs.Common.{◌≡◌, length, subst}
use Rattle.std.specs.Prelude.{IfOk}
use Rattle.std.specs.List.{HoldsAt}
use Rattle.std.specs.List.Sorted.{IsBinarySearchResult, IsSearchInRange}
use Rattle.std.specs.Cmp.Lexicographic.{slice_cmp}
use Rattle.std.specs.Ordering.{int_cmp}
use Rattle.std.specs.declared.cmp.Ordering.TheVariants.{Equal}
use Rattle.reducer.proofs.TallyLemmas.{found_row, not_found}
use Rattle.reducer.proofs.tally.Tally.place_of.Goals as goal

pub returns-clause-place : goal.returns-clause-place
returns-clause-place c =
    let rows = c.self.inside.rows.items in
    let r = c.binary_search.result in
    let row = c.args.row.now in
    rw (c.ok.ensures.value, ← c.self.view_is)
    (found_row rows c.self.inside.counts.items row r c.self.invariant.lengths
    (subst (λ xs. IsSearchInRange r (length xs)) c.as_slice.ensures.value c.binary_search.ensures.bound)
    (subst (λ xs. IfOk r (HoldsAt (λ y. slice_cmp int_cmp y row ≡ Equal) xs)) c.as_slice.ensures.value c.binary_search.ensures.ok))

pub returns-clause-none : goal.returns-clause-none
returns-clause-none c =
    let rows = c.self.inside.rows.items in
    let r = c.binary_search.result in
    let row = c.args.row.now in
    rw (c.ok.ensures.value, ← c.self.view_is)
    (not_found rows c.self.inside.counts.items row r c.self.invariant.lengths c.self.invariant.ascending
    (subst (λ xs. IsBinarySearchResult (λ y. slice_cmp int_cmp y row) xs r) c.as_slice.ensures.value c.binary_search.ensures.position))

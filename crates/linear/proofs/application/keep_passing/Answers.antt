use Rattle.std.proofs.Common.{length, ◌∙◌, sym, arith}
use Rattle.std.proofs.lemmas.Bool.{and_parts}
use Rattle.std.proofs.lemmas.List.Filters.{FiltersInPlace-more_swap, FiltersInPlace-more_no}
use Rattle.row.specs.Projection.{is_within}
use Rattle.row.specs.Filters.{is_test_within}
use Rattle.linear.proofs.LoopLemmas.{read_passes_from}
use Rattle.linear.proofs.application.keep_passing.Goals as goal

pub holds-requires-clause-left : goal.holds-requires-clause-left
holds-requires-clause-left g c =
    let test = c.args.test.now in
    let u = c.index.result.now in
    let long = c.loop-next.invariant.long in
    let both = read_passes_from (λ u. is_test_within test (length u.row)) c.args.updates.now.items c.loop-next.updates.items c.loop-next.next u (omega arith) long c.loop-next.invariant.rest c.index.ensures c.requires in
    (and_parts (is_within test.left (length u.row)) (is_within test.right (length u.row)) both).0

pub holds-requires-clause-right : goal.holds-requires-clause-right
holds-requires-clause-right g c =
    let test = c.args.test.now in
    let u = c.index.result.now in
    let long = c.loop-next.invariant.long in
    let both = read_passes_from (λ u. is_test_within test (length u.row)) c.args.updates.now.items c.loop-next.updates.items c.loop-next.next u (omega arith) long c.loop-next.invariant.rest c.index.ensures c.requires in
    (and_parts (is_within test.left (length u.row)) (is_within test.right (length u.row)) both).1

pub loop-next-preserved : goal.loop-next-preserved
loop-next-preserved g c = elim c.if-holds.branch [
  | goal.then-holds w ↦ rw (w.updates-is, w.kept-is) (FiltersInPlace-more_swap c.loop-next.invariant (omega arith) (sym c.holds.ensures ∙ w.if-holds.true) c.index.ensures w.swap.ensures.by_index)
  | goal.else-holds w ↦ rw (w.updates-is, w.kept-is) (FiltersInPlace-more_no c.loop-next.invariant (omega arith) (sym c.holds.ensures ∙ w.if-holds.false) c.index.ensures)
]

use Rattle.std.proofs.Common.{◌≡◌, ◌<◌, ◌∙◌, List, ℤ, length, slice_index_or, IsTrue, ap, sym, subst, arith}
use Rattle.std.proofs.lemmas.Bool.{and_parts}
use Rattle.row.specs.Projection.{is_within}
use Rattle.row.specs.Filters.{passes, is_test_within}
use Rattle.oracle.proofs.PutLemmas.{no_entry, passes_at, put_kept, put_left}
use Rattle.oracle.proofs.linear.put_passing.Goals as goal

pub holds-requires-clause-left : goal.holds-requires-clause-left
holds-requires-clause-left c =
    let test = c.args.test.now in
    let e = slice_index_or c.args.bag.now c.loop-i.i no_entry in
    let inside : c.loop-i.i < length c.args.bag.now = omega arith in
    let both = passes_at (λ e. is_test_within test (length e.row)) c.args.bag.now c.loop-i.i no_entry inside c.requires.within in
    subst (λ (row : List ℤ). IsTrue (is_within test.left (length row))) (sym (c.row_at.ensures no_entry)) (and_parts (is_within test.left (length e.row)) (is_within test.right (length e.row)) both).0

pub holds-requires-clause-right : goal.holds-requires-clause-right
holds-requires-clause-right c =
    let test = c.args.test.now in
    let e = slice_index_or c.args.bag.now c.loop-i.i no_entry in
    let inside : c.loop-i.i < length c.args.bag.now = omega arith in
    let both = passes_at (λ e. is_test_within test (length e.row)) c.args.bag.now c.loop-i.i no_entry inside c.requires.within in
    subst (λ (row : List ℤ). IsTrue (is_within test.right (length row))) (sym (c.row_at.ensures no_entry)) (and_parts (is_within test.left (length e.row)) (is_within test.right (length e.row)) both).1

pub loop-i-preserved : goal.loop-i-preserved
loop-i-preserved c =
    let test = c.args.test.now in
    let bag = c.args.bag.now in
    let i = c.loop-i.i in
    let old = c.args.entries.now in
    let mid = c.loop-i.entries in
    let inside : i < length bag = omega arith in
    let here : c.holds.result ≡ passes test (slice_index_or bag i no_entry).row = c.holds.ensures ∙ ap (passes test) (c.row_at.ensures no_entry) in
    elim c.if-holds.branch [
      | goal.then-holds+in_ok-put_entry w ↦ rw w.entries-is (put_kept (λ e. passes test e.row) old mid w.put_entry.new.entries bag i no_entry inside (sym here ∙ w.if-holds.true) c.loop-i.invariant (w.in_ok-put_entry.ensures.put no_entry))
      | goal.else-holds w ↦ rw w.entries-is (put_left (λ e. passes test e.row) old mid bag i no_entry inside (sym here ∙ w.if-holds.false) c.loop-i.invariant)
    ]

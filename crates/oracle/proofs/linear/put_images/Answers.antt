use Rattle.std.proofs.Common.{◌≡◌, ◌<◌, ◌∙◌, ◌∷◌, ◌++◌, [], List, ℤ, length, slice_index_or, IsTrue, ap, sym, subst, to_z, of_z, w64, FitsSigned, rules, arith}
use Rattle.std.proofs.lemmas.Int.{to_z-of_z}
use Rattle.row.specs.Projection.{projection, are_within}
use Rattle.plan.specs.Operators.{mapped_entry}
use Rattle.update.specs.Bags.{entry_of}
use Rattle.oracle.proofs.PutLemmas.{no_entry, passes_at, put_more}
use Rattle.oracle.proofs.linear.put_images.Goals as goal

pub project-image-requires-clause-within : goal.project-image-requires-clause-within
project-image-requires-clause-within c =
    let items = c.args.items.now in
    let inside : c.loop-i.i < length c.args.bag.now = omega arith in
    subst (λ (row : List ℤ). IsTrue (are_within items (length row))) (sym (c.row_at.ensures no_entry))
    (passes_at (λ e. are_within items (length e.row)) c.args.bag.now c.loop-i.i no_entry inside c.requires.within)

pub loop-i-preserved : goal.loop-i-preserved
loop-i-preserved c =
    let items = c.args.items.now in
    let e = slice_index_or c.args.bag.now c.loop-i.i no_entry in
    let inside : c.loop-i.i < length c.args.bag.now = omega arith in
    let fits : FitsSigned w64 c.count_at.result = search rules in
    let row : c.project-image.result ≡ projection items e.row = c.project-image.ensures ∙ ap (projection items) (c.row_at.ensures no_entry) in
    let count : to_z w64 (of_z w64 c.count_at.result) ≡ e.count = to_z-of_z w64 c.count_at.result fits ∙ c.count_at.ensures no_entry in
    let mid = c.loop-i.entries in
    put_more (mapped_entry items) c.args.entries.now mid c.push.new.self c.args.bag.now c.loop-i.i no_entry inside
    c.loop-i.invariant (c.in_ok-push.ensures.added ∙ (λ j. mid ++ entry_of (row j) (count j) ∷ []))

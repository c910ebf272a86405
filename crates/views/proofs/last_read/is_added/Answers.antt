use Rattle.std.proofs.Common.{IsSomeAnd, slice_get, map, ap, subst, ◌≡◌, ◌∙◌, ◌++◌, ◌∷◌, [], to_z, of_z, w64, rules}
use Rattle.std.proofs.lemmas.Int.{to_z-of_z}
use Rattle.update.specs.Bags.{Alike, count_of, entry_of}
use Rattle.update.specs.Updates.{entry}
use Rattle.views.proofs.CapturedLemmas.{of_last, of_row}
use Rattle.views.proofs.last_read.is_added.Goals as goal

pub returns-clause-added : goal.returns-clause-added
returns-clause-added g c holds =
    let us = c.args.arrived.now.items in
    let new = c.add_at.new.arrived.items in
    let place = c.in-Some.place in
    let found = subst (λ vs. IsSomeAnd (slice_get vs place) (λ x. IsSomeAnd (slice_get c.args.captured.now c.args.position) (λ u. u.row ≡ x.row))) c.as_slice.ensures.value c.in-Some.ensures in
    of_last (slice_get us place) found
    (λ x at rows. of_row (slice_get c.args.captured.now c.args.position) x.row c.diff.result (map entry new) (map entry us) rows c.diff.ensures
    (λ row. subst (λ o. IsSomeAnd o (λ v. Alike (map entry new) (map entry us ++ entry_of v.row (to_z w64 (of_z w64 c.diff.result)) ∷ []))) at (c.add_at.ensures.added holds) row
    ∙ ap (λ n. count_of (map entry us ++ entry_of x.row n ∷ []) row) (to_z-of_z w64 c.diff.result (search rules))))

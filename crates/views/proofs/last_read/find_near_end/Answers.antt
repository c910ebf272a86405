use Rattle.std.proofs.Common.{◌-◌, ◌≡◌, Some, IsSomeAnd, length, slice_get, subst, sym, refl, arith, rules}
use Rattle.std.proofs.lemmas.Option.{slice_get_read}
use Rattle.views.proofs.CapturedLemmas.{same_rows}
use Rattle.views.proofs.last_read.find_near_end.Goals as goal

pub returns-then-has_row : goal.returns-then-has_row
returns-then-has_row g c =
    let us = c.args.arrived.now in
    let place = c.loop-place.place - 1 in
    let x = c.index-arrived-place.result in
    let is = c.index-arrived-place.is in
    let within = c.loop-place.invariant in
    let some = c.loop-place-test.true in
    let at : slice_get us place ≡ Some x = slice_get_read us (length us) place x refl (omega (arith, within, some)) is in
    subst (λ o. IsSomeAnd o (λ v. IsSomeAnd (slice_get c.args.captured.now c.args.position) (λ u. u.row ≡ v.row))) (sym at)
    (same_rows (slice_get c.args.captured.now c.args.position) c.has_row.result x.row (search rules) c.if-has_row.true)

use Rattle.std.proofs.Common.{◌<◌, length, ap, ◌∙◌, FitsSigned, w64, arith, rules}
use Rattle.std.proofs.lemmas.Int.{to_z-of_z}
use Rattle.std.proofs.lemmas.Fn.{always_returns_same}
use Rattle.std.specs.Cmp.Lexicographic.{slice_cmp}
use Rattle.std.specs.Ordering.{int_cmp}
use Rattle.update.specs.declared.change.Update.{Update}
use Rattle.update.specs.declared.unit_time.UnitTime.{UnitTime}
use Rattle.update.proofs.BagLemmas.{count_found, count_missing}
use Rattle.update.proofs.bag.Bag.get.Goals as goal

pub returns-in-Ok : goal.returns-in-Ok
returns-in-Ok c =
    let found = c.in-Ok.ensures.position (λ u. slice_cmp int_cmp u.row c.args.row.now) (always_returns_same _ _ _ (λ a r g called. search rules)) in
    let items = c.self.inside.entries.items in
    let u = c.index.result.now in
    let fits : FitsSigned w64 u.diff = search rules in
    let in_range : c.in-Ok.at < length items = omega (arith, c.in-Ok.ensures.bound, c.as_slice.ensures.len) in
    let equal = rw c.as_slice.ensures.value at (found u) in
    rw (← c.self.view_is)
    (to_z-of_z w64 _ fits
    ∙ ap (λ (v : Update UnitTime). v.diff) c.index.ensures
    ∙ count_found items c.in-Ok.at c.args.row.now u in_range c.self.invariant equal)

pub returns-in-Err : goal.returns-in-Err
returns-in-Err c =
    let parted = c.in-Err.ensures.position (λ u. slice_cmp int_cmp u.row c.args.row.now) (always_returns_same _ _ _ (λ a r g called. search rules)) in
    rw (← c.self.view_is) (count_missing c.self.inside.entries.items c.in-Err.field-0 c.args.row.now c.self.invariant (rw c.as_slice.ensures.value at parted))

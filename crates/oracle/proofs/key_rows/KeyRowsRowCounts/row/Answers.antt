use Rattle.std.proofs.Common.{◌≡◌, ◌<◌, ◌-◌, ap, length, sym, subst, arith}
use Rattle.std.specs.Prelude.{slice_get, IsSomeAnd}
use Rattle.std.proofs.lemmas.List.Edits.{length-between}
use Rattle.oracle.proofs.RangeLemmas.{get_range}
use Rattle.oracle.proofs.key_rows.KeyRowsRowCounts.row.Goals as goal

pub overflow_add-self-inside : goal.overflow_add-self-inside
overflow_add-self-inside c =
    let rows = c.self.inside in
    let long = length-between rows.bag.now rows.from rows.to c.self.invariant.1 in
    let seen = ap length c.self.view_is in
    omega (arith, long, seen, c.requires, c.self.invariant.2)

pub row-requires : goal.row-requires
row-requires c =
    let rows = c.self.inside in
    let long = length-between rows.bag.now rows.from rows.to c.self.invariant.1 in
    let seen = ap length c.self.view_is in
    omega (arith, long, seen, c.requires, c.self.invariant.1)

pub returns : goal.returns
returns c =
    let rows = c.self.inside in
    let i = c.args.i in
    let long = length-between rows.bag.now rows.from rows.to c.self.invariant.1 in
    let seen = ap length c.self.view_is in
    let within : i < rows.to - rows.from = omega (arith, long, seen, c.requires) in
    subst (λ es. IsSomeAnd (slice_get es i) (λ e. c.row.result.now ≡ e.row)) c.self.view_is
    (subst (λ o. IsSomeAnd o (λ e. c.row.result.now ≡ e.row)) (sym (get_range rows.from rows.to i rows.bag.now within)) c.row.ensures)

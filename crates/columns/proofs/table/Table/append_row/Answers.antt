use Rattle.std.proofs.Common.{◌≡◌, ◌<◌, ◌++◌, ◌∷◌, [], sym, ◌∙◌, ap, length, get_or, pos, append_assoc, FitsSigned, w64, arith, rules}
use Rattle.std.proofs.lemmas.Int.{to_z-of_z}
use Rattle.std.proofs.lemmas.List.{get_or_read}
use Rattle.columns.specs.Tables.{row_at}
use Rattle.columns.proofs.TableLemmas.{rows_long, row_at_more, width_some, width_few, width_within, column_long, row_is, row_long}
use Rattle.columns.proofs.table.Table.append_row.Goals as goal

pub index-requires : goal.index-requires
index-requires c =
    let long = sym (rows_long c.self.inside.columns.items 0 c.self.inside.widths.items) ∙ ap length c.self.view_is in
    search (rules, long)

pub index-requires-in-loop-i : goal.index-requires-in-loop-i
index-requires-in-loop-i c =
    let within = width_within c.self.inside.columns.items c.self.inside.widths.items c.args.self.now c.args.number c.index.result.now c.self.invariant c.self.view_is c.requires c.index.ensures in
    let inside : c.loop-i.i < length c.self.inside.columns.items = omega (arith, within) in
    search (rules, inside)

pub get-requires : goal.get-requires
get-requires c =
    column_long c.self.inside.columns.items c.self.inside.widths.items c.args.self.now c.args.number c.index.result.now c.self.invariant c.self.view_is c.requires c.index.ensures c.loop-i.i c.index-in-loop-i.result.now c.loop-i-test.true c.index-in-loop-i.ensures

pub loop-i-preserved : goal.loop-i-preserved
loop-i-preserved c =
    let columns = c.self.inside.columns.items in
    let number = c.args.number in
    let i = c.loop-i.i in
    let within = width_within columns c.self.inside.widths.items c.args.self.now number c.index.result.now c.self.invariant c.self.view_is c.requires c.index.ensures in
    let fits : FitsSigned w64 c.get.result = search rules in
    let inside : i < length columns = omega (arith, within) in
    let item = to_z-of_z w64 c.get.result fits ∙ c.get.ensures in
    c.in_ok-push.ensures.items
    ∙ (λ j. c.loop-i.invariant j ++ item j ∷ [])
    ∙ append_assoc c.args.list.now.items (row_at columns number i) _
    ∙ ap (λ row. c.args.list.now.items ++ row)
    (ap (λ column. row_at columns number i ++ get_or column number (pos 0) ∷ []) (get_or_read columns i c.index-in-loop-i.result.now inside c.index-in-loop-i.ensures [])
    ∙ sym (row_at_more columns number i [] inside))

pub returns-clause-more : goal.returns-clause-more
returns-clause-more c =
    let whole : c.loop-i.i ≡ c.index.result.now = omega arith in
    c.loop-i.invariant
    ∙ ap (λ n. c.args.list.now.items ++ row_at c.self.inside.columns.items c.args.number n) whole
    ∙ ap (λ row. c.args.list.now.items ++ row) (sym (row_is c.self.inside.columns.items c.self.inside.widths.items c.args.self.now c.args.number c.index.result.now c.self.invariant c.self.view_is c.requires c.index.ensures))

pub returns-clause-width : goal.returns-clause-width
returns-clause-width c =
    sym (row_long c.self.inside.columns.items c.self.inside.widths.items c.args.self.now c.args.number c.index.result.now c.self.invariant c.self.view_is c.requires c.index.ensures)

pub returns-clause-some : goal.returns-clause-some
returns-clause-some c =
    width_some c.self.inside.columns.items c.self.inside.widths.items c.args.self.now c.args.number c.index.result.now c.self.invariant c.self.view_is c.requires c.index.ensures

pub returns-clause-few : goal.returns-clause-few
returns-clause-few c =
    width_few c.self.inside.columns.items c.self.inside.widths.items c.args.self.now c.args.number c.index.result.now c.self.invariant c.self.view_is c.requires c.index.ensures

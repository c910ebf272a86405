use Rattle.std.proofs.Common.{◌≡◌, ◌<◌, ◌++◌, ◌∷◌, [], sym, ◌∙◌, ap, length, length-set, length-take-le, take, get_or, pos, FitsSigned, w64, arith, rules}
use Rattle.std.proofs.lemmas.Int.{to_z-of_z}
use Rattle.std.proofs.lemmas.List.{take_more_set, get_or_read}
use Rattle.columns.specs.Tables.{row_at}
use Rattle.columns.proofs.TableLemmas.{rows_long, row_at_more, width_some, width_few, width_within, column_long, row_is}
use Rattle.columns.proofs.table.Table.row.Goals as goal

pub index-requires : goal.index-requires
index-requires c =
    let long = sym (rows_long c.self.inside.columns.items 0 c.self.inside.widths.items) ∙ ap length c.self.view_is in
    search (rules, long)

pub index-requires-in-loop-i : goal.index-requires-in-loop-i
index-requires-in-loop-i c =
    let within = width_within c.self.inside.columns.items c.self.inside.widths.items c.args.self.now c.args.number c.index.result.now c.self.invariant c.self.view_is c.requires c.index.ensures in
    let inside : c.loop-i.i < length c.self.inside.columns.items = omega (arith, within) in
    search (rules, inside)

pub get-requires : goal.get-requires
get-requires c =
    column_long c.self.inside.columns.items c.self.inside.widths.items c.args.self.now c.args.number c.index.result.now c.self.invariant c.self.view_is c.requires c.index.ensures c.loop-i.i c.index-in-loop-i.result.now c.loop-i-test.true c.index-in-loop-i.ensures

pub bounds-values-i : goal.bounds-values-i
bounds-values-i c =
    let few = width_few c.self.inside.columns.items c.self.inside.widths.items c.args.self.now c.args.number c.index.result.now c.self.invariant c.self.view_is c.requires c.index.ensures in
    omega (arith, few)

pub loop-i-preserved : goal.loop-i-preserved
loop-i-preserved c =
    let columns = c.self.inside.columns.items in
    let number = c.args.number in
    let i = c.loop-i.i in
    let values = c.loop-i.values in
    let few = width_few columns c.self.inside.widths.items c.args.self.now number c.index.result.now c.self.invariant c.self.view_is c.requires c.index.ensures in
    let within = width_within columns c.self.inside.widths.items c.args.self.now number c.index.result.now c.self.invariant c.self.view_is c.requires c.index.ensures in
    let fits : FitsSigned w64 c.get.result = search rules in
    let room : i < length values = omega (arith, few) in
    let inside : i < length columns = omega (arith, within) in
    let item = to_z-of_z w64 c.get.result fits ∙ c.get.ensures in
    record {
      room = length-set values i _ ∙ c.loop-i.invariant.room;
      made = take_more_set values i _ room
          ∙ (λ j. c.loop-i.invariant.made j ++ (item j ∷ []))
          ∙ ap (λ column. row_at columns number i ++ (get_or column number (pos 0) ∷ [])) (get_or_read columns i c.index-in-loop-i.result.now inside c.index-in-loop-i.ensures [])
          ∙ sym (row_at_more columns number i [] inside);
    }

pub slice_bounds-values-end : goal.slice_bounds-values-end
slice_bounds-values-end c =
    let few = width_few c.self.inside.columns.items c.self.inside.widths.items c.args.self.now c.args.number c.index.result.now c.self.invariant c.self.view_is c.requires c.index.ensures in
    omega (arith, few)

pub slice_bounds-of-end : goal.slice_bounds-of-end
slice_bounds-of-end c =
    let few = width_few c.self.inside.columns.items c.self.inside.widths.items c.args.self.now c.args.number c.index.result.now c.self.invariant c.self.view_is c.requires c.index.ensures in
    sym (length-take-le c.index.result.now c.loop-i.values (omega (arith, few)))

pub of-requires-clause-some : goal.of-requires-clause-some
of-requires-clause-some c =
    let few = width_few c.self.inside.columns.items c.self.inside.widths.items c.args.self.now c.args.number c.index.result.now c.self.invariant c.self.view_is c.requires c.index.ensures in
    let some = width_some c.self.inside.columns.items c.self.inside.widths.items c.args.self.now c.args.number c.index.result.now c.self.invariant c.self.view_is c.requires c.index.ensures in
    let long = length-take-le c.index.result.now c.loop-i.values (omega (arith, few)) in
    omega (arith, some, long)

pub returns : goal.returns
returns c =
    let whole : c.loop-i.i ≡ c.index.result.now = omega arith in
    c.of.ensures
    ∙ ap (λ n. take n c.loop-i.values) (sym whole)
    ∙ c.loop-i.invariant.made
    ∙ ap (row_at c.self.inside.columns.items c.args.number) whole
    ∙ sym (row_is c.self.inside.columns.items c.self.inside.widths.items c.args.self.now c.args.number c.index.result.now c.self.invariant c.self.view_is c.requires c.index.ensures)

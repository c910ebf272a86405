use Rattle.std.proofs.Common.{◌≡◌, sym, ◌∙◌, ap, length, get_or, nat_eq, [], false, arith, rules}
use Rattle.std.specs.Ordering.{is_eq}
use Rattle.std.proofs.lemmas.Bool.Decides.{nat_tests}
use Rattle.columns.proofs.TableLemmas.{rows_long, row_long, same_by_comparison, differ_by_width}
use Rattle.columns.proofs.table.Table.is_row.Goals as goal

pub index-requires : goal.index-requires
index-requires c =
    let long = sym (rows_long c.self.inside.columns.items 0 c.self.inside.widths.items) ∙ ap length c.self.view_is in
    search (rules, long)

pub returns-then-index-row : goal.returns-then-index-row
returns-then-index-row c =
    let wide = row_long c.self.inside.columns.items c.self.inside.widths.items c.args.self.now c.args.number c.index.result.now c.self.invariant c.self.view_is c.requires c.index.ensures in
    let same : c.index.result.now ≡ length c.args.row.now = grind (arith, nat_tests) in
    c.is_eq.ensures ∙ ap is_eq c.compare_key.ensures ∙ same_by_comparison (get_or c.args.self.now c.args.number []) c.args.row.now (wide ∙ same)

pub returns-else-index-row : goal.returns-else-index-row
returns-else-index-row c =
    let wide = row_long c.self.inside.columns.items c.self.inside.widths.items c.args.self.now c.args.number c.index.result.now c.self.invariant c.self.view_is c.requires c.index.ensures in
    let no = c.if-index-row.false in
    let test : nat_eq c.index.result.now (length c.args.row.now) ≡ false = grind (arith, nat_tests) in
    test ∙ sym (differ_by_width (get_or c.args.self.now c.args.number []) c.args.row.now (λ e. no (sym wide ∙ e)))

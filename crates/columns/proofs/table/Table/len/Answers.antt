use Rattle.std.proofs.Common.{◌≡◌, sym, ◌∙◌, ap, length, rules}
use Rattle.columns.proofs.TableLemmas.{rows_long}
use Rattle.columns.proofs.table.Table.len.Goals as goal

pub returns : goal.returns
returns c =
    let widths = c.self.inside.widths.items in
    let long : c.len.result ≡ length widths = search rules in
    long ∙ sym (rows_long c.self.inside.columns.items 0 widths) ∙ ap length c.self.view_is

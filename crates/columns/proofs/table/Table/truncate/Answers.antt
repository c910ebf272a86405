use Rattle.std.proofs.Common.{take, ap, ◌∙◌}
use Rattle.columns.specs.Tables.{rows_from}
use Rattle.columns.proofs.TruncateLemmas.{rows_take}
use Rattle.columns.proofs.table.Table.truncate.Goals as goal

pub returns : goal.returns
returns c =
    let columns = c.self.inside.columns.items in
    let widths = c.self.inside.widths.items in
    ap (rows_from 0 columns) c.truncate.ensures.items ∙ rows_take c.args.rows 0 columns widths ∙ ap (take c.args.rows) c.self.view_is

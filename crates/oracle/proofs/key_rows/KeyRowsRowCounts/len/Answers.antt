use Rattle.std.proofs.Common.{◌∙◌, ap, length, sym}
use Rattle.std.proofs.lemmas.List.Edits.{length-between}
use Rattle.oracle.proofs.key_rows.KeyRowsRowCounts.len.Goals as goal

pub returns : goal.returns
returns c =
    let rows = c.self.inside in
    sym (length-between rows.bag.now rows.from rows.to c.self.invariant.1) ∙ ap length c.self.view_is

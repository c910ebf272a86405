use Rattle.std.proofs.Common.{sym, ◌∙◌, ap, map}
use Rattle.update.specs.declared.change.Update.{Update}
use Rattle.columns.proofs.RunLemmas.{times_are}
use Rattle.columns.proofs.columns.Columns.times.Goals as goal

pub returns : goal.returns
returns g c =
    c.as_slice.ensures.value ∙ sym (times_are 0 c.self.inside.starts.items c.self.inside.rows c.self.inside.times.items c.self.inside.diffs.items c.self.invariant.diffs_long) ∙ ap (map (λ (u : Update g.row.T.Denot). u.time)) c.self.view_is

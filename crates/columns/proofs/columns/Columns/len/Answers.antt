use Rattle.std.proofs.Common.{◌≡◌, sym, ◌∙◌, ap, length, rules}
use Rattle.columns.proofs.RunLemmas.{updates_long}
use Rattle.columns.proofs.columns.Columns.len.Goals as goal

pub returns : goal.returns
returns g c =
    let size : c.len.result ≡ length c.self.inside.times.items = search rules in
    size ∙ sym (updates_long 0 c.self.inside.starts.items c.self.inside.rows c.self.inside.times.items c.self.inside.diffs.items c.self.invariant.diffs_long) ∙ ap length c.self.view_is

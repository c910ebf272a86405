use Rattle.columns.proofs.SearchLemmas.{place_first}
use Rattle.columns.proofs.columns.Columns.runs.Goals as goal

pub returns-clause-first : goal.returns-clause-first
returns-clause-first g c =
    place_first c.self.inside.starts.items c.self.inside.rows c.self.inside.times.items c.self.inside.diffs.items c.self.invariant c.args.self.now c.self.view_is

use Rattle.std.proofs.Common.{rules}
use Rattle.columns.proofs.ColumnsLemmas.{place_inside, some_time}
use Rattle.columns.proofs.columns.Columns.time.Goals as goal

pub index-requires : goal.index-requires
index-requires g c =
    let inside = place_inside c.self.inside.starts.items c.self.inside.rows c.self.inside.times.items c.self.inside.diffs.items c.self.invariant c.args.self.now c.self.view_is c.args.i c.requires in
    search (rules, inside)

pub returns : goal.returns
returns g c =
    some_time c.self.inside.starts.items c.self.inside.rows c.self.inside.times.items c.self.inside.diffs.items c.self.invariant c.args.self.now c.self.view_is c.args.i c.requires c.index.result.now c.index.ensures

use Rattle.std.proofs.Common.{◌<◌, ◌∙◌, length, pos, FitsSigned, w64, rules, arith}
use Rattle.std.proofs.lemmas.Int.{to_z-of_z}
use Rattle.std.proofs.lemmas.List.{get_or_read}
use Rattle.columns.proofs.ColumnsLemmas.{place_inside, some_diff}
use Rattle.columns.proofs.columns.Columns.diff.Goals as goal

pub index-requires : goal.index-requires
index-requires g c =
    let inside = place_inside c.self.inside.starts.items c.self.inside.rows c.self.inside.times.items c.self.inside.diffs.items c.self.invariant c.args.self.now c.self.view_is c.args.i c.requires in
    let long = c.self.invariant.diffs_long in
    let within : c.args.i < length c.self.inside.diffs.items = omega (arith, inside, long) in
    search (rules, within)

pub returns : goal.returns
returns g c =
    let inside = place_inside c.self.inside.starts.items c.self.inside.rows c.self.inside.times.items c.self.inside.diffs.items c.self.invariant c.args.self.now c.self.view_is c.args.i c.requires in
    let long = c.self.invariant.diffs_long in
    let within : c.args.i < length c.self.inside.diffs.items = omega (arith, inside, long) in
    let fits : FitsSigned w64 c.index.result.now = search rules in
    some_diff c.self.inside.starts.items c.self.inside.rows c.self.inside.times.items c.self.inside.diffs.items c.self.invariant c.args.self.now c.self.view_is c.args.i c.requires _
    (to_z-of_z w64 c.index.result.now fits ∙ get_or_read c.self.inside.diffs.items c.args.i c.index.result.now within c.index.ensures (pos 0))

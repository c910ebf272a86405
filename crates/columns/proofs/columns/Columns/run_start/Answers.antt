use Rattle.std.proofs.Common.{◌≡◌, sym, ◌∙◌, length, get_or, rules, arith}
use Rattle.columns.proofs.PlaceLemmas.{run_place_within, run_place_onward}
use Rattle.columns.proofs.SearchLemmas.{place_is, place_first}
use Rattle.columns.proofs.columns.Columns.run_start.Goals as goal

pub returns-clause-place : goal.returns-clause-place
returns-clause-place g c =
    let size : c.len.result ≡ length c.self.inside.times.items = search rules in
    c.place_of.ensures
    ∙ (λ j. get_or (c.as_slice.ensures.value j) c.args.run (size j))
    ∙ sym (place_is c.self.inside.starts.items c.self.inside.rows c.self.inside.times.items c.self.inside.diffs.items c.self.invariant c.args.self.now c.self.view_is c.args.run)

pub returns-clause-within : goal.returns-clause-within
returns-clause-within g c =
    let place = returns-clause-place g c in
    let within = run_place_within c.args.self.now c.args.run in
    omega (arith, place, within)

pub returns-clause-onward : goal.returns-clause-onward
returns-clause-onward g c h =
    let place = returns-clause-place g c in
    let onward = run_place_onward c.args.self.now c.args.run h in
    omega (arith, place, onward)

pub returns-clause-first : goal.returns-clause-first
returns-clause-first g c =
    place_first c.self.inside.starts.items c.self.inside.rows c.self.inside.times.items c.self.inside.diffs.items c.self.invariant c.args.self.now c.self.view_is

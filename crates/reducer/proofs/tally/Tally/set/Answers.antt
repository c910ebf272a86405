use Rattle.std.proofs.Common.{◌≤◌, ◌∙◌, sym, ap, length, arith, rules, FitsSigned, w64}
use Rattle.std.proofs.lemmas.Int.{to_z-of_z}
use Rattle.reducer.specs.Tallies.{set_count}
use Rattle.reducer.proofs.TallyLemmas.{tallied_length, tallied_set, set_beyond}
use Rattle.reducer.proofs.tally.Tally.set.Goals as goal

pub returns-then-place-len : goal.returns-then-place-len
returns-then-place-len c =
    let inside = c.self.inside in
    let place = c.args.place in
    let fits : FitsSigned w64 c.args.count = search rules in
    tallied_set inside.rows.items inside.counts.items place _
    ∙ (λ j. set_count place (to_z-of_z w64 c.args.count fits j) (c.self.view_is j))

pub returns-else-place-len : goal.returns-else-place-len
returns-else-place-len c =
    let inside = c.self.inside in
    let long = tallied_length inside.rows.items inside.counts.items c.self.invariant.lengths in
    let seen = ap length c.self.view_is in
    let even = c.self.invariant.lengths in
    let beyond : length c.args.self.now ≤ c.args.place = omega (arith, long, seen, even, c.if-place-len.false, c.len.ensures) in
    sym (set_beyond c.args.place c.args.count c.args.self.now beyond)

use Rattle.std.proofs.Common.{◌≡◌, ◌<◌, ap, length, subst, arith, rules, FitsSigned, w64}
use Rattle.std.specs.Prelude.{slice_get, IsSomeAnd}
use Rattle.std.proofs.lemmas.Int.{to_z-of_z}
use Rattle.reducer.proofs.TallyLemmas.{tallied_length, tallied_count}
use Rattle.reducer.proofs.tally.Tally.count.Goals as goal

pub index-requires : goal.index-requires
index-requires c =
    let inside = c.self.inside in
    let long = tallied_length inside.rows.items inside.counts.items c.self.invariant.lengths in
    let seen = ap length c.self.view_is in
    let even = c.self.invariant.lengths in
    omega (arith, long, seen, even, c.requires)

pub returns : goal.returns
returns c =
    let inside = c.self.inside in
    let long = tallied_length inside.rows.items inside.counts.items c.self.invariant.lengths in
    let seen = ap length c.self.view_is in
    let within : c.args.i < length inside.rows.items = omega (arith, long, seen, c.requires) in
    let n = c.index.result.now in
    let fits : FitsSigned w64 n = search rules in
    rw (to_z-of_z w64 n fits) (subst (λ es. IsSomeAnd (slice_get es c.args.i) (λ e. n ≡ e.count)) c.self.view_is
    (tallied_count inside.rows.items inside.counts.items c.args.i n c.self.invariant.lengths within c.index.ensures))

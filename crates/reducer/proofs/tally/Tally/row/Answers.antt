use Rattle.std.proofs.Common.{◌≡◌, ◌<◌, ap, length, subst, arith}
use Rattle.std.specs.Prelude.{slice_get, IsSomeAnd}
use Rattle.reducer.proofs.TallyLemmas.{tallied_length, tallied_row}
use Rattle.reducer.proofs.tally.Tally.row.Goals as goal

pub index-requires : goal.index-requires
index-requires c =
    let inside = c.self.inside in
    let long = tallied_length inside.rows.items inside.counts.items c.self.invariant.lengths in
    let seen = ap length c.self.view_is in
    omega (arith, long, seen, c.requires)

pub returns : goal.returns
returns c =
    let inside = c.self.inside in
    let long = tallied_length inside.rows.items inside.counts.items c.self.invariant.lengths in
    let seen = ap length c.self.view_is in
    let within : c.args.i < length inside.rows.items = omega (arith, long, seen, c.requires) in
    subst (λ es. IsSomeAnd (slice_get es c.args.i) (λ e. c.index.result.now ≡ e.row)) c.self.view_is
    (tallied_row inside.rows.items inside.counts.items c.args.i c.index.result.now c.self.invariant.lengths within c.index.ensures)

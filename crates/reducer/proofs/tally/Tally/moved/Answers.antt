use Rattle.std.proofs.Common.{refl, rules, FitsSigned, w64}
use Rattle.std.proofs.lemmas.Int.{to_z-of_z}
use Rattle.reducer.proofs.TallyLemmas.{place_within, too_far}
use Rattle.reducer.proofs.tally.Tally.moved.Goals as goal

pub returns-in_err-place-clause-none : goal.returns-in_err-place-clause-none
returns-in_err-place-clause-none c _ e here same _ = c.in_err-place.ensures.none refl e here same

pub raised-requires : goal.raised-requires
raised-requires c = place_within c.args.self.now c.in_ok-place.place _ c.in_ok-place.ensures.place

pub returns-in_err-count-clause-none : goal.returns-in_err-count-clause-none
returns-in_err-count-clause-none c _ =
    let diff : FitsSigned w64 c.args.diff = search rules in
    too_far c.args.self.now c.in_ok-place.place c.args.row.now c.args.diff c.known.ensures.order c.in_ok-place.ensures.place
    (rw (to_z-of_z w64 c.args.diff diff) at c.in_err-count.ensures.none refl)

use Rattle.std.proofs.Common.{◌<◌, ◌++◌, ◌∷◌, [], ◌∙◌, length, take, ap, sym, FitsSigned, w64, arith, rules}
use Rattle.std.proofs.lemmas.Int.{to_z-of_z}
use Rattle.std.proofs.lemmas.List.{map-append}
use Rattle.lattice.specs.Representatives.{representative_of}
use Rattle.key_history.specs.Compaction.{retimed}
use Rattle.key_history.proofs.PackLemmas.{taken_more}
use Rattle.key_history.proofs.compaction.moved_as_of.Goals as goal

pub loop-i-preserved : goal.loop-i-preserved
loop-i-preserved g c =
    let us = c.args.updates.now in
    let i = c.loop-i.i in
    let u = c.copy-time.result in
    let test = c.loop-i-test.true in
    let end = c.len-i-end.ensures in
    let within : i < length us = omega (arith, test, end) in
    let more = taken_more us i u within c.copy-time.ensures in
    let f = representative_of g.T.PartialOrder.times c.args.since.now in
    let fits : FitsSigned w64 u.diff = search rules in
    record {
      moved =
          c.in_ok-push.ensures.items
          ∙ (λ j. c.loop-i.invariant.moved j ++ record { time = c.representative.ensures.value j; row = u.row; diff = to_z-of_z w64 u.diff fits j } ∷ [])
          ∙ sym (ap (retimed f) more ∙ map-append (λ v. record { time = f v.time; row = v.row; diff = v.diff }) (take i us) (u ∷ []));
      place = c.place_behind-place.ensures;
    }

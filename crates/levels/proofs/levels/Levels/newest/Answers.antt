use Rattle.std.proofs.Common.{◌≡◌, ◌≤◌, ◌+◌, length, sym, ◌∙◌, ap, subst, arith}
use Rattle.levels.specs.Levels.{LevelsState, end_of_places, width_of}
use Rattle.levels.proofs.PlaceLemmas.{ends_newest, ends_within}
use Rattle.levels.proofs.levels.Levels.newest.Goals as goal

pub returns-in-Some-clause-end : goal.returns-in-Some-clause-end
returns-in-Some-clause-end g c =
    let us = c.deref.result.now in
    let all : us ≡ c.args.self.now.underway = c.deref.ensures.value ∙ ap (λ (s : LevelsState g.row.T.Denot). s.underway) c.self.view_is in
    let number = sym c.place.ensures.number in
    let alone = sym c.place.ensures.alone in
    ap (end_of_places 0) (sym all) ∙ ends_newest us c.in-Some.newest.now c.in-Some.ensures.value ∙ (λ k. number k + width_of (alone k))

pub returns-in-Some-clause-within : goal.returns-in-Some-clause-within
returns-in-Some-clause-within g c =
    let end = returns-in-Some-clause-end g c in
    let s = c.self.inside in
    let within = ends_within g.T.PartialOrder.times g.T.Ord.cmp s.list.batches 0 s.underway.items c.self.invariant (omega arith) in
    let view = subst (λ (l : LevelsState g.row.T.Denot). end_of_places 0 l.underway ≤ length l.list.batches) c.self.view_is within in
    omega (arith, end, view)

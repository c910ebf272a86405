use Rattle.std.proofs.Common.{refl, ◌∙◌}
use Rattle.reduce.proofs.visits.fold_all.Goals as goal

pub loop-place-init : goal.loop-place-init
loop-place-init g c = refl

pub fold-requires : goal.fold-requires
fold-requires g c = rw c.loop-place.invariant (c.requires c.loop-place.place-index c.loop-place-test.true)

pub loop-place-preserved : goal.loop-place-preserved
loop-place-preserved g c = c.fold.ensures.items ∙ c.loop-place.invariant

pub returns : goal.returns
returns g c = record { items = c.loop-place.invariant }

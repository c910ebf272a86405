use Rattle.gathered.proofs.GatheredLemmas.{small_size}
use Rattle.gathered.proofs.gathered.is_small.Goals as goal

pub returns : goal.returns
returns g c h = small_size c.args.updates.now c.loop-update.room c.loop-update.update-index c.loop-update-test.false c.loop-update.invariant

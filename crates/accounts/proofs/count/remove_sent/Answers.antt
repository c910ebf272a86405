use Rattle.outstanding.specs.Stations.{lots}
use Rattle.accounts.proofs.LoopLemmas.{next_is_counted}
use Rattle.accounts.proofs.count.remove_sent.Goals as goal

pub remove_one-requires : goal.remove_one-requires
remove_one-requires g c =
    next_is_counted (lots c.args.stations.now) c.args.sent.now c.loop-bundle.bundle-index c.bundle-item.result c.loop-bundle-test.true c.bundle-item.is c.args.tally.now.items c.loop-bundle.tally.items c.requires c.loop-bundle.invariant.0

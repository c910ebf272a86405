use Rattle.std.proofs.Common.{◌++◌, sym, subst}
use Rattle.progress.specs.Several.{items_at, AreCounted}
use Rattle.progress.specs.Tallies.{SameCounts}
use Rattle.progress.specs.declared.place.Place.TheVariants.{Held}
use Rattle.outstanding.specs.Stations.{lots}
use Rattle.accounts.specs.Accounts.{items_sent}
use Rattle.accounts.proofs.EventLemmas.{first_part, other_part}
use Rattle.accounts.proofs.give.withdraw.Goals as goal

pub remove_sent-requires : goal.remove_sent-requires
remove_sent-requires g c =
    subst (λ bs. AreCounted c.args.tally.now.items (items_sent (lots c.args.stations.now) bs)) (sym c.sent.ensures)
    (first_part c.args.tally.now.items (items_sent (lots c.args.stations.now) c.args.cut.now.sent) (items_at (Held c.args.cut.now.given.node) c.args.held) c.requires)

pub give_back-requires : goal.give_back-requires
give_back-requires g c =
    let mid = c.remove_sent.new.tally.items in
    let old = c.args.tally.now.items in
    let stations = lots c.args.stations.now in
    let removed = subst (λ bs. SameCounts (items_sent stations bs ++ mid) old) c.sent.ensures c.remove_sent.ensures.counted in
    subst (λ n. AreCounted mid (items_at (Held n) c.args.held)) (sym c.node.ensures)
    (other_part old mid (items_sent stations c.args.cut.now.sent) (items_at (Held c.args.cut.now.given.node) c.args.held) c.requires removed)

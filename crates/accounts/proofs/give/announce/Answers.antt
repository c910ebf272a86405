use Rattle.std.proofs.Common.{◌++◌, List, sym, subst}
use Rattle.progress.specs.Several.{AreCounted}
use Rattle.progress.specs.Tallies.{SameCounts}
use Rattle.outstanding.specs.Loads.{Lot}
use Rattle.outstanding.specs.Stations.{lots}
use Rattle.accounts.specs.Accounts.{items_given}
use Rattle.accounts.proofs.EventLemmas.{just_added, taken_back}
use Rattle.accounts.proofs.give.announce.Goals as goal

pub withdraw-requires : goal.withdraw-requires
withdraw-requires g c =
    let cut = c.args.cut.now in
    let mid = c.count_given.new.tally.items in
    subst (λ ts. AreCounted mid (items_given (lots c.reserve.new.self) cut.given ts cut.sent)) (sym c.in_ok-next.ensures.held)
    (subst (λ (all : List (List (Lot g.row.T.Denot))). AreCounted mid (items_given all cut.given c.args.held cut.sent)) (sym c.reserve.ensures.unchanged)
    (just_added (items_given (lots c.args.stations.now) cut.given c.args.held cut.sent) c.args.tally.now.items mid c.in_ok-next.ensures.counted))

pub returns-in-Err-clause-unchanged : goal.returns-in-Err-clause-unchanged
returns-in-Err-clause-unchanged g c =
    let cut = c.args.cut.now in
    let mid = c.count_given.new.tally.items in
    let new = c.withdraw.new.tally.items in
    let removed = subst (λ ts. SameCounts (items_given (lots c.args.stations.now) cut.given ts cut.sent ++ new) mid) c.in_ok-next.ensures.held
    (subst (λ (all : List (List (Lot g.row.T.Denot))). SameCounts (items_given all cut.given c.in_ok-next.next cut.sent ++ new) mid) c.reserve.ensures.unchanged c.withdraw.ensures.counted) in
    taken_back (items_given (lots c.args.stations.now) cut.given c.args.held cut.sent) c.args.tally.now.items mid new c.in_ok-next.ensures.counted removed

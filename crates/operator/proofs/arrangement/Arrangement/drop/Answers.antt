use Rattle.std.proofs.Common.{List, subst}
use Rattle.trace.specs.Holds.{HoldState}
use Rattle.trace.proofs.BoundaryLemmas.{frontiers_decided}
use Rattle.spine.specs.HoldRules.{AreSameHolds}
use Rattle.spine.proofs.HoldersLemmas.{hold_found, hold_gone}
use Rattle.operator.proofs.HoldLemmas.{last_first}
use Rattle.operator.proofs.arrangement.Arrangement.drop.Goals as goal

pub release-requires : goal.release-requires
release-requires g c =
    let all = subst (λ (hs : List (HoldState g.row.T.Denot)). AreSameHolds hs c.loop-hold.spine.holds) c.in-Some.ensures.items c.loop-hold.invariant in
    hold_found g.T.PartialEq.eq (frontiers_decided g.met.T.Ord.matches_eq g.met.T.Ord.total g.met.T.Lattice.extends.exact) c.in-Some.hold c.pop.new.self.items c.loop-hold.spine.holds
    (last_first c.in-Some.hold c.pop.new.self.items c.loop-hold.spine.holds all)

pub loop-hold-preserved : goal.loop-hold-preserved
loop-hold-preserved g c =
    let all = subst (λ (hs : List (HoldState g.row.T.Denot)). AreSameHolds hs c.loop-hold.spine.holds) c.in-Some.ensures.items c.loop-hold.invariant in
    hold_gone c.in-Some.hold c.pop.new.self.items c.loop-hold.spine.holds c.release.new.self.holds c.release.ensures.gone
    (last_first c.in-Some.hold c.pop.new.self.items c.loop-hold.spine.holds all)

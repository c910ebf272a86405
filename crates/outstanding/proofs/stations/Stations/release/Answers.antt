use Rattle.std.proofs.Common.{◌∙◌}
use Rattle.outstanding.specs.Stations.{HasReleased}
use Rattle.outstanding.proofs.RoomLemmas.{place_more}
use Rattle.outstanding.proofs.stations.Stations.release.Goals as goal

pub loop-bundle-preserved : goal.loop-bundle-preserved
loop-bundle-preserved g c =
    let i = c.loop-bundle in
    let r = c.release_at in
    record {
      same = r.ensures.unchanged ∙ i.invariant.same;
      none = place_more (HasReleased i.self) (HasReleased r.new.self) c.args.sent.now i.bundle-index c.bundle-item.result c.loop-bundle-test.true c.bundle-item.is r.ensures.kept r.ensures.none i.invariant.none;
    }

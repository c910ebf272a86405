use Rattle.std.proofs.Common.{◌∙◌}
use Rattle.outstanding.proofs.RoomLemmas.{one_more_needed}
use Rattle.outstanding.proofs.stations.Stations.reserve.Goals as goal

pub loop-bundle-preserved : goal.loop-bundle-preserved
loop-bundle-preserved g c =
    let i = c.loop-bundle in
    let r = c.reserve_at in
    record {
      same = r.ensures.unchanged ∙ i.invariant.same;
      room = one_more_needed c.args.sent.now i.bundle-index c.bundle-item.result i.self r.new.self c.loop-bundle-test.true c.bundle-item.is r.ensures.kept c.in_ok-reserve_at.ensures.room i.invariant.room;
    }

use Rattle.std.proofs.Common.{◌≡◌, ◌∷◌, ◌∙◌, List, length, sym, ap, arith}
use Rattle.std.specs.Vec.Iter.{into_iter_items}
use Rattle.histories.specs.declared.event.Bundle.{Bundle}
use Rattle.outstanding.specs.Loads.{put_all}
use Rattle.outstanding.specs.Stations.{lots}
use Rattle.outstanding.proofs.StationLemmas.{put_next, put_last}
use Rattle.outstanding.proofs.RoomLemmas.{first_has_room, rest_has_room}
use Rattle.outstanding.proofs.stations.Stations.put_all.Goals as goal

pub put_reserved-requires : goal.put_reserved-requires
put_reserved-requires g c =
    let i = c.loop-bundle in
    let steps : into_iter_items i.bundle-iterator ≡ c.in-Some.bundle ∷ into_iter_items c.next.new.self = c.in-Some.ensures.steps.0 in
    first_has_room (into_iter_items i.bundle-iterator) c.in-Some.bundle (into_iter_items c.next.new.self) i.self steps i.invariant.room

pub loop-bundle-preserved : goal.loop-bundle-preserved
loop-bundle-preserved g c =
    let i = c.loop-bundle in
    let all = into_iter_items i.bundle-iterator in
    let rest = into_iter_items c.next.new.self in
    let steps : all ≡ c.in-Some.bundle ∷ rest = c.in-Some.ensures.steps.0 in
    let end = put_all (into_iter_items c.into_iter-bundle-iterator.result) (lots c.args.self.now) in
    record {
      put = put_next all c.in-Some.bundle rest (lots i.self) (lots c.put_reserved.new.self) end steps c.put_reserved.ensures.put i.invariant.put;
      room = rest_has_room all c.in-Some.bundle rest i.self c.put_reserved.new.self steps c.put_reserved.ensures.room c.put_reserved.ensures.others i.invariant.room;
      left = let was = i.invariant.left in let gone = c.in-Some.ensures.steps.1 in let short = ap length steps in omega arith;
    }

pub returns : goal.returns
returns g c =
    let i = c.loop-bundle in
    let end = put_all (into_iter_items c.into_iter-bundle-iterator.result) (lots c.args.self.now) in
    put_last (into_iter_items i.bundle-iterator) (lots i.self) end (sym i.invariant.left ∙ c.in-None.ensures.steps.0) i.invariant.put
    ∙ ap (λ (bundles : List (Bundle g.row.T.Denot)). put_all bundles (lots c.args.self.now)) c.into_iter-bundle-iterator.ensures.into_iter_gives.0

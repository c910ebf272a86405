use Rattle.std.proofs.Common.{◌<◌, ◌++◌, ◌∙◌, length, map, drop, take, take_all, sym, ap, subst, arith}
use Rattle.std.specs.List.{All, flat_map}
use Rattle.update.specs.Bags.{Alike}
use Rattle.update.specs.Updates.{as_of, entry}
use Rattle.views.specs.Views.{update_at}
use Rattle.views.proofs.CapturedLemmas.{alike_before}
use Rattle.views.proofs.ViewLemmas.{later_within}
use Rattle.views.proofs.last_read.arrived_since.Goals as goal

pub arrived_at-requires : goal.arrived_at-requires
arrived_at-requires g c =
    let last = c.args.last.now in
    subst (All (λ k. k < length c.args.captured.now)) (sym c.deref.ensures.value) (later_within g.T.PartialOrder.times c.args.captured.now last.time last.bag last.known last.later.items c.requires)

pub returns-clause-arrived : goal.returns-clause-arrived
returns-clause-arrived g c =
    let times = g.T.PartialOrder.times in
    let us = c.args.captured.now in
    let last = c.args.last.now in
    let t = c.args.t.now in
    let new = map entry c.push_arrived.new.arrived.items in
    let before = flat_map (λ k. as_of times t (update_at us k)) last.later.items in
    let part = as_of times t (drop last.known us) in
    let known = subst (λ ks. Alike (map entry c.in_ok-arrived.arrived.items) (flat_map (λ k. as_of times t (update_at us k)) ks)) c.deref.ensures.value c.in_ok-arrived.ensures.arrived in
    let whole = ap (λ n. as_of times t (drop last.known (take n us))) c.len-2.ensures ∙ ap (λ vs. as_of times t (drop last.known vs)) (take_all (length us) us (omega arith)) in
    let came = subst (λ vs. Alike new (map entry vs ++ as_of times t (drop last.known (take c.len-2.result us)))) c.in_ok-reserve.ensures.items c.in_ok-push_arrived.ensures.more in
    alike_before (map entry c.in_ok-arrived.arrived.items) before part new known (subst (λ es. Alike new (map entry c.in_ok-arrived.arrived.items ++ es)) whole came)

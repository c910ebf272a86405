use Rattle.std.proofs.Common.{◌/◌, length, arith}
use Rattle.joined_times.proofs.AdditionLemmas.{appends_none, appends_one, appends_slices}
use Rattle.joined_times.proofs.times.+push_fresh.Goals as goal

pub returns-in-empty-clause-appended : goal.returns-in-empty-clause-appended
returns-in-empty-clause-appended g t c =
    appends_none g.T.PartialOrder.times c.args.new.now c.args.near.now c.args.fresh.now.items (omega arith)

pub returns-in_ok-push_joins-in-len1-clause-appended : goal.returns-in_ok-push_joins-in-len1-clause-appended
returns-in_ok-push_joins-in-len1-clause-appended g t c =
    appends_one g.met.T.PartialOrder.order g.met.T.Lattice.bounds c.args.new.now c.args.near.now c.args.fresh.now.items c.push_joins.new.fresh.items c.t-item.result
    (omega arith) c.t-item.is c.in_ok-push_joins-in-len1.ensures.appended

pub returns-in_ok-push_fresh-in-len1-up-2-clause-appended : goal.returns-in_ok-push_fresh-in-len1-up-2-clause-appended
returns-in_ok-push_fresh-in-len1-up-2-clause-appended g t c =
    let bounds = c.bounds_of.result in
    let parted = c.in_ok-parted-in-len1-up.parted in
    let parts = c.in_ok-parted-in-len1-up.ensures in
    let start = c.extend_from_slice.new.self in
    let more = c.extend_from_slice-in-len1-up.new.self.items in
    appends_slices g.met.T.PartialOrder.order g.met.T.Lattice.bounds c.args.new.now c.args.near.now parted.within.items parted.beyond.items bounds.meet bounds.join c.first-item.result
    (omega arith) c.first-item.is c.bounds_of.ensures parts.members parts.beyond
    (length c.args.new.now / 2) c.len-start.result c.args.fresh.now.items start.items c.push_fresh.new.fresh.items c.push_fresh-in-len1-up.new.fresh.items
    c.deref.result.now c.deref-in-len1-up.result.now c.deref-in-len1-up-2.result.now more c.deref-in-len1-up-3.result.now
    c.deref.ensures.value c.in_ok-extend_from_slice-in-len1-up.ensures.items (omega (arith, c.len-start.ensures, start.ok.0))
    c.deref-in-len1-up.ensures.value c.in_ok-push_fresh-in-len1-up.ensures.appended
    c.deref-in-len1-up-2.ensures.value c.in_ok-extend_from_slice-in-len1-up-2.ensures.items c.deref-in-len1-up-3.ensures.value c.in_ok-push_fresh-in-len1-up-2.ensures.appended

use Rattle.std.proofs.Common.{◌++◌, map, take, drop, subst}
use Rattle.update.specs.Bags.{Alike}
use Rattle.update.specs.Updates.{as_of, entry}
use Rattle.views.proofs.CapturedLemmas.{alike_behind, read_of_part}
use Rattle.views.proofs.last_read.read_part.Goals as goal

pub returns-clause-read : goal.returns-clause-read
returns-clause-read g c =
    let times = g.T.PartialOrder.times in
    let us = c.args.captured.now in
    let read = c.args.read.now in
    let part = as_of times read.time (drop read.known (take c.args.until us)) in
    let came = subst (λ vs. Alike (map entry c.push_arrived.new.arrived.items) (map entry vs ++ part)) c.in_ok-arrived.ensures.items c.in_ok-push_arrived.ensures.more in
    let sum = subst (λ vs. Alike c.in_ok-read.field-0 (read.bag ++ map entry vs)) c.deref.ensures.value c.in_ok-read.ensures.sum in
    read_of_part times read.time us read.bag c.in_ok-read.field-0 read.known c.args.until read.later.items c.push_later.new.later.items c.requires.read c.requires.onward c.requires.within
    (alike_behind (map entry c.push_arrived.new.arrived.items) part read.bag c.in_ok-read.field-0 came sum) c.in_ok-push_later.ensures.later

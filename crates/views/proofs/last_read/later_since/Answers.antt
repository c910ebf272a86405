use Rattle.std.proofs.Common.{◌<◌, ◌∙◌, length, sym, ap, subst}
use Rattle.std.specs.List.{All, filter}
use Rattle.views.specs.Views.{is_later_at}
use Rattle.views.proofs.ViewLemmas.{later_within, later_again}
use Rattle.views.proofs.last_read.later_since.Goals as goal

pub still_later-requires : goal.still_later-requires
still_later-requires g c =
    let last = c.args.last.now in
    subst (All (λ k. k < length c.args.captured.now)) (sym c.deref.ensures.value) (later_within g.T.PartialOrder.times c.args.captured.now last.time last.bag last.known last.later.items c.requires.last)

pub push_later-requires-clause-before : goal.push_later-requires-clause-before
push_later-requires-clause-before g c =
    let last = c.args.last.now in
    let times = g.T.PartialOrder.times in
    c.in_ok-later.ensures.later
    ∙ ap (filter (is_later_at times c.args.t.now c.args.captured.now)) (c.deref.ensures.value ∙ c.requires.last.rest)
    ∙ later_again times g.met.T.PartialOrder.order last.time c.args.t.now c.requires.onward c.args.captured.now last.known

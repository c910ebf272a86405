use Rattle.std.proofs.Common.{◌++◌, ◌∷◌, [], ◌∙◌, map, sym, ap, append-nil}
use Rattle.update.specs.Bags.{count_of}
use Rattle.update.specs.Updates.{entry}
use Rattle.views.proofs.CapturedLemmas.{no_copy, added_copy, added_one}
use Rattle.views.proofs.last_read.push_if_arrived.Goals as goal

pub returns-then-not-less_equal-clause-more : goal.returns-then-not-less_equal-clause-more
returns-then-not-less_equal-clause-more g c row =
    let none = no_copy g.T.PartialOrder.times c.args.t.now c.args.captured.now c.args.position c.requires c.time.result c.time.ensures c.less_equal.result c.less_equal.ensures c.if-not-less_equal.true in
    ap (λ es. count_of es row) (sym (append-nil (map entry c.args.arrived.now.items)) ∙ ap (λ es. map entry c.args.arrived.now.items ++ es) (sym none))

pub returns-then-is_added-clause-more : goal.returns-then-is_added-clause-more
returns-then-is_added-clause-more g c =
    added_one g.T.PartialOrder.times c.args.t.now c.args.captured.now c.args.position c.requires c.time.result c.time.ensures c.less_equal.result c.less_equal.ensures c.if-not-less_equal.false
    (map entry c.is_added.new.arrived.items) (map entry c.args.arrived.now.items) (c.is_added.ensures.added c.if-is_added.true)

pub returns-clause-more : goal.returns-clause-more
returns-clause-more g c =
    added_copy g.T.PartialOrder.times c.args.t.now c.args.captured.now c.args.position c.requires c.time.result c.time.ensures c.less_equal.result c.less_equal.ensures c.if-not-less_equal.false
    c.args.arrived.now.items c.push.new.self.items c.copy.result (c.in_ok-push.ensures.items ∙ ap (λ us. us ++ c.copy.result ∷ []) (c.is_added.ensures.same c.if-is_added.false)) c.copy.ensures

use Rattle.std.proofs.Common.{List, [], ◌∷◌, ◌++◌, sym, ◌∙◌, ap}
use Rattle.trace.specs.Holds.{HoldState}
use Rattle.batch.specs.Descriptions.{BuilderState}
use Rattle.spine.specs.Spines.{SpineState}
use Rattle.operator.specs.Arrangements.{ArrangementState}
use Rattle.operator.proofs.ArrangementLemmas.{arrangement_begun}
use Rattle.operator.proofs.arrangement.Arrangement.without_readers.Goals as goal

pub invariant_of-result : goal.invariant_of-result
invariant_of-result g c =
    let times = g.T.PartialOrder.times in
    let a : ArrangementState g.row.T.Denot = record { width = c.args.width; spine = c.in-Ok.spine; waiting = c.new-in-Ok.result.updates; holds = c.push_reserved.new.self.items } in
    let first = c.in-Ok.ensures.first in
    let hold = c.in-Ok.ensures.hold in
    let waits = c.new-in-Ok.ensures in
    let items = c.push_reserved.ensures.items ∙ ap (λ (hs : List (HoldState g.row.T.Denot)). hs ++ c.in-Ok.own ∷ []) c.in_ok-holds.ensures.empty.0 in
    let theirs = ap (λ (x : SpineState g.row.T.Denot). x.holds) first ∙ ap (λ (h : HoldState g.row.T.Denot). h ∷ []) (sym hold) in (
      arrangement_begun times g.met.T.PartialOrder.order a c.in-Ok.own
          (ap (λ (x : SpineState g.row.T.Denot). x.list.start) first)
          (ap (λ (x : SpineState g.row.T.Denot). x.list.batches) first)
          (ap (λ (x : SpineState g.row.T.Denot). x.since) first)
          theirs items
          (ap (λ (b : BuilderState g.row.T.Denot). b.updates) waits)
          (ap (λ (h : HoldState g.row.T.Denot). h.logical) hold)
          (ap (λ (h : HoldState g.row.T.Denot). h.physical) hold),
      ap (λ (b : BuilderState g.row.T.Denot). b.worker) waits ∙ sym (ap (λ (x : SpineState g.row.T.Denot). x.list.worker) first),
      ap (λ (b : BuilderState g.row.T.Denot). b.node) waits ∙ sym (ap (λ (x : SpineState g.row.T.Denot). x.list.node) first),
    )

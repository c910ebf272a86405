-- What a bundle makes is laid where its node has it.
use Rattle.std.proofs.Common.{rules, ◌≡◌, ◌≤◌, ◌^◌, IsTrue, sym, subst, ap, ◌∙◌}
use Rattle.update.specs.Refusals.{IsMemoryOrOverflow}
use Rattle.update.specs.Updates.{size}
use Rattle.linear.specs.Applied.{Overflows, linear_output}
use Rattle.linear.specs.Widths.{takes_rows}
use Rattle.plan.specs.Nodes.{is_join, node_at}
use Rattle.histories.specs.Histories.Dataflows.{Dataflow}
use Rattle.desk_laws.specs.declared.hand.Hand.TheVariants.{Taken}
use Rattle.desk.specs.Desks.{IsLaidIn, IsTooLarge}
use Rattle.desk.proofs.BundleLemmas.{arrangement_there, bundle_placed, bundle_rows, bundle_times, bundle_within, later_times, reduction_there}
use Rattle.desk.proofs.IntakeLemmas.{arranged_leads, bundle_too_large, gathered_leads, linear_else, made_too_large, plain_else, reduced_leads}
use Rattle.desk.proofs.ResultLemmas.{if_err_from, memory_or, on_ok_by}
use Rattle.desk.proofs.desk.Desk.take_in.Goals as goal

pub node-operator-requires : goal.node-operator-requires
node-operator-requires g c = bundle_within g.T.PartialOrder.times c.args.plan.now c.args.self.now c.args.bundle.now c.args.more c.requires.someones

pub arrange-requires : goal.arrange-requires
arrange-requires g c =
    let times = g.T.PartialOrder.times in
    let at = sym c.node-operator.ensures ∙ c.in-Arrange.is in (
      search rules,
      (
        arrangement_there times c.args.plan.now c.args.self.now c.args.bundle.now c.args.more c.requires.someones c.in-Arrange.source c.in-Arrange.key at,
        bundle_times times c.args.plan.now c.args.self.now c.args.bundle.now c.args.more c.requires.someones,
      ),
    )

pub reduce-requires : goal.reduce-requires
reduce-requires g c =
    let times = g.T.PartialOrder.times in
    let at = sym c.node-operator.ensures ∙ c.in-Reduce.is in (
      search rules,
      (
        reduction_there times c.args.plan.now c.args.self.now c.args.bundle.now c.args.more c.requires.someones c.in-Reduce.kind c.in-Reduce.source at,
        later_times times c.args.bundle.now.updates (bundle_times times c.args.plan.now c.args.self.now c.args.bundle.now c.args.more c.requires.someones),
      ),
    )

pub gather-requires : goal.gather-requires
gather-requires g c =
    let times = g.T.PartialOrder.times in
    let at = sym c.node-operator.ensures in (
      search rules,
      (
        bundle_placed times c.args.plan.now c.args.self.now c.args.bundle.now c.args.more c.requires.someones,
        (
          linear_else c.node-operator.result.now (ap is_join c.node-operator.ensures ∙ c.requires.other) c.in_default.not-Reduce,
          (
            plain_else c.node-operator.result.now c.in_default.not-Arrange,
            subst (λ node. IsTrue (takes_rows node c.args.bundle.now.updates)) at (bundle_rows times c.args.plan.now c.args.self.now c.args.bundle.now c.args.more c.requires.someones),
          ),
        ),
      ),
    )

pub returns-in-Arrange-clause-leads : goal.returns-in-Arrange-clause-leads
returns-in-Arrange-clause-leads g c =
    on_ok_by c.arrange.result
    (arranged_leads g.T.PartialOrder.times g.met.T.PartialOrder.order c.args.plan.now c.args.self.now c.arrange.new.self c.args.bundle.now c.args.more c.in-Arrange.source c.in-Arrange.key (sym c.node-operator.ensures ∙ c.in-Arrange.is)) c.arrange.ensures.laid

pub returns-in-Reduce-clause-leads : goal.returns-in-Reduce-clause-leads
returns-in-Reduce-clause-leads g c =
    on_ok_by c.reduce.result
    (reduced_leads g.T.PartialOrder.times g.met.T.PartialOrder.order c.args.plan.now c.args.self.now c.reduce.new.self c.args.bundle.now c.args.more g.met.T.Lattice.bounds c.in-Reduce.kind c.in-Reduce.source
    (sym c.node-operator.ensures ∙ c.in-Reduce.is)) c.reduce.ensures.reduced

pub returns-in-Reduce-clause-refused : goal.returns-in-Reduce-clause-refused
returns-in-Reduce-clause-refused g c =
    let times = g.T.PartialOrder.times in
    let p = c.args.plan.now in
    let d = c.args.self.now in
    let b = c.args.bundle.now in
    if_err_from c.reduce.result (IsMemoryOrOverflow (2 ^ 63 ≤ size b.updates)) (IsMemoryOrOverflow (IsTooLarge times g.T.Ord.cmp p d (Taken b c.args.more)))
    (λ e m. memory_or (bundle_too_large times g.met.T.PartialOrder.order g.T.Ord.cmp p d b c.args.more c.in-Reduce.kind c.in-Reduce.source (sym c.node-operator.ensures ∙ c.in-Reduce.is)) m) c.reduce.ensures.refused

pub returns-in_default-clause-leads : goal.returns-in_default-clause-leads
returns-in_default-clause-leads g c =
    let times = g.T.PartialOrder.times in
    let p = c.args.plan.now in
    let b = c.args.bundle.now in
    let n = b.place.node in
    let linear = linear_else (node_at p n) c.requires.other (λ kind source e. c.in_default.not-Reduce kind source (c.node-operator.ensures ∙ e)) in
    on_ok_by c.gather.result
    (λ laid. gathered_leads times g.met.T.PartialOrder.order p c.args.self.now c.gather.new.self b c.args.more linear
    (subst (λ node. (q : Dataflow) → node_at q.nodes n ≡ node → IsLaidIn times q n (linear_output node b.updates) c.args.self.now c.gather.new.self) c.node-operator.ensures laid)) c.gather.ensures.laid

pub returns-in_default-clause-refused : goal.returns-in_default-clause-refused
returns-in_default-clause-refused g c =
    let times = g.T.PartialOrder.times in
    let p = c.args.plan.now in
    let d = c.args.self.now in
    let b = c.args.bundle.now in
    if_err_from c.gather.result (IsMemoryOrOverflow (Overflows c.node-operator.result.now b.updates)) (IsMemoryOrOverflow (IsTooLarge times g.T.Ord.cmp p d (Taken b c.args.more)))
    (λ e m. memory_or (λ over. made_too_large times g.met.T.PartialOrder.order g.T.Ord.cmp p d b c.args.more (subst (λ node. Overflows node b.updates) c.node-operator.ensures over)) m) c.gather.ensures.refused

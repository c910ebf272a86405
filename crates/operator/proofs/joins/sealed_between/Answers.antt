use Rattle.std.proofs.Common.{IsTrue, refl, sym, ◌∙◌, ap, subst}
use Rattle.std.proofs.lemmas.Result.{IfOk-weaker}
use Rattle.batch.specs.Descriptions.{DescriptionState, BatchState}
use Rattle.batch.specs.Intervals.{is_interval_of}
use Rattle.join.proofs.LargeLemmas.{large_size}
use Rattle.operator.proofs.JoinAnswerLemmas.{sealed_stands, seal_refused}
use Rattle.operator.proofs.joins.sealed_between.Goals as goal

pub returns-clause-lower : goal.returns-clause-lower
returns-clause-lower g c =
    IfOk-weaker c.seal_list.result _ _ (λ b e. ap (λ (d : DescriptionState g.row.T.Denot). d.lower) e ∙ c.in_ok-from.ensures.is) c.seal_list.ensures.described

pub returns-clause-upper : goal.returns-clause-upper
returns-clause-upper g c =
    IfOk-weaker c.seal_list.result _ _ (λ b e. ap (λ (d : DescriptionState g.row.T.Denot). d.upper) e) c.seal_list.ensures.described

pub returns-clause-stands : goal.returns-clause-stands
returns-clause-stands g c =
    sealed_stands g.T.PartialOrder.times (λ (b : BatchState g.row.T.Denot). b.updates) c.args.updates.now c.args.updates.now refl
    c.seal_list.result c.seal_list.ensures.sums c.seal_list.ensures.size c.seal_list.ensures.among

pub returns-clause-refused : goal.returns-clause-refused
returns-clause-refused g c =
    let times = g.T.PartialOrder.times in
    let whole = subst (λ from. IsTrue (is_interval_of times from c.args.upper.now c.args.updates.now)) (sym c.in_ok-from.ensures.is) c.requires.interval in
    seal_refused c.seal_list.result
    (λ e. c.seal_list.ensures.stray.0 e whole)
    (λ e. large_size times c.args.updates.now (c.seal_list.ensures.overflow e))
    c.seal_list.ensures.only

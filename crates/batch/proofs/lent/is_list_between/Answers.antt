use Rattle.std.proofs.Common.{◌≡◌, ◌&&◌, ◌+◌, ℕ, Bool, drop, suc, sym, ap, ◌∙◌, arith}
use Rattle.std.specs.List.{list_all}
use Rattle.update.specs.declared.change.Update.{Update}
use Rattle.batch.specs.Intervals.{is_between}
use Rattle.batch.proofs.TimesLemmas.{all_from}
use Rattle.batch.proofs.lent.is_list_between.Goals as goal

pub loop-i-preserved : goal.loop-i-preserved
loop-i-preserved g c =
    let p : g.row.T.Denot → Bool = is_between g.T.PartialOrder.times c.args.lower.now c.args.upper.now in
    let us = c.args.list.now in
    let i = c.loop-i.i in
    let next : suc i ≡ i + 1 = omega arith in
    let rest : ℕ → Bool = λ n. list_all (λ (u : Update g.row.T.Denot). p u.time) (drop n us) in
    sym (all_from p us i c.time.result c.time.ensures ∙ ap (λ b. b && rest (suc i)) (sym c.lies_between.ensures ∙ c.if-not-lies_between.false) ∙ ap rest next) ∙ c.loop-i.invariant

pub returns-then-not-lies_between : goal.returns-then-not-lies_between
returns-then-not-lies_between g c =
    let p : g.row.T.Denot → Bool = is_between g.T.PartialOrder.times c.args.lower.now c.args.upper.now in
    let us = c.args.list.now in
    let i = c.loop-i.i in
    let rest : ℕ → Bool = λ n. list_all (λ (u : Update g.row.T.Denot). p u.time) (drop n us) in
    sym (ap (λ b. b && rest (suc i)) (sym c.lies_between.ensures ∙ c.if-not-lies_between.true)) ∙ sym (all_from p us i c.time.result c.time.ensures) ∙ c.loop-i.invariant

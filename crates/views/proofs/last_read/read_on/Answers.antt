use Rattle.std.proofs.Common.{◌++◌, ◌∙◌, map, sym, subst, inl, inr, ⊎_elim, FitsSigned, w64}
use Rattle.std.proofs.lemmas.Result.{err_from_is_err_and}
use Rattle.update.specs.Bags.{Alike}
use Rattle.update.specs.Updates.{as_of, entry}
use Rattle.views.specs.Views.{IsReadOf}
use Rattle.views.proofs.ViewLemmas.{read_onward, read_of_all}
use Rattle.views.proofs.last_read.read_on.Goals as goal

pub returns-clause-sum : goal.returns-clause-sum
returns-clause-sum g c row =
    let last = c.args.last.now in
    let us = c.args.captured.now in
    let whole = read_onward g.T.PartialOrder.times g.met.T.PartialOrder.order last.time c.args.t c.requires.onward us (map entry c.in_ok-arrived.arrived.items) last.bag last.known last.later.items c.requires.last c.in_ok-arrived.ensures.arrived in
    let seen = subst (λ came. Alike c.in_ok-bag.bag (last.bag ++ map entry came)) c.deref.ensures.value c.in_ok-bag.ensures.sum in
    seen row ∙ whole row

pub returns-clause-read : goal.returns-clause-read
returns-clause-read g c =
    subst (λ n. IsReadOf g.T.PartialOrder.times c.args.captured.now c.args.t c.in_ok-bag.bag n c.in_ok-later.later.items) (sym c.len.ensures)
    (read_of_all g.T.PartialOrder.times c.args.captured.now c.args.t c.in_ok-bag.bag c.in_ok-later.later.items (returns-clause-sum g c) c.in_ok-later.ensures.later)

pub returns-in_err-bag-clause-refused : goal.returns-in_err-bag-clause-refused
returns-in_err-bag-clause-refused g c =
    let last = c.args.last.now in
    let us = c.args.captured.now in
    let whole = read_onward g.T.PartialOrder.times g.met.T.PartialOrder.order last.time c.args.t c.requires.onward us (map entry c.in_ok-arrived.arrived.items) last.bag last.known last.later.items c.requires.last c.in_ok-arrived.ensures.arrived in
    let seen = subst (λ came. Alike (last.bag ++ map entry came) (as_of g.T.PartialOrder.times c.args.t us)) (sym c.deref.ensures.value) whole in
    let got = err_from_is_err_and c.from_residual-in_err-bag.result c.from_residual-in_err-bag.ensures.1 in
    rw got.1
    (⊎_elim
    (λ memory. inl (got.2 ∙ memory))
    (λ large. inr (got.2 ∙ large.0, (large.1.0, λ fits. large.1.1 (subst (FitsSigned w64) (sym (seen large.1.0)) fits))))
    c.in_err-bag.ensures.refused)

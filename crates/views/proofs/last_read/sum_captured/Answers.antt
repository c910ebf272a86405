use Rattle.std.proofs.Common.{◌++◌, ◌∙◌, map, ap, subst, sym, inl, inr, ⊎_elim, FitsSigned, w64}
use Rattle.std.proofs.lemmas.Result.{err_from_is_err_and}
use Rattle.update.specs.Bags.{Alike, count_of}
use Rattle.update.specs.Updates.{entry}
use Rattle.update.proofs.TotalLemmas.{fits_zero}
use Rattle.views.proofs.CapturedLemmas.{all_came}
use Rattle.views.proofs.last_read.sum_captured.Goals as goal

pub returns-clause-sum : goal.returns-clause-sum
returns-clause-sum g c row =
    let us = c.args.captured.now in
    let none = c.in_ok-none.none in
    let whole = all_came g.T.PartialOrder.times c.args.t us none (map entry c.in_ok-arrived.arrived.items) (map entry c.push_arrived.new.arrived.items) c.len.result c.len.ensures
    (subst (Alike none) c.new.ensures c.in_ok-none.ensures.sum) (ap (map entry) c.in_ok-arrived.ensures.items) c.in_ok-push_arrived.ensures.more in
    c.in_ok-bag.ensures.sum row ∙ ap (λ vs. count_of (none ++ map entry vs) row) c.deref.ensures.value ∙ whole row

pub returns-in_err-none-clause-refused : goal.returns-in_err-none-clause-refused
returns-in_err-none-clause-refused g c =
    let got = err_from_is_err_and c.from_residual-in_err-none.result c.from_residual-in_err-none.ensures.1 in
    rw got.1
    (⊎_elim
    (λ memory. inl (got.2 ∙ memory))
    (λ large. absurd (large.1.1 (subst (λ es. FitsSigned w64 (count_of es large.1.0)) (sym c.new.ensures) fits_zero)))
    c.in_err-none.ensures.refused)

pub returns-in_err-bag-clause-refused : goal.returns-in_err-bag-clause-refused
returns-in_err-bag-clause-refused g c =
    let us = c.args.captured.now in
    let none = c.in_ok-none.none in
    let whole = all_came g.T.PartialOrder.times c.args.t us none (map entry c.in_ok-arrived.arrived.items) (map entry c.push_arrived.new.arrived.items) c.len.result c.len.ensures
    (subst (Alike none) c.new.ensures c.in_ok-none.ensures.sum) (ap (map entry) c.in_ok-arrived.ensures.items) c.in_ok-push_arrived.ensures.more in
    let seen = λ (row : _). ap (λ vs. count_of (none ++ map entry vs) row) c.deref.ensures.value ∙ whole row in
    let got = err_from_is_err_and c.from_residual-in_err-bag.result c.from_residual-in_err-bag.ensures.1 in
    rw got.1
    (⊎_elim
    (λ memory. inl (got.2 ∙ memory))
    (λ large. inr (got.2 ∙ large.0, (large.1.0, λ fits. large.1.1 (subst (FitsSigned w64) (sym (seen large.1.0)) fits))))
    c.in_err-bag.ensures.refused)

use Rattle.std.proofs.Common.{◌≡◌, ◌∙◌, [], ◌∷◌, true, sym, subst}
use Rattle.correction.proofs.ResultLemmas.{ok_both}
use Rattle.batch.specs.Intervals.{is_interval_of}
use Rattle.operator.proofs.ReductionLemmas.{large_size, seal_refused, from_start, times_beyond}
use Rattle.operator.proofs.reduction.sealed.Goals as goal

pub returns-clause-refused : goal.returns-clause-refused
returns-clause-refused g c =
    let times = g.T.PartialOrder.times in
    let us = c.args.updates.now in
    let whole = subst (λ z. is_interval_of times c.args.start.now z us ≡ true) (sym c.new-end.ensures) (subst (λ z. is_interval_of times z [] us ≡ true) (sym c.requires.start) (from_start times (g.T.PartialOrder.times.least ∷ []) us (sym (times_beyond times (g.T.PartialOrder.times.least ∷ []) us) ∙ c.requires.later))) in
    seal_refused c.seal_list.result (λ e. c.seal_list.ensures.stray.0 e whole) (λ e. large_size times us (c.seal_list.ensures.overflow e)) c.seal_list.ensures.only

pub returns-clause-same : goal.returns-clause-same
returns-clause-same g c =
    ok_both c.seal_list.result (λ batch s a l. record { sums = s; among = a; smaller = l }) c.seal_list.ensures.sums c.seal_list.ensures.among c.seal_list.ensures.size

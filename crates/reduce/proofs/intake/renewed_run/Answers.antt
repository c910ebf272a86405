use Rattle.std.proofs.Common.{[], Some, None, length, sym, ◌∙◌, refl, subst}
use Rattle.reduce.specs.declared.intake.Renewal.{Renewal}
use Rattle.reduce.specs.Histories.{HistoryState, IsHistory}
use Rattle.reduce.proofs.TakenLemmas.{stands_found, stands_none, nothing_sorted, empty_history, history_at, renewed_from}
use Rattle.reduce.proofs.intake.renewed_run.Goals as goal

-- the times of the history that is found are in order
pub with_times-requires-clause-times : goal.with_times-requires-clause-times
with_times-requires-clause-times g c =
    rw c.times.ensures (history_at g.T.Ord.cmp (length c.args.key) c.args.histories.now.items c.in-Some.i c.get-history.result.now c.requires.known c.get-history.ensures).times

pub with_times-requires-clause-due : goal.with_times-requires-clause-due
with_times-requires-clause-due g c =
    rw c.due.ensures (history_at g.T.Ord.cmp (length c.args.key) c.args.histories.now.items c.in-Some.i c.get-history.result.now c.requires.known c.get-history.ensures).due

-- and so are no times
pub with_times-requires-in-None-clause-times : goal.with_times-requires-in-None-clause-times
with_times-requires-in-None-clause-times g c = rw (c.deref-in-None.ensures.value, c.new-none.ensures.items) (nothing_sorted g.T.Ord.cmp)

pub with_times-requires-in-None-clause-due : goal.with_times-requires-in-None-clause-due
with_times-requires-in-None-clause-due g c = rw (c.deref-in-None-2.ensures.value, c.new-none.ensures.items) (nothing_sorted g.T.Ord.cmp)

pub returns-in-Some-clause-renewed : goal.returns-in-Some-clause-renewed
returns-in-Some-clause-renewed g c =
    let hs = c.args.histories.now.items in
    let old = c.get-history.result.now in
    let is = history_at g.T.Ord.cmp (length c.args.key) hs c.in-Some.i old c.requires.known c.get-history.ensures in
    let made : Renewal g.row.T.Denot = record { key = c.args.key; place = Some c.in-Some.i; times = c.in_ok-made-in-Some.made.times; due = c.in_ok-made-in-Some.made.due } in
    let new = c.deref.ensures.value ∙ c.in_ok-new.ensures.times in
    renewed_from g.T.PartialOrder.times g.T.Ord.cmp hs c.args.key old _ made
    (stands_found hs c.args.key c.in-Some.i old c.known.ensures c.in-Some.ensures.found c.get-history.ensures)
    (subst (λ n. IsHistory g.T.Ord.cmp n old) (sym is.width) is) refl
    c.in_ok-made-in-Some.ensures.ordered_times c.in_ok-made-in-Some.ensures.ordered_due
    (rw (c.times.ensures, new) at c.in_ok-made-in-Some.ensures.times)
    (rw (c.times.ensures, c.due.ensures, new) at c.in_ok-made-in-Some.ensures.due)

pub returns-clause-renewed : goal.returns-clause-renewed
returns-clause-renewed g c =
    let hs = c.args.histories.now.items in
    let old : HistoryState g.row.T.Denot = record { key = c.args.key; times = []; due = []; given = [] } in
    let made : Renewal g.row.T.Denot = record { key = c.args.key; place = None; times = c.in_ok-made-in-None.made.times; due = c.in_ok-made-in-None.made.due } in
    let new = c.deref-in-None-3.ensures.value ∙ c.in_ok-new.ensures.times in
    let ts = c.deref-in-None.ensures.value ∙ c.new-none.ensures.items in
    let due = c.deref-in-None-2.ensures.value ∙ c.new-none.ensures.items in
    renewed_from g.T.PartialOrder.times g.T.Ord.cmp hs c.args.key old _ made
    (stands_none hs c.args.key old (c.find.ensures.absent c.in-None.is) refl refl refl refl)
    (empty_history g.T.Ord.cmp old refl refl refl) refl
    c.in_ok-made-in-None.ensures.ordered_times c.in_ok-made-in-None.ensures.ordered_due
    (rw (ts, new) at c.in_ok-made-in-None.ensures.times)
    (rw (ts, due, new) at c.in_ok-made-in-None.ensures.due)

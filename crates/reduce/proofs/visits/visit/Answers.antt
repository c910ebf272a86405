use Rattle.std.proofs.Common.{◌≢◌, ◌∙◌, [], length, sym, subst, inl, inr, ⊎_elim, IsTrue}
use Rattle.std.specs.List.{list_all}
use Rattle.trace.specs.Readings.{all_content}
use Rattle.joined_times.specs.Joined.{of_key}
use Rattle.reduce.proofs.BlindLemmas.{seen_own, seen_length, seen_settles, seen_overfull}
use Rattle.correction.proofs.ResultLemmas.{passed_on}
use Rattle.reduce.proofs.VisitLemmas.{there, what_is_there, put_there, history_at, left_alone, settled_there}
use Rattle.reduce.proofs.visits.visit.Goals as goal

pub returns-then-not-is_due-clause-visited : goal.returns-then-not-is_due-clause-visited
returns-then-not-is_due-clause-visited g c =
    let h = c.get-history.result.now in
    left_alone g.T.PartialOrder.times c.args.frontier.now (g.R.Reducer.reduces c.args.reducer.now) (all_content g.B.BatchReader.content c.args.batches.now) c.args.histories.now.items
    c.args.place h (there c.args.histories.now.items c.args.place h c.get-history.ensures) (what_is_there (λ h. h.due ≢ []) c.args.histories.now.items c.args.place h c.get-history.ensures c.requires.waits)
    (sym (rw c.due.ensures at c.is_due.ensures) ∙ c.if-not-is_due.true) c.args.gathered.now.out c.args.gathered.now.changes.items c.args.gathered.now.waiting.items c.push.new.self.items c.args.gathered.now.looked c.in_ok-push.ensures.items

pub sweep_key-requires-clause-ascending : goal.sweep_key-requires-clause-ascending
sweep_key-requires-clause-ascending g c =
    (history_at g.T.Ord.cmp c.requires.known.0 c.args.histories.now.items c.args.place c.get-history.result.now c.requires.known.1 c.get-history.ensures).due

pub sweep_key-requires-clause-rows : goal.sweep_key-requires-clause-rows
sweep_key-requires-clause-rows g c =
    let h = c.get-history.result.now in
    let rows = c.as_slice.ensures.value ∙ (rw c.key.ensures at c.in_ok-rows.ensures.rows) in
    seen_own (g.R.Reducer.sees_rows c.args.reducer.now) h.key (all_content g.B.BatchReader.content c.args.batches.now) c.as_slice.result.now rows

pub sweep_key-requires-clause-given : goal.sweep_key-requires-clause-given
sweep_key-requires-clause-given g c =
    let h = c.get-history.result.now in
    let is = history_at g.T.Ord.cmp c.requires.known.0 c.args.histories.now.items c.args.place h c.requires.known.1 c.get-history.ensures in
    subst (λ n. IsTrue (list_all (of_key n h.key) h.given)) (sym is.width) is.keyed

pub returns-in_err-settled-clause-refused : goal.returns-in_err-settled-clause-refused
returns-in_err-settled-clause-refused g c =
    let h = c.get-history.result.now in
    let rows = c.as_slice.ensures.value ∙ (rw c.key.ensures at c.in_ok-rows.ensures.rows) in
    passed_on c.from_residual-in_err-settled.result c.in_err-settled.field-0.0 _ c.from_residual-in_err-settled.ensures.1
    (⊎_elim inl (λ y. inr (
      y.0,
      put_there _ c.args.histories.now.items c.args.place c.get-history.result.now c.get-history.ensures
          (seen_overfull (g.R.Reducer.sees_rows c.args.reducer.now) h.key (all_content g.B.BatchReader.content c.args.batches.now) c.as_slice.result.now rows
          g.T.PartialOrder.times (g.R.Reducer.reduces c.args.reducer.now) (g.met.R.Reducer.blind c.args.reducer.now (length h.key)) h.given c.args.frontier.now h.due y.1),
    )) c.in_err-settled.ensures.refused)

pub returns-clause-visited : goal.returns-clause-visited
returns-clause-visited g c =
    let h = c.get-history.result.now in
    let content = all_content g.B.BatchReader.content c.args.batches.now in
    let rows = c.as_slice.ensures.value ∙ (rw c.key.ensures at c.in_ok-rows.ensures.rows) in
    let sees = g.R.Reducer.sees_rows c.args.reducer.now in
    settled_there g.T.PartialOrder.times c.args.frontier.now (g.R.Reducer.reduces c.args.reducer.now) (all_content g.B.BatchReader.content c.args.batches.now) c.args.histories.now.items
    c.args.place h (there c.args.histories.now.items c.args.place h c.get-history.ensures)
    (sym (rw c.due.ensures at c.is_due.ensures) ∙ c.if-not-is_due.false) c.in_ok-settled.settled.given.items c.in_ok-settled.settled.due.items
    (seen_settles sees h.key content c.as_slice.result.now rows g.T.PartialOrder.times (g.R.Reducer.reduces c.args.reducer.now) (g.met.R.Reducer.blind c.args.reducer.now (length h.key)) h.given c.args.frontier.now h.due (length h.due) c.in_ok-settled.settled.given.items c.in_ok-settled.settled.due.items c.in_ok-settled.ensures.settled)
    c.args.gathered.now.out c.put.new.self.out c.args.gathered.now.changes.items c.put.new.self.changes.items c.args.gathered.now.waiting.items c.put.new.self.waiting.items c.args.gathered.now.looked c.put.new.self.looked c.len.result
    c.in_ok-put.ensures.out c.in_ok-put.ensures.changes c.in_ok-put.ensures.waiting
    (c.len.ensures ∙ (sym c.as_slice.ensures.len ∙ seen_length sees h.key content c.as_slice.result.now rows))
    (c.in_ok-put.ensures.looked ∙ c.saturating_add-gathered.ensures)

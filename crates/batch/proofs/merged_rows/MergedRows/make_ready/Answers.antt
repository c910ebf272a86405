use Rattle.std.proofs.Common.{◌≡◌, ◌≢◌, ◌⊎◌, [], inl, inr, ⊎_elim, sym, ◌∙◌, rules}
use Rattle.std.proofs.lemmas.Result.{err_from_is_err_and}
use Rattle.update.specs.declared.change.Update.{Update}
use Rattle.batch.proofs.HandLemmas.{said_of, settled_before, large_before}
use Rattle.batch.proofs.merged_rows.MergedRows.make_ready.Goals as goal

pub returns-then-has_row-clause-kept : goal.returns-then-has_row-clause-kept
returns-then-has_row-clause-kept g c next e us vs xs ys m n =
    (sym (said_of (λ (u : Update g.row.T.Denot). u.row ≡ c.args.self.now.row) c.args.source.now c.args.place next e (c.has_row.ensures.yes (search rules))), m)

pub returns-in_err-finish_row-clause-refused : goal.returns-in_err-finish_row-clause-refused
returns-in_err-finish_row-clause-refused g c =
    let p = err_from_is_err_and c.from_residual.result c.from_residual.ensures.1 in
    rw p.1 (⊎_elim
    (λ d. inl (p.2 ∙ d))
    (λ r. inr (
      p.2 ∙ r.0,
      λ next e us vs xs ys m n.
          let other = said_of (λ (u : Update g.row.T.Denot). (c.args.self.now.in_hand.items ≡ []) ⊎ (u.row ≢ c.args.self.now.row)) c.args.source.now c.args.place next e (c.has_row.ensures.no (search rules)) in
          large_before g.T.PartialOrder.times g.T.Ord.cmp c.args.since.now us vs c.args.self.now.finished xs ys next c.args.self.now.row c.args.self.now.in_hand.items other m n r.1,
    ))
    c.in_err-finish_row.ensures.refused)

pub returns-clause-kept : goal.returns-clause-kept
returns-clause-kept g c next e us vs xs ys m n =
    let other = said_of (λ (u : Update g.row.T.Denot). (c.args.self.now.in_hand.items ≡ []) ⊎ (u.row ≢ c.args.self.now.row)) c.args.source.now c.args.place next e (c.has_row.ensures.no (search rules)) in
    let row = said_of (λ (u : Update g.row.T.Denot). c.row_near.result ≡ u.row) c.args.source.now c.args.place next e c.row_near.ensures in
    let w = c.in_ok-finish_row.ensures.written in
    (row, settled_before g.T.PartialOrder.times g.T.Ord.cmp c.args.since.now us vs c.args.self.now.finished w.0 c.finish_row.new.self.finished xs ys next c.args.self.now.row c.row_near.result c.args.self.now.in_hand.items c.finish_row.new.self.in_hand.items other w.1 c.in_ok-finish_row.ensures.emptied w.2 w.3 c.in_ok-finish_row.ensures.fits m n)

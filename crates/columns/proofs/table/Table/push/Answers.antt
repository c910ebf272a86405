use Rattle.std.proofs.Common.{◌≡◌, ◌+◌, ◌++◌, ◌∷◌, [], ◌∙◌, ap, length, arith, rules}
use Rattle.std.proofs.lemmas.Result.{err_from_is_err_and}
use Rattle.columns.specs.Tables.{rows_from, row_at}
use Rattle.columns.proofs.TableLemmas.{rows_widened, rows_behind, rows_push}
use Rattle.columns.proofs.table.Table.push.Goals as goal

pub returns-in_err-widen-clause-same : goal.returns-in_err-widen-clause-same
returns-in_err-widen-clause-same c =
    let p = err_from_is_err_and c.from_residual.result c.from_residual.ensures.1 in
    rw p.1 (rows_widened c.self.inside.columns.items c.widen.new.columns.items c.self.inside.widths.items c.self.invariant.within c.in_err-widen.ensures.same ∙ c.self.view_is)

pub returns-in_err-put_row-clause-same : goal.returns-in_err-put_row-clause-same
returns-in_err-put_row-clause-same c =
    let p = err_from_is_err_and c.from_residual-in_err-put_row.result c.from_residual-in_err-put_row.ensures.1 in
    let widths = c.self.inside.widths.items in
    let high : c.len-height.result ≡ length widths = search rules in
    rw p.1 (rows_behind c.widen.new.columns.items c.put_row.new.columns.items widths _ c.self.invariant.within (λ k w h. c.in_err-put_row.ensures.kept k w (omega (arith, h, high)))
    ∙ rows_widened c.self.inside.columns.items c.widen.new.columns.items widths c.self.invariant.within c.in_ok-widen.ensures.same
    ∙ c.self.view_is)

pub returns-in_err-push-clause-same : goal.returns-in_err-push-clause-same
returns-in_err-push-clause-same c =
    let p = err_from_is_err_and c.from_residual-in_err-push.result c.from_residual-in_err-push.ensures.1 in
    let widths = c.self.inside.widths.items in
    let high : c.len-height.result ≡ length widths = search rules in
    rw p.1 (ap (rows_from 0 c.put_row.new.columns.items) c.in_err-push.ensures.items
    ∙ rows_behind c.widen.new.columns.items c.put_row.new.columns.items widths _ c.self.invariant.within (λ k w h. c.in_ok-put_row.ensures.kept k w (omega (arith, h, high)))
    ∙ rows_widened c.self.inside.columns.items c.widen.new.columns.items widths c.self.invariant.within c.in_ok-widen.ensures.same
    ∙ c.self.view_is)

pub returns-clause-more : goal.returns-clause-more
returns-clause-more c =
    let columns = c.put_row.new.columns.items in
    let widths = c.self.inside.widths.items in
    let row = c.columns-columns.result.now in
    let high : c.len-height.result ≡ length widths = search rules in
    let width = length row in
    let pushed : c.push.new.self.items ≡ widths ++ width ∷ [] = c.in_ok-push.ensures.items in
    let before : rows_from 0 columns widths ≡ c.args.self.now = rows_behind c.widen.new.columns.items columns widths _ c.self.invariant.within (λ k w h. c.in_ok-put_row.ensures.kept k w (omega (arith, h, high)))
    ∙ rows_widened c.self.inside.columns.items c.widen.new.columns.items widths c.self.invariant.within c.in_ok-widen.ensures.same
    ∙ c.self.view_is in
    let behind : 0 + length widths ≡ c.len-height.result = omega (arith, high) in
    let put : row_at columns (0 + length widths) width ≡ c.args.row.now = ap (λ n. row_at columns n width) behind ∙ c.in_ok-put_row.ensures.put (search rules) ∙ c.columns-columns.ensures.columns in
    ap (rows_from 0 columns) pushed ∙ rows_push columns 0 widths width ∙ (λ j. before j ++ put j ∷ [])

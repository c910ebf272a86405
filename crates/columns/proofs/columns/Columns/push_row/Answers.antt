use Rattle.std.proofs.Common.{◌≡◌, ◌++◌, ◌∷◌, [], cond, ◌∙◌, ap, length, FitsSigned, w64, rules}
use Rattle.std.proofs.lemmas.Int.{to_z-of_z}
use Rattle.update.specs.Bags.{same_row}
use Rattle.columns.specs.Tables.{last_row}
use Rattle.columns.specs.Runs.{updates_from}
use Rattle.columns.proofs.ColumnsLemmas.{pushed, kept, columns_alike}
use Rattle.columns.proofs.columns.Columns.push_row.Goals as goal

pub invariant_of-self-2 : goal.invariant_of-self-2
invariant_of-self-2 g c =
    let starts = c.self.inside.starts.items in
    let rows = c.self.inside.rows in
    let elements = c.self.inside.times.items in
    let diffs = c.self.inside.diffs.items in
    let row = c.args.row.now in
    let place : c.len-place.result ≡ length elements = search rules in
    let fits : FitsSigned w64 c.args.diff = search rules in
    columns_alike _ c.enter_run.new.starts.items _ c.enter_run.new.rows _ c.push_reserved.new.self.items _ c.push_reserved-2.new.self.items
    (c.in_ok-enter_run.ensures.started ∙ ap (λ n. starts ++ cond (same_row (last_row rows) row) [] (n ∷ [])) place)
    c.in_ok-enter_run.ensures.stored
    (c.push_reserved.ensures.items ∙ ap (λ ts. ts ++ c.args.time ∷ []) c.reserve.ensures.items)
    (c.push_reserved-2.ensures.items ∙ (λ j. c.reserve-2.ensures.items j ++ to_z-of_z w64 c.args.diff fits j ∷ []))
    (kept starts rows elements diffs c.self.invariant c.args.time row c.args.diff c.known.ensures.some)

pub returns-clause-more : goal.returns-clause-more
returns-clause-more g c =
    let starts = c.self.inside.starts.items in
    let rows = c.self.inside.rows in
    let elements = c.self.inside.times.items in
    let diffs = c.self.inside.diffs.items in
    let row = c.args.row.now in
    let place : c.len-place.result ≡ length elements = search rules in
    let fits : FitsSigned w64 c.args.diff = search rules in
    let s = c.in_ok-enter_run.ensures.started ∙ ap (λ n. starts ++ cond (same_row (last_row rows) row) [] (n ∷ [])) place in
    let r = c.in_ok-enter_run.ensures.stored in
    let t = c.push_reserved.ensures.items ∙ ap (λ ts. ts ++ c.args.time ∷ []) c.reserve.ensures.items in
    let d = c.push_reserved-2.ensures.items ∙ (λ j. c.reserve-2.ensures.items j ++ to_z-of_z w64 c.args.diff fits j ∷ []) in
    (λ j. updates_from 0 (s j) (r j) (t j) (d j))
    ∙ pushed starts rows elements diffs c.self.invariant c.args.time row c.args.diff c.known.ensures.some
    ∙ ap (λ us. us ++ record { time = c.args.time; row = row; diff = c.args.diff } ∷ []) c.self.view_is

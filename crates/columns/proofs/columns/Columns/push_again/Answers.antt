use Rattle.std.proofs.Common.{◌≡◌, ◌<◌, ◌++◌, ◌∷◌, [], ◌∙◌, sym, ap, length, FitsSigned, w64, rules, arith}
use Rattle.std.proofs.lemmas.Int.{to_z-of_z}
use Rattle.columns.specs.Tables.{last_row}
use Rattle.columns.specs.Runs.{updates_from}
use Rattle.columns.proofs.ColumnsLemmas.{long, pushed_again, kept_longer, last_again}
use Rattle.columns.proofs.columns.Columns.push_again.Goals as goal

pub invariant_of-self-2 : goal.invariant_of-self-2
invariant_of-self-2 g c =
    let starts = c.self.inside.starts.items in
    let rows = c.self.inside.rows in
    let elements = c.self.inside.times.items in
    let diffs = c.self.inside.diffs.items in
    let many = sym (long starts rows elements diffs c.self.invariant) ∙ ap length c.self.view_is in
    let asked = c.requires in
    let some : 0 < length elements = omega (arith, asked, many) in
    kept_longer starts rows elements diffs c.self.invariant some _ c.push_reserved.new.self.items _ _ c.push_reserved-2.new.self.items _
    c.push_reserved.ensures.items c.reserve.ensures.items c.push_reserved-2.ensures.items c.reserve-2.ensures.items

pub returns-clause-more : goal.returns-clause-more
returns-clause-more g c =
    let starts = c.self.inside.starts.items in
    let rows = c.self.inside.rows in
    let elements = c.self.inside.times.items in
    let diffs = c.self.inside.diffs.items in
    let many = sym (long starts rows elements diffs c.self.invariant) ∙ ap length c.self.view_is in
    let asked = c.requires in
    let some : 0 < length elements = omega (arith, asked, many) in
    let fits : FitsSigned w64 c.args.diff = search rules in
    let t = c.push_reserved.ensures.items ∙ ap (λ ts. ts ++ c.args.at ∷ []) c.reserve.ensures.items in
    let d = c.push_reserved-2.ensures.items ∙ (λ j. c.reserve-2.ensures.items j ++ to_z-of_z w64 c.args.diff fits j ∷ []) in
    let appended =
    (λ j. updates_from 0 starts rows (t j) (d j))
    ∙ pushed_again starts rows elements diffs c.self.invariant c.args.at c.args.diff some in
    last_again starts rows elements diffs c.self.invariant c.args.at c.args.diff some c.args.self.now c.self.view_is
    (λ row. updates_from 0 starts rows c.push_reserved.new.self.items c.push_reserved-2.new.self.items ≡ c.args.self.now ++ record { time = c.args.at; row = row; diff = c.args.diff } ∷ [])
    (appended ∙ ap (λ us. us ++ record { time = c.args.at; row = last_row rows; diff = c.args.diff } ∷ []) c.self.view_is)

use Rattle.std.proofs.Common.{[], ◌∷◌, ◌∙◌, length, refl, ap, rules}
use Rattle.update.specs.Bags.{Alike, count_of}
use Rattle.plan.specs.Reductions.{single}
use Rattle.reducer.specs.Kinds.{max_answer, max_reduces}
use Rattle.reducer.proofs.AnswerLemmas.{gives_answer, gives_keyed}
use Rattle.reducer.proofs.DistinctLemmas.{no_entry}
use Rattle.reducer.proofs.ExtremeLemmas.{last_is, no_greatest}
use Rattle.reducer.proofs.extremes.MaxReducer.reduce.Goals as goal

pub returns-in-Some : goal.returns-in-Some
returns-in-Some g c =
    let key = c.args.key.now in
    let rows = g.C.RowCounts.entries c.args.rows.now in
    let found = c.in-Some.ensures in
    let made = c.one_row.ensures in
    let row = c.row_at.result in
    let answer : Alike (single row ∷ []) (max_answer key rows) =
    λ other. ap (λ r. count_of (single r ∷ []) other) (c.row_at.ensures no_entry) ∙ last_is rows c.known.ensures.order key c.in-Some.i found.inside found.positive found.last other in
    record {
      value = gives_answer max_answer key rows (single row ∷ []) c.one_row.result made.one answer;
      bag = made.bag;
      keyed = gives_keyed max_answer key rows (single row ∷ []) c.one_row.result made.one answer (max_reduces (length key)) c.requires.keyed made.bag;
      refused = search rules;
    }

pub returns-in-None : goal.returns-in-None
returns-in-None g c =
    let key = c.args.key.now in
    let rows = g.C.RowCounts.entries c.args.rows.now in
    let made = c.no_rows.ensures in
    let answer : Alike [] (max_answer key rows) = no_greatest rows c.known.ensures.order key (c.in-None.ensures.none refl) in
    record {
      value = gives_answer max_answer key rows [] c.no_rows.result made.none answer;
      bag = made.bag;
      keyed = gives_keyed max_answer key rows [] c.no_rows.result made.none answer (max_reduces (length key)) c.requires.keyed made.bag;
      refused = search rules;
    }

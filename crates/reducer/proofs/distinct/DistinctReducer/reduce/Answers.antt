use Rattle.std.proofs.Common.{◌≡◌, ◌∙◌, ◌++◌, length, ap, subst}
use Rattle.update.specs.Bags.{HasLargeCount, Alike, count_of}
use Rattle.reducer.specs.Kinds.{positive_rows, distinct_answer, distinct_reduces}
use Rattle.reducer.proofs.AnswerLemmas.{gives_answer, gives_keyed, only_memory}
use Rattle.reducer.proofs.DistinctLemmas.{distinct_is, positive_fit}
use Rattle.reducer.proofs.distinct.DistinctReducer.reduce.Goals as goal

pub returns : goal.returns
returns g c =
    let key = c.args.key.now in
    let rows = g.C.RowCounts.entries c.args.rows.now in
    let written = c.put_positive.new.entries in
    let made = c.into_bag.ensures in
    let listed : written ≡ positive_rows rows = c.in_ok-put_positive.ensures.positive ∙ ap (λ es. es ++ positive_rows rows) c.new-entries.ensures in
    let answer : Alike written (distinct_answer key rows) = λ row. ap (λ es. count_of es row) listed ∙ distinct_is key rows c.known.ensures.order row in
    record {
      value = gives_answer distinct_answer key rows written c.into_bag.result made.sum answer;
      bag = made.bag;
      keyed = gives_keyed distinct_answer key rows written c.into_bag.result made.sum answer (distinct_reduces (length key)) c.requires.keyed made.bag;
      refused = only_memory written c.into_bag.result (λ large. positive_fit rows c.known.ensures.order (subst HasLargeCount listed large)) made.refused;
    }

-- What holds of a reading follows from the headline.
use Rattle.std.proofs.Common.{not, List, ap, sym, ◌∙◌}
use Rattle.lattice.specs.Times.{Times}
use Rattle.lattice.specs.Order.{PartialOrderLaws}
use Rattle.histories.specs.declared.event.Event.{Event}
use Rattle.histories.specs.Histories.Dataflows.{Dataflow, IsDataflow}
use Rattle.histories.specs.Histories.Outstanding.{frontier}
use Rattle.histories.specs.Histories.{IsLegal, state_after}
use Rattle.histories.specs.Histories.Readings.{ReadsQuery}
use Rattle.histories.proofs.HistoryLemmas.HeadlineLemmas.{headline_lem}
use Rattle.histories.proofs.HistoryLemmas.QuietLemmas.{beyond_elements}

-- in every legal history, any reading of a view is the query at times that are passed and still
-- held
pub reads_lem : {T : Type 0} (times : Times T) → PartialOrderLaws times → (p : Dataflow) → IsDataflow p → (h : List (Event T)) → IsLegal times p h → ReadsQuery times p (state_after times p h)
reads_lem times o p q h l view us front since r t passed held row =
    r.sums t held row
    ∙ headline_lem times o p q h l view t (ap not (sym (beyond_elements times front (frontier times p (state_after times p h) view) r.stands t)) ∙ passed) row

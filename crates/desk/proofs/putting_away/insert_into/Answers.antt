use Rattle.std.proofs.Common.{ap, ◌∙◌}
use Rattle.operator.specs.Arrangements.{ArrangementState}
use Rattle.desk.proofs.putting_away.insert_into.Goals as goal

pub returns : goal.returns
returns g c =
    let put = c.insert.ensures in
    let merged = c.work.ensures in
    record {
      width = ap (λ (z : ArrangementState g.row.T.Denot). z.width) merged.kept ∙ ap (λ (z : ArrangementState g.row.T.Denot). z.width) put.inserted;
      start = ap (λ (z : ArrangementState g.row.T.Denot). z.spine.list.start) merged.kept ∙ ap (λ (z : ArrangementState g.row.T.Denot). z.spine.list.start) put.inserted;
      waiting = ap (λ (z : ArrangementState g.row.T.Denot). z.waiting) merged.kept ∙ ap (λ (z : ArrangementState g.row.T.Denot). z.waiting) put.inserted;
      holds = ap (λ (z : ArrangementState g.row.T.Denot). z.holds) merged.kept ∙ ap (λ (z : ArrangementState g.row.T.Denot). z.holds) put.inserted;
      stands = λ h x. merged.stands _ (put.stands h x);
      whole = λ h x. merged.«open» _ (put.«open» h x);
    }

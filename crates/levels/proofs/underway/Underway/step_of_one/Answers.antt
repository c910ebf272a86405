use Rattle.std.proofs.Common.{[], inl, inr, ⊎_elim, refl, ◌∙◌}
use Rattle.std.proofs.lemmas.Result.{err_from_is_err_and}
use Rattle.levels.specs.Levels.{UnderwayState}
use Rattle.levels.proofs.UnderwayLemmas.{one_here, stepped_at, stepped_all, refused_at}
use Rattle.levels.proofs.underway.Underway.step_of_one.Goals as goal

pub returns-in_err-merging-clause-refused : goal.returns-in_err-merging-clause-refused
returns-in_err-merging-clause-refused g c =
    let times = g.T.PartialOrder.times in
    let cmp = g.T.Ord.cmp in
    let bs = c.args.batches.now in
    let v : UnderwayState g.row.T.Denot = record { number = c.self.inside.number; alone = c.self.inside.is_alone; merging = c.self.inside.merging } in
    let here = one_here times cmp bs bs v c.args.self c.index-batches-number.result refl c.self.view_is c.requires.one c.requires.at c.index-batches-number.is in
    let p = err_from_is_err_and c.from_residual.result c.from_residual.ensures.1 in
    rw p.1 (⊎_elim (λ e. inl (p.2 ∙ e)) (λ r. inr (p.2 ∙ r.0, r.1))
    (refused_at times cmp bs v c.index-batches-number.result.description c.index-batches-number.result.updates [] here.has c.args.self c.self.view_is c.in_err-merging.field-0.0 c.in_err-merging.ensures.refused))

pub returns-clause-at : goal.returns-clause-at
returns-clause-at g c =
    let times = g.T.PartialOrder.times in
    let cmp = g.T.Ord.cmp in
    let bs = c.args.batches.now in
    let v : UnderwayState g.row.T.Denot = record { number = c.self.inside.number; alone = c.self.inside.is_alone; merging = c.self.inside.merging } in
    let here = one_here times cmp bs bs v c.args.self c.index-batches-number.result refl c.self.view_is c.requires.one c.requires.at c.index-batches-number.is in
    stepped_at times cmp bs v c.index-batches-number.result.description c.index-batches-number.result.updates [] here.has c.in_ok-merging.merging c.in_ok-merging.ensures.described c.in_ok-merging.ensures.kept

pub returns-clause-on : goal.returns-clause-on
returns-clause-on g c =
    let times = g.T.PartialOrder.times in
    let cmp = g.T.Ord.cmp in
    let bs = c.args.batches.now in
    let v : UnderwayState g.row.T.Denot = record { number = c.self.inside.number; alone = c.self.inside.is_alone; merging = c.self.inside.merging } in
    let here = one_here times cmp bs bs v c.args.self c.index-batches-number.result refl c.self.view_is c.requires.one c.requires.at c.index-batches-number.is in
    ⊎_elim (λ e. inl e) (λ r. inr (stepped_all times cmp bs v c.index-batches-number.result.description c.index-batches-number.result.updates [] here.has c.in_ok-merging.merging r)) c.in_ok-merging.ensures.on

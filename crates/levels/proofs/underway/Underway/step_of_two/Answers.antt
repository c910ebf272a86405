use Rattle.std.proofs.Common.{inl, inr, ⊎_elim, refl, ◌∙◌, arith}
use Rattle.std.proofs.lemmas.Result.{err_from_is_err_and}
use Rattle.levels.specs.Levels.{UnderwayState}
use Rattle.levels.proofs.UnderwayLemmas.{two_within, two_here, stepped_at, stepped_all, refused_at}
use Rattle.levels.proofs.underway.Underway.step_of_two.Goals as goal

pub bounds-batches-number-2 : goal.bounds-batches-number-2
bounds-batches-number-2 g c =
    let times = g.T.PartialOrder.times in
    let cmp = g.T.Ord.cmp in
    let bs = c.args.batches.now in
    let v : UnderwayState g.row.T.Denot = record { number = c.self.inside.number; alone = c.self.inside.is_alone; merging = c.self.inside.merging } in
    let l = two_within times cmp bs bs v c.args.self refl c.self.view_is c.requires.two c.requires.at in
    omega (arith, l)

pub step-requires : goal.step-requires
step-requires g c =
    let times = g.T.PartialOrder.times in
    let cmp = g.T.Ord.cmp in
    let bs = c.args.batches.now in
    let v : UnderwayState g.row.T.Denot = record { number = c.self.inside.number; alone = c.self.inside.is_alone; merging = c.self.inside.merging } in
    let here = two_here times cmp bs bs v c.args.self c.index-batches-number.result c.index-batches-number-2.result refl c.self.view_is c.requires.two c.requires.at c.index-batches-number.is c.index-batches-number-2.is in
    here.has.of.underway

pub returns-in_err-merging-clause-refused : goal.returns-in_err-merging-clause-refused
returns-in_err-merging-clause-refused g c =
    let times = g.T.PartialOrder.times in
    let cmp = g.T.Ord.cmp in
    let bs = c.args.batches.now in
    let v : UnderwayState g.row.T.Denot = record { number = c.self.inside.number; alone = c.self.inside.is_alone; merging = c.self.inside.merging } in
    let here = two_here times cmp bs bs v c.args.self c.index-batches-number.result c.index-batches-number-2.result refl c.self.view_is c.requires.two c.requires.at c.index-batches-number.is c.index-batches-number-2.is in
    let p = err_from_is_err_and c.from_residual.result c.from_residual.ensures.1 in
    rw p.1 (⊎_elim (λ e. inl (p.2 ∙ e)) (λ r. inr (p.2 ∙ r.0, r.1))
    (refused_at times cmp bs v (record c.index-batches-number.result.description { upper = c.index-batches-number-2.result.description.upper }) c.index-batches-number.result.updates c.index-batches-number-2.result.updates here.has c.args.self c.self.view_is c.in_err-merging.field-0.0 c.in_err-merging.ensures.refused))

pub returns-clause-at : goal.returns-clause-at
returns-clause-at g c =
    let times = g.T.PartialOrder.times in
    let cmp = g.T.Ord.cmp in
    let bs = c.args.batches.now in
    let v : UnderwayState g.row.T.Denot = record { number = c.self.inside.number; alone = c.self.inside.is_alone; merging = c.self.inside.merging } in
    let here = two_here times cmp bs bs v c.args.self c.index-batches-number.result c.index-batches-number-2.result refl c.self.view_is c.requires.two c.requires.at c.index-batches-number.is c.index-batches-number-2.is in
    stepped_at times cmp bs v (record c.index-batches-number.result.description { upper = c.index-batches-number-2.result.description.upper }) c.index-batches-number.result.updates c.index-batches-number-2.result.updates here.has c.in_ok-merging.merging c.in_ok-merging.ensures.described c.in_ok-merging.ensures.kept

pub returns-clause-on : goal.returns-clause-on
returns-clause-on g c =
    let times = g.T.PartialOrder.times in
    let cmp = g.T.Ord.cmp in
    let bs = c.args.batches.now in
    let v : UnderwayState g.row.T.Denot = record { number = c.self.inside.number; alone = c.self.inside.is_alone; merging = c.self.inside.merging } in
    let here = two_here times cmp bs bs v c.args.self c.index-batches-number.result c.index-batches-number-2.result refl c.self.view_is c.requires.two c.requires.at c.index-batches-number.is c.index-batches-number-2.is in
    ⊎_elim (λ e. inl e) (λ r. inr (stepped_all times cmp bs v (record c.index-batches-number.result.description { upper = c.index-batches-number-2.result.description.upper }) c.index-batches-number.result.updates c.index-batches-number-2.result.updates here.has c.in_ok-merging.merging r)) c.in_ok-merging.ensures.on

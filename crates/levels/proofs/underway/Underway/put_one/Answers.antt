use Rattle.std.proofs.Common.{set, [], inl, inr, ⊎_elim, refl, ◌∙◌}
use Rattle.std.proofs.lemmas.Result.{err_from_is_err_and}
use Rattle.levels.specs.Levels.{UnderwayState, Rewritten}
use Rattle.levels.proofs.UnderwayLemmas.{one_within, one_here, all_read, refused_at, same_reserved, change_one}
use Rattle.levels.proofs.underway.Underway.put_one.Goals as goal

pub finish_one-requires-clause-read : goal.finish_one-requires-clause-read
finish_one-requires-clause-read g c =
    let times = g.T.PartialOrder.times in
    let cmp = g.T.Ord.cmp in
    let bs = c.batches-batches.result.now in
    let cs = c.args.list.now.batches in
    let v : UnderwayState g.row.T.Denot = record { number = c.self.inside.number; alone = c.self.inside.is_alone; merging = c.self.inside.merging } in
    let here = one_here times cmp bs cs v c.args.self c.index-batches-number.result c.batches-batches.ensures.value c.self.view_is c.requires.one c.requires.at c.index-batches-number.is in
    all_read times cmp cs v c.index-batches-number.result.description c.index-batches-number.result.updates [] here.has c.args.self c.self.view_is c.requires.read

pub returns-in_err-rewritten-clause-refused : goal.returns-in_err-rewritten-clause-refused
returns-in_err-rewritten-clause-refused g c =
    let times = g.T.PartialOrder.times in
    let cmp = g.T.Ord.cmp in
    let bs = c.batches-batches.result.now in
    let cs = c.args.list.now.batches in
    let v : UnderwayState g.row.T.Denot = record { number = c.self.inside.number; alone = c.self.inside.is_alone; merging = c.self.inside.merging } in
    let here = one_here times cmp bs cs v c.args.self c.index-batches-number.result c.batches-batches.ensures.value c.self.view_is c.requires.one c.requires.at c.index-batches-number.is in
    let p = err_from_is_err_and c.from_residual.result c.from_residual.ensures.1 in
    rw p.1 (⊎_elim (λ e. inl (p.2 ∙ e)) (λ r. inr (p.2 ∙ r.0, r.1))
    (refused_at times cmp cs v c.index-batches-number.result.description c.index-batches-number.result.updates [] here.has c.args.self c.self.view_is c.in_err-rewritten.field-0.0 c.in_err-rewritten.ensures.refused))

pub put_one-requires-clause-within : goal.put_one-requires-clause-within
put_one-requires-clause-within g c =
    let times = g.T.PartialOrder.times in
    let cmp = g.T.Ord.cmp in
    let bs = c.batches-batches.result.now in
    let cs = c.args.list.now.batches in
    let v : UnderwayState g.row.T.Denot = record { number = c.self.inside.number; alone = c.self.inside.is_alone; merging = c.self.inside.merging } in
    one_within times cmp cs cs v c.args.self refl c.self.view_is c.requires.one c.requires.at

pub put_one-requires-clause-rewritten : goal.put_one-requires-clause-rewritten
put_one-requires-clause-rewritten g c =
    let times = g.T.PartialOrder.times in
    let cmp = g.T.Ord.cmp in
    let bs = c.batches-batches.result.now in
    let cs = c.args.list.now.batches in
    let v : UnderwayState g.row.T.Denot = record { number = c.self.inside.number; alone = c.self.inside.is_alone; merging = c.self.inside.merging } in
    let here = one_here times cmp bs cs v c.args.self c.index-batches-number.result c.batches-batches.ensures.value c.self.view_is c.requires.one c.requires.at c.index-batches-number.is in
    (change_one cmp g.met.T.PartialOrder.order g.met.T.Lattice.bounds cs v c.args.self c.self.view_is c.index-batches-number.result c.in_ok-rewritten.rewritten here c.in_ok-rewritten.ensures.described c.in_ok-rewritten.ensures.stand).3

pub returns-clause-changed : goal.returns-clause-changed
returns-clause-changed g c =
    let times = g.T.PartialOrder.times in
    let cmp = g.T.Ord.cmp in
    let bs = c.batches-batches.result.now in
    let cs = c.args.list.now.batches in
    let v : UnderwayState g.row.T.Denot = record { number = c.self.inside.number; alone = c.self.inside.is_alone; merging = c.self.inside.merging } in
    let here = one_here times cmp bs cs v c.args.self c.index-batches-number.result c.batches-batches.ensures.value c.self.view_is c.requires.one c.requires.at c.index-batches-number.is in
    (Rewritten v.number c.in_ok-rewritten.rewritten, same_reserved c.put_one.new.self c.args.list.now (set cs v.number c.in_ok-rewritten.rewritten) c.args.list.now.reserved c.put_one.ensures, change_one cmp g.met.T.PartialOrder.order g.met.T.Lattice.bounds cs v c.args.self c.self.view_is c.index-batches-number.result c.in_ok-rewritten.rewritten here c.in_ok-rewritten.ensures.described c.in_ok-rewritten.ensures.stand)

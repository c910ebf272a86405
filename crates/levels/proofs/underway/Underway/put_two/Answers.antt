use Rattle.std.proofs.Common.{true, inl, inr, ⊎_elim, refl, ◌∙◌, arith}
use Rattle.std.proofs.lemmas.Result.{err_from_is_err_and}
use Rattle.trace.specs.BatchLists.{merged_at}
use Rattle.levels.specs.Levels.{UnderwayState, Merged}
use Rattle.levels.proofs.UnderwayLemmas.{two_within, two_here, all_read, refused_at, same_reserved, change_two}
use Rattle.levels.proofs.underway.Underway.put_two.Goals as goal

pub bounds-batches-number-2 : goal.bounds-batches-number-2
bounds-batches-number-2 g c =
    let times = g.T.PartialOrder.times in
    let cmp = g.T.Ord.cmp in
    let bs = c.batches-batches.result.now in
    let cs = c.args.list.now.batches in
    let v : UnderwayState g.row.T.Denot = record { number = c.self.inside.number; alone = c.self.inside.is_alone; merging = c.self.inside.merging } in
    let l = two_within times cmp bs cs v c.args.self c.batches-batches.ensures.value c.self.view_is c.requires.two c.requires.at in
    omega (arith, l)

pub finish-requires-clause-underway : goal.finish-requires-clause-underway
finish-requires-clause-underway g c =
    let times = g.T.PartialOrder.times in
    let cmp = g.T.Ord.cmp in
    let bs = c.batches-batches.result.now in
    let cs = c.args.list.now.batches in
    let v : UnderwayState g.row.T.Denot = record { number = c.self.inside.number; alone = c.self.inside.is_alone; merging = c.self.inside.merging } in
    let here = two_here times cmp bs cs v c.args.self c.index-batches-number.result c.index-batches-number-2.result c.batches-batches.ensures.value c.self.view_is c.requires.two c.requires.at c.index-batches-number.is c.index-batches-number-2.is in
    here.has.of.underway

pub finish-requires-clause-read : goal.finish-requires-clause-read
finish-requires-clause-read g c =
    let times = g.T.PartialOrder.times in
    let cmp = g.T.Ord.cmp in
    let bs = c.batches-batches.result.now in
    let cs = c.args.list.now.batches in
    let v : UnderwayState g.row.T.Denot = record { number = c.self.inside.number; alone = c.self.inside.is_alone; merging = c.self.inside.merging } in
    let here = two_here times cmp bs cs v c.args.self c.index-batches-number.result c.index-batches-number-2.result c.batches-batches.ensures.value c.self.view_is c.requires.two c.requires.at c.index-batches-number.is c.index-batches-number-2.is in
    all_read times cmp cs v (record c.index-batches-number.result.description { upper = c.index-batches-number-2.result.description.upper }) c.index-batches-number.result.updates c.index-batches-number-2.result.updates here.has c.args.self c.self.view_is c.requires.read

pub returns-in_err-merged-clause-refused : goal.returns-in_err-merged-clause-refused
returns-in_err-merged-clause-refused g c =
    let times = g.T.PartialOrder.times in
    let cmp = g.T.Ord.cmp in
    let bs = c.batches-batches.result.now in
    let cs = c.args.list.now.batches in
    let v : UnderwayState g.row.T.Denot = record { number = c.self.inside.number; alone = c.self.inside.is_alone; merging = c.self.inside.merging } in
    let here = two_here times cmp bs cs v c.args.self c.index-batches-number.result c.index-batches-number-2.result c.batches-batches.ensures.value c.self.view_is c.requires.two c.requires.at c.index-batches-number.is c.index-batches-number-2.is in
    let p = err_from_is_err_and c.from_residual.result c.from_residual.ensures.1 in
    rw p.1 (⊎_elim (λ e. inl (p.2 ∙ e)) (λ r. inr (p.2 ∙ r.0, r.1))
    (refused_at times cmp cs v (record c.index-batches-number.result.description { upper = c.index-batches-number-2.result.description.upper }) c.index-batches-number.result.updates c.index-batches-number-2.result.updates here.has c.args.self c.self.view_is c.in_err-merged.field-0.0 c.in_err-merged.ensures.refused))

pub put_pair-requires-clause-within : goal.put_pair-requires-clause-within
put_pair-requires-clause-within g c =
    let times = g.T.PartialOrder.times in
    let cmp = g.T.Ord.cmp in
    let bs = c.batches-batches.result.now in
    let cs = c.args.list.now.batches in
    let v : UnderwayState g.row.T.Denot = record { number = c.self.inside.number; alone = c.self.inside.is_alone; merging = c.self.inside.merging } in
    two_within times cmp cs cs v c.args.self refl c.self.view_is c.requires.two c.requires.at

pub put_pair-requires-clause-merged : goal.put_pair-requires-clause-merged
put_pair-requires-clause-merged g c =
    let times = g.T.PartialOrder.times in
    let cmp = g.T.Ord.cmp in
    let bs = c.batches-batches.result.now in
    let cs = c.args.list.now.batches in
    let v : UnderwayState g.row.T.Denot = record { number = c.self.inside.number; alone = c.self.inside.is_alone; merging = c.self.inside.merging } in
    let here = two_here times cmp bs cs v c.args.self c.index-batches-number.result c.index-batches-number-2.result c.batches-batches.ensures.value c.self.view_is c.requires.two c.requires.at c.index-batches-number.is c.index-batches-number-2.is in
    (change_two cmp g.met.T.PartialOrder.order g.met.T.Lattice.bounds cs v c.args.self c.self.view_is c.index-batches-number.result c.index-batches-number-2.result c.in_ok-merged.merged here c.in_ok-merged.ensures.described c.in_ok-merged.ensures.stand).3

pub returns-clause-changed : goal.returns-clause-changed
returns-clause-changed g c =
    let times = g.T.PartialOrder.times in
    let cmp = g.T.Ord.cmp in
    let bs = c.batches-batches.result.now in
    let cs = c.args.list.now.batches in
    let v : UnderwayState g.row.T.Denot = record { number = c.self.inside.number; alone = c.self.inside.is_alone; merging = c.self.inside.merging } in
    let here = two_here times cmp bs cs v c.args.self c.index-batches-number.result c.index-batches-number-2.result c.batches-batches.ensures.value c.self.view_is c.requires.two c.requires.at c.index-batches-number.is c.index-batches-number-2.is in
    (Merged v.number c.in_ok-merged.merged, same_reserved c.put_pair.new.self c.args.list.now (merged_at v.number c.in_ok-merged.merged cs) true c.put_pair.ensures, change_two cmp g.met.T.PartialOrder.order g.met.T.Lattice.bounds cs v c.args.self c.self.view_is c.index-batches-number.result c.index-batches-number-2.result c.in_ok-merged.merged here c.in_ok-merged.ensures.described c.in_ok-merged.ensures.stand)

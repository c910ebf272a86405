use Rattle.std.proofs.Common.{◌+◌, arith}
use Rattle.std.specs.Prelude.{slice_set}
use Rattle.progress.specs.Kept.{IsInserted, IsSpared}
use Rattle.progress.proofs.AskedLemmas.{at_next, at_rest, spared_still}
use Rattle.progress.proofs.table.insert_in_each.Goals as goal

pub loop-number-preserved : goal.loop-number-preserved
loop-number-preserved g c = record {
  inserted = at_next (IsInserted g.T.PartialOrder.times c.args.graph.now c.args.place.now c.args.t) c.args.asked.now c.args.kept.now.items c.loop-number.kept.items c.loop-number.number c.index-asked-number.result c.number.result c.index_mut.result.now c.insert.new.self
      c.requires.asked (omega (arith, c.loop-number-test.true)) c.index-asked-number.is c.number.ensures c.index_mut.ensures.value c.in_ok-insert.ensures.inserted c.loop-number.invariant.inserted;
  spared = at_next (IsSpared c.args.graph.now c.args.place.now) c.args.asked.now c.args.kept.now.items c.loop-number.kept.items c.loop-number.number c.index-asked-number.result c.number.result c.index_mut.result.now c.insert.new.self
      c.requires.asked (omega (arith, c.loop-number-test.true)) c.index-asked-number.is c.number.ensures c.index_mut.ensures.value c.in_ok-insert.ensures.spared c.loop-number.invariant.spared;
}

pub returns-in_err-insert-clause-spared : goal.returns-in_err-insert-clause-spared
returns-in_err-insert-clause-spared g c =
    at_rest (IsSpared c.args.graph.now c.args.place.now) (spared_still c.args.graph.now c.args.place.now) c.args.asked.now c.args.kept.now.items (slice_set c.loop-number.kept.items c.number.result c.insert.new.self) (c.loop-number.number + 1)
    (at_next (IsSpared c.args.graph.now c.args.place.now) c.args.asked.now c.args.kept.now.items c.loop-number.kept.items c.loop-number.number c.index-asked-number.result c.number.result c.index_mut.result.now c.insert.new.self
    c.requires.asked (omega (arith, c.loop-number-test.true)) c.index-asked-number.is c.number.ensures c.index_mut.ensures.value c.in_err-insert.ensures.spared c.loop-number.invariant.spared)

use Rattle.std.proofs.Common.{ℕ}
use Rattle.lattice.specs.Bitimes.{bitime_times}
use Rattle.lattice.specs.declared.product.Pair.{Pair}
use Rattle.histories.specs.declared.event.Fed.{Fed}
use Rattle.engines.proofs.OracleEngineLemmas.{entry_answered}
use Rattle.engines.proofs.oracle_engine.OracleEngineEngine.change.Goals as goal

pub returns-clause-answered : goal.returns-clause-answered
returns-clause-answered c s a =
    let f : Fed (Pair ℕ ℕ) = record { input = c.args.input; update = c.args.update } in
    let r = c.take_change in
    entry_answered bitime_times c.args.self.now r.new.self f s r.result c.requires r.ensures.register r.ensures.taken r.ensures.accepted r.ensures.refused r.ensures.unchanged a

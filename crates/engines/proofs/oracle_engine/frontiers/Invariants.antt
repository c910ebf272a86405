use Rattle.lattice.specs.Bitimes.{bitime_times}
use Rattle.engines.proofs.OracleEngineLemmas.{AreSome}
use Rattle.engines.proofs.oracle_engine.frontiers.Given as goal

-- the frontiers of the inputs so far
abbrev pub invariant-loop-n : goal.invariant-loop-n
invariant-loop-n l = AreSome bitime_times l.plan l.inputs l.n l.all.items

use Rattle.std.proofs.Common.{◌≡◌, length}
use Rattle.lattice.specs.Bitimes.{bitime_times}
use Rattle.lattice.specs.Pairs.{make_pair}
use Rattle.engines.proofs.OracleEngineLemmas.{AreLeast}
use Rattle.engines.proofs.oracle_engine.first_sinces.Given as goal

-- the sinces so far
abbrev pub invariant-loop-n : goal.invariant-loop-n
invariant-loop-n l = (length l.sinces ≡ length l.plan) × AreLeast bitime_times (make_pair 0 0) l.n l.sinces

use Rattle.std.proofs.Common.{◌≡◌, ℕ, ◌<◌, []}
use Rattle.histories.specs.Histories.States.{place}
use Rattle.outstanding.specs.Loads.{queue_of}
use Rattle.outstanding.specs.Stations.{lots}
use Rattle.outstanding.proofs.stations.Stations.port_waiting.Given as goal

-- nothing waits at the ports so far
abbrev pub invariant-loop-port : goal.invariant-loop-port
invariant-loop-port g l = (port : ℕ) → port < l.port → queue_of (lots l.self) (place l.node port l.worker) ≡ []

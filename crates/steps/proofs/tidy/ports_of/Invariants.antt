use Rattle.std.proofs.Common.{◌≡◌, ◌+◌, ◌<◌, length}
use Rattle.std.specs.Prelude.{All}
use Rattle.histories.specs.declared.event.Site.{Site}
use Rattle.steps.specs.Steps.{ArePorts}
use Rattle.steps.proofs.tidy.ports_of.Given as goal

-- the ports of the nodes so far
abbrev pub invariant-loop-n : goal.invariant-loop-n
invariant-loop-n l = (length l.ports.items ≡ l.n + l.n) × ArePorts l.plan l.n l.ports.items × All (λ (site : Site). site.node < length l.plan) l.ports.items

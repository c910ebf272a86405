-- The input frontiers of several ports, as one tenure finds them. A site names a port here; the
-- worker that it names is not read.
use Rattle.std.specs.Prelude.{◌≡◌, ℕ, ◌<◌, List, Some, All, length, slice_get}
use Rattle.lattice.specs.Times.{Times}
use Rattle.lattice.specs.Frontiers.{is_beyond}
use Rattle.histories.specs.declared.event.Site.{Site}
use Rattle.histories.specs.Histories.Dataflows.{Dataflow}
use Rattle.histories.specs.Histories.Outstanding.{port_frontier}
use Rattle.histories.specs.Histories.States.{State}

-- each of the ports is at a node of the dataflow
abbrev pub AreWithin : Dataflow → List Site → Type 0
AreWithin p ports = All (λ (site : Site). site.node < length p.nodes) ports

module _ {T : Type 0} (times : Times T) (p : Dataflow) (w : State T) where
  -- the same times are beyond this list as beyond the input frontier of the port
  abbrev pub IsFrontOf : Site → List T → Type 0
  IsFrontOf site front = (t : T)
      → is_beyond times front t ≡ is_beyond times (port_frontier times p w site.node site.port) t

  -- for each port there is its input frontier, in the order of the ports
  abbrev pub AreFrontsOf : List Site → List (List T) → Type 0
  AreFrontsOf ports fronts = (i : ℕ) (site : Site) → slice_get ports i ≡ Some site
      → (front : List T) × (slice_get fronts i ≡ Some front) × IsFrontOf site front

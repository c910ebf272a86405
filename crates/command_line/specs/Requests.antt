-- Which requests can be carried out.
use Rattle.std.specs.Prelude.{◌≤◌}
use Rattle.command_line.specs.declared.request.Action.{Action}
use Rattle.command_line.specs.declared.request.Action.TheVariants.{Run, Plain, Check}
use Rattle.command_line.specs.declared.request.Request.{Request}
use Rattle.command_line.specs.declared.request.Request.TheVariants as request

-- the number of workers is supported
abbrev pub IsInRange : Action → Type 0
IsInRange (Run file workers) = (1 ≤ workers) × (workers ≤ 16)
IsInRange (Plain file) = Unit {0}
IsInRange (Check file) = Unit {0}

-- so is that of a request
abbrev pub IsSupported : Request → Type 0
IsSupported (request.Act action told) = IsInRange action
IsSupported (request.Compare comparison) = (1 ≤ comparison.workers) × (comparison.workers ≤ 16)
IsSupported (request.Explain file) = Unit {0}
IsSupported (request.Import schema table) = Unit {0}
IsSupported (request.Show dictionary text) = Unit {0}

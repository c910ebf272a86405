-- What a fault of printing says of the output.
use Rattle.std.specs.Prelude.{ℕ}
use Rattle.output.specs.declared.fault.PrintFault.{PrintFault}
use Rattle.output.specs.declared.fault.PrintFault.TheVariants as fault

-- how many calls of the output failed before this fault was returned
abbrev pub failures : PrintFault → ℕ
failures fault.OutOfMemory = 0
failures fault.Write = 1

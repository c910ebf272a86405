-- The codes with which faults are reported.
use Rattle.std.specs.Prelude.{◌≡◌, ◌≢◌, ℕ}
use Rattle.update.specs.Refusals.{code_of}
use Rattle.update.specs.declared.refusal.Refusal.{Refusal}
use Rattle.update.specs.declared.refusal.Refusal.TheVariants.{OutOfMemory}
use Rattle.grammar.specs.declared.fault.LineError.{LineError}
use Rattle.grammar.specs.declared.fault.LineError.TheVariants as error

-- running out of memory has code 1
abbrev pub error_code : LineError → ℕ
error_code error.Memory = 1
error_code (error.Refused refusal) = code_of refusal

-- the error is this refusal; running out of memory is kept apart, because it says nothing about the
-- line
abbrev pub IsErrorOf : Refusal → LineError → Type 0
IsErrorOf refusal error.Memory = refusal ≡ OutOfMemory
IsErrorOf refusal (error.Refused other) = (other ≡ refusal) × (refusal ≢ OutOfMemory)

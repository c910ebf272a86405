-- What the program does with the bytes of a file, and the status that reports how it went.
use Rattle.std.specs.Prelude.{◌≡◌, ◌⊎◌, ℕ, eqb, if◌then◌else◌, List, [], Option, Some, None, Result, Ok, Err}
use Rattle.update.specs.declared.refusal.Refusal.{Refusal}
use Rattle.grammar.specs.Scripts.{script_of}
use Rattle.grammar.specs.ScriptModels.{ScriptModel}
use Rattle.output.specs.Outs.{IsBeginning}
use Rattle.script.specs.declared.fault.RunFault.{RunFault}
use Rattle.script.specs.declared.fault.RunFault.TheVariants.{Refused, Write}
use Rattle.grammar.specs.declared.fault.Fault.{Fault}

-- the status of a run that ended early
abbrev pub status_of : RunFault → ℕ
status_of (Refused code) = if eqb code 10 then 4 else 3
status_of Write = 3

-- the status of a faulty file; code 1 means that memory ran out, which says nothing about the file
abbrev pub fault_status : Fault → ℕ
fault_status fault = if eqb fault.code 1 then 3 else 2

-- `took` says which bytes the output took in this call, and how many of its calls failed; `wanted`
-- is the text to write for a script; and `IsBeforeOverflow` says which part of it is written if a
-- number is too large
module _ (took : List ℕ → ℕ → Type 0) (wanted : ScriptModel → List ℕ) (IsBeforeOverflow : ScriptModel → List ℕ → Type 0) where
  -- a script that was carried out: 0 means that exactly the wanted text was written, 3 that a
  -- beginning of it was, and 4 that exactly the part before an overflow was
  abbrev pub IsCarriedOut : ScriptModel → ℕ → Type 0
  IsCarriedOut t status = ((status ≡ 0) × took (wanted t) 0)
      ⊎ (((status ≡ 3) × (part : List ℕ) × (failures : ℕ) × IsBeginning part (wanted t) × took part failures)
      ⊎ ((status ≡ 4) × (part : List ℕ) × IsBeginning part (wanted t) × IsBeforeOverflow t part × took part 0))

  -- what happens to a parsed file; if it is at fault, nothing is written, and the status is 2
  abbrev pub IsDone : Result ScriptModel (ℕ × Refusal) → ℕ → Type 0
  IsDone (Ok t) status = IsCarriedOut t status
  IsDone (Err fault) status = (status ≡ 2) × took [] 0

  -- if the file was not read, or memory ran out while it was parsed, nothing is written and the
  -- status is 3
  abbrev pub Acts : Option (List ℕ) → ℕ → Type 0
  Acts None status = (status ≡ 3) × took [] 0
  Acts (Some bytes) status = IsDone (script_of bytes) status ⊎ ((status ≡ 3) × took [] 0)

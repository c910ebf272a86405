-- Why a run ends before its last line.
use Rattle.std.specs.Prelude.{◌≡◌, ◌⊎◌, ℕ}
use Rattle.update.specs.declared.refusal.Refusal.{Refusal}
use Rattle.update.specs.Refusals.{code_of}
use Rattle.script.specs.declared.fault.RunFault.{RunFault}
use Rattle.script.specs.declared.fault.RunFault.TheVariants as fault

-- why a run may end early: the output failed, memory was refused, or the engine gave a refusal that
-- ends the run
abbrev pub IsEnd : (Refusal → Type 0) → RunFault → Type 0
IsEnd Ends (fault.Refused code) = (code ≡ 1)
    ⊎ ((refusal : Refusal) × (code ≡ code_of refusal) × Ends refusal)
IsEnd Ends fault.Write = Unit {0}

-- why a run by a crew may end early: as by another engine, or a thread could not be made
abbrev pub IsCrewEnd : (Refusal → Type 0) → RunFault → Type 0
IsCrewEnd Ends met = IsEnd Ends met ⊎ (met ≡ fault.Refused 24)

-- why a run may end early for all that its threads do: the output failed, memory was refused, or a
-- number is too large for this cause
abbrev pub IsRunEnd : Type 0 → RunFault → Type 0
IsRunEnd Large (fault.Refused code) = (code ≡ 1) ⊎ ((code ≡ 10) × Large)
IsRunEnd Large fault.Write = Unit {0}

-- how many calls of the output failed in a run that ended like this
abbrev pub failures : RunFault → ℕ
failures (fault.Refused code) = 0
failures fault.Write = 1

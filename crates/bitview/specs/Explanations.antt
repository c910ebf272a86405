-- What `explain` writes of a file, and the status that reports what was found.
use Rattle.std.specs.Prelude.{◌≡◌, ◌⊎◌, ℕ, List, [], Option, Some, None, Result, Ok, Err}
use Rattle.update.specs.Refusals.{code_of}
use Rattle.update.specs.declared.refusal.Refusal.{Refusal}
use Rattle.output.specs.Outs.{IsBeginning}
use Rattle.grammar.specs.Scripts.{script_of}
use Rattle.grammar.specs.ScriptModels.{ScriptModel}
use Rattle.explain.specs.Explanations.{fault_head}

-- `took` says which bytes the output took in this call, and how many of its calls failed
module _ (took : List ℕ → ℕ → Type 0) where
  -- a script: nothing is at fault, and the status says whether there are warnings. A faulty file:
  -- what is written begins with its first fault
  abbrev pub IsExplained : Result ScriptModel (ℕ × Refusal) → ℕ → Type 0
  IsExplained (Ok t) status = ((status ≡ 0) ⊎ (status ≡ 5)) × (text : List ℕ) × took text 0
  IsExplained (Err (line, refusal)) status = (status ≡ 2)
      × (text : List ℕ) × IsBeginning (fault_head (record { line = line; code = code_of refusal })) text × took text 0

  -- 3: the file was not read, memory was refused or the output failed
  abbrev pub Explains : Option (List ℕ) → ℕ → Type 0
  Explains None status = (status ≡ 3) × took [] 0
  Explains (Some bytes) status = IsExplained (script_of bytes) status
      ⊎ ((status ≡ 3) × (part : List ℕ) × (failures : ℕ) × took part failures)

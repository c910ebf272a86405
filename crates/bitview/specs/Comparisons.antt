-- What `diff` writes of two reads of a view, and the status that reports how it went.
use Rattle.std.specs.Prelude.{◌≡◌, ◌⊎◌, ℕ, ℤ, List, [], Option, Some, None, Result, Ok, Err}
use Rattle.lattice.specs.declared.product.Pair.{Pair}
use Rattle.update.specs.Bags.{Entry}
use Rattle.update.specs.declared.refusal.Refusal.{Refusal}
use Rattle.grammar.specs.Scripts.{script_of}
use Rattle.grammar.specs.ScriptModels.{ScriptModel, view_named}
use Rattle.output.specs.Outs.{IsBeginning}
use Rattle.comparison.specs.Differences.{AreRowsOfEither, difference_text}
use Rattle.engines.specs.Bounds.{IsLarge}
use Rattle.script.specs.Reads.{FindsLastRows, last_session}

-- `took` says which bytes the output took in this call, and how many of its calls failed
module _ (took : List ℕ → ℕ → Type 0) where
  -- status 0: exactly what differs between the two bags was written; 3: a beginning of it
  abbrev pub IsRead : List Entry → List Entry → ℕ → Type 0
  IsRead before after status =
      ((status ≡ 0) × (rows : List (List ℤ)) × AreRowsOfEither before after rows × took (difference_text before after rows) 0)
      ⊎ ((status ≡ 3) × (rows : List (List ℤ)) × AreRowsOfEither before after rows × (part : List ℕ) × (failures : ℕ) × IsBeginning part (difference_text before after rows) × took part failures)

  -- what two reads have found is compared; 6: one of them was refused, and nothing is written
  abbrev pub AreCompared : Result (List Entry) Refusal → Result (List Entry) Refusal → ℕ → Type 0
  AreCompared (Ok before) (Ok after) status = IsRead before after status
  AreCompared (Ok before) (Err refusal) status = (status ≡ 6) × took [] 0
  AreCompared (Err refusal) after status = (status ≡ 6) × took [] 0

  module _ (name : List ℕ) (first second : Pair ℕ ℕ) where
    -- once the script has run, the view of this name has these rows at the two times
    abbrev pub AreFound : ScriptModel → List Entry → List Entry → Type 0
    AreFound t before after = (view : ℕ) × (view_named t name ≡ Some view)
        × FindsLastRows t view first (Ok before) × FindsLastRows t view second (Ok after)

    -- there is no view of this name, or one of the two reads is refused
    abbrev pub IsNoQuestion : ScriptModel → Type 0
    IsNoQuestion t = (view_named t name ≡ None)
        ⊎ ((view : ℕ) × (refusal : Refusal) × (view_named t name ≡ Some view)
        × (FindsLastRows t view first (Err refusal) ⊎ FindsLastRows t view second (Err refusal)))

    -- what happens with a script. If nothing is compared, nothing is written: 3 for want of memory
    -- or of a thread, 4 if a number is too large, 6 if there is no such question
    abbrev pub IsAnswered : ScriptModel → ℕ → Type 0
    IsAnswered t status = ((before : List Entry) × (after : List Entry) × AreFound t before after × IsRead before after status)
        ⊎ (((status ≡ 3) × took [] 0)
        ⊎ (((status ≡ 4) × IsLarge t.plan (last_session t) × took [] 0)
        ⊎ ((status ≡ 6) × IsNoQuestion t × took [] 0)))

    -- what happens with a parsed file; if it is at fault, nothing is written, and the status is 2
    abbrev pub IsComparedIn : Result ScriptModel (ℕ × Refusal) → ℕ → Type 0
    IsComparedIn (Ok t) status = IsAnswered t status
    IsComparedIn (Err fault) status = (status ≡ 2) × took [] 0

    -- if the file was not read, or memory ran out while it was parsed, nothing is written and the
    -- status is 3
    abbrev pub Compares : Option (List ℕ) → ℕ → Type 0
    Compares None status = (status ≡ 3) × took [] 0
    Compares (Some bytes) status = IsComparedIn (script_of bytes) status ⊎ ((status ≡ 3) × took [] 0)

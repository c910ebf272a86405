-- The rows of a view once a script has run.
use Rattle.std.specs.Prelude.{◌≡◌, ◌⊎◌, ℕ, List, Result}
use Rattle.lattice.specs.declared.product.Pair.{Pair}
use Rattle.update.specs.Bags.{Entry}
use Rattle.update.specs.declared.refusal.Refusal.{Refusal}
use Rattle.update.specs.declared.refusal.Refusal.TheVariants.{NoThread, BadWorkers}
use Rattle.grammar.specs.ScriptModels.{ScriptModel}
use Rattle.engines.specs.Answers.{FindsRows}
use Rattle.engines.specs.Bounds.{EndsByBound}
use Rattle.engines.specs.Bitemporal.{BitemporalSession, opening_session}
use Rattle.script.specs.Text.{after_lines}

-- the session after all lines of a script
abbrev pub last_session : ScriptModel → BitemporalSession
last_session t = after_lines t.plan (opening_session t.plan) t.commands

-- the rows of a view at a time once the script has run, or the refusal of a read of them; no other
-- refusal
abbrev pub FindsLastRows : ScriptModel → ℕ → Pair ℕ ℕ → Result (List Entry) Refusal → Type 0
FindsLastRows t view time found =
    FindsRows (λ refusal. ⊥) t.plan (last_session t) view time found

-- why no rows are found: memory was refused, a number is too large and the last session is large, a
-- thread could not be made, or the number of workers is not supported
abbrev pub EndsReads : ScriptModel → Refusal → Type 0
EndsReads t refusal = EndsByBound t.plan (last_session t) refusal
    ⊎ ((refusal ≡ NoThread) ⊎ (refusal ≡ BadWorkers))

-- What the program can be asked for, and what it then writes.
use Rattle.std.specs.Prelude.{ℕ, List, [], ◌∷◌, ◌++◌, length, codes, decimal}
use Rattle.grammar.specs.ScriptModels.{ScriptModel}
use Rattle.script.specs.Ends.{IsTextBeforeOverflow}
use Rattle.script.specs.Text.{text}
use Rattle.command_line.specs.declared.request.Action.{Action}
use Rattle.command_line.specs.declared.request.Action.TheVariants.{Run, Plain, Check}

-- ok NODES COMMANDS
abbrev pub check_text : ScriptModel → List ℕ
check_text t = codes "ok "
    ++ (decimal (length t.plan) ++ (codes " " ++ (decimal (length t.commands) ++ 10 ∷ [])))

-- the text that an action asks for: the script's text, or its size
abbrev pub asked_text : Action → ScriptModel → List ℕ
asked_text (Run file workers) t = text t
asked_text (Plain file) t = text t
asked_text (Check file) t = check_text t

-- what has been written if a number is too large: the text of the lines before; a `check` never
-- meets such a number
abbrev pub IsPartBeforeOverflow : Action → ScriptModel → List ℕ → Type 0
IsPartBeforeOverflow (Run file workers) t part = IsTextBeforeOverflow t part
IsPartBeforeOverflow (Plain file) t part = IsTextBeforeOverflow t part
IsPartBeforeOverflow (Check file) t part = ⊥

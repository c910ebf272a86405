-- The script of a file, or its first faulty line.
use Rattle.std.specs.Prelude.{◌≡◌, ℕ, ◌+◌, ◌⊎◌, true, false, List, [], ◌∷◌, ◌++◌, length, Result, Ok, Err, if◌then◌else◌}
use Rattle.update.specs.Refusals.{code_of}
use Rattle.update.specs.declared.refusal.Refusal.{Refusal}
use Rattle.update.specs.declared.refusal.Refusal.TheVariants.{BadOrder}
use Rattle.grammar.specs.declared.fault.Fault.{Fault}
use Rattle.grammar.specs.Outcomes.{◌>>=◌}
use Rattle.grammar.specs.Text.{lines_of}
use Rattle.grammar.specs.ParseStates.{ParseState}
use Rattle.grammar.specs.Lines.{line_of}
use Rattle.grammar.specs.ScriptModels.{ScriptModel}

-- the script that a parse state has become after all lines
abbrev pub model_of : ParseState → ScriptModel
model_of k = record { names = k.names; plan = k.plan; commands = k.commands }

-- the parse state before the first line
abbrev pub first_parse_state : ParseState
first_parse_state = record { names = []; plan = []; started = false; commands = [] }

-- a refusal on line n ends the parse, with this line as its fault
abbrev pub on_line : {A : Type 0} → ℕ → Result ParseState Refusal
    → (ParseState → Result A (ℕ × Refusal)) → Result A (ℕ × Refusal)
on_line n (Ok k) more = more k
on_line n (Err refusal) more = Err (n, refusal)

-- the script after the lines from number n on, from this parse state; at the end `start` must have
-- come
unfoldable pub lines_from : ℕ → ParseState → List (List ℕ) → Result ScriptModel (ℕ × Refusal)
lines_from n k [] = if k.started then Ok (model_of k) else Err (n, BadOrder)
lines_from n k (line ∷ lines) = on_line n (line_of n k line) (λ k. lines_from (n + 1) k lines)

-- the script, or the number of the faulty line and its refusal
abbrev pub script_of : List ℕ → Result ScriptModel (ℕ × Refusal)
script_of bytes = lines_from 1 first_parse_state (lines_of bytes)

-- the parse state after lines without a fault; the first of them has number n
abbrev pub parse_lines : ℕ → ParseState → List (List ℕ) → Result ParseState Refusal
parse_lines n k [] = Ok k
parse_lines n k (line ∷ lines) = line_of n k line >>= λ k. parse_lines (n + 1) k lines

-- all lines are in order, and `start` is among them
abbrev pub IsScript : List (List ℕ) → ScriptModel → Type 0
IsScript lines t = (k : ParseState) × (parse_lines 1 first_parse_state lines ≡ Ok k)
    × (k.started ≡ true) × (model_of k ≡ t)

-- the lines before number n are in order
abbrev pub IsReached : List (List ℕ) → ℕ → Type 0
IsReached lines n = (before : List (List ℕ)) × (rest : List (List ℕ)) × (k : ParseState)
    × (lines ≡ before ++ rest) × (n ≡ length before + 1)
    × (parse_lines 1 first_parse_state before ≡ Ok k)

-- the lines before number n are in order, and line n is not; or all lines are in order, none of
-- them is `start`, and n is one past the last line
abbrev pub IsFirstFault : List (List ℕ) → ℕ → Refusal → Type 0
IsFirstFault lines n refusal =
    ((before : List (List ℕ)) × (line : List ℕ) × (rest : List (List ℕ)) × (k : ParseState) × (lines ≡ before ++ line ∷ rest) × (n ≡ length before + 1) × (parse_lines 1 first_parse_state before ≡ Ok k) × (line_of n k line ≡ Err refusal))
    ⊎ ((k : ParseState) × (n ≡ length lines + 1) × (parse_lines 1 first_parse_state lines ≡ Ok k) × (k.started ≡ false) × (refusal ≡ BadOrder))

-- the outcome is this fault, given by line and code; code 1 means that memory ran out
abbrev pub IsFault : {Y : Type 0} → ℕ → ℕ → Result Y (ℕ × Refusal) → Type 0
IsFault line code outcome = (code ≡ 1)
    ⊎ ((refusal : Refusal) × (code ≡ code_of refusal) × (outcome ≡ Err (line, refusal)))

-- the function's result, seen through `view`, is this outcome, unless memory ran out
abbrev pub Answers : {X Y : Type 0} → (X → Y) → Result X Fault → Result Y (ℕ × Refusal) → Type 0
Answers view (Ok x) outcome = outcome ≡ Ok (view x)
Answers view (Err fault) outcome = IsFault fault.line fault.code outcome

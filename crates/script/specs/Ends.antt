-- What a run has written if it ends because a number is too large.
use Rattle.std.specs.Prelude.{◌≡◌, ℕ, List, ◌∷◌, ◌++◌}
use Rattle.grammar.specs.Commands.{IsQuestion}
use Rattle.grammar.specs.ScriptModels.{ScriptModel}
use Rattle.grammar.specs.declared.command.CommandLine.{CommandLine}
use Rattle.engines.specs.Bitemporal.{BitemporalSession, opening_session}
use Rattle.script.specs.Text.{after_lines, lines_text}
use Rattle.engines.specs.Bounds.{IsLarge}

-- the text of the lines before some question; the property holds of the session after those lines
pub record IsTextBefore (Holds : BitemporalSession → Type 0) (t : ScriptModel) (s : BitemporalSession) (lines : List CommandLine) (part : List ℕ) : Type 0 where
  pub before : List CommandLine
  pub line : CommandLine
  pub behind : List CommandLine
  pub in_order : before ++ line ∷ behind ≡ lines
  pub asks : IsQuestion line.command
  pub cause : Holds (after_lines t.plan s before)
  pub written : part ≡ lines_text t s before

-- the text of a script before a question that overflowed; the changes before the question give some
-- node a large bound
abbrev pub IsTextBeforeOverflow : ScriptModel → List ℕ → Type 0
IsTextBeforeOverflow t part =
    IsTextBefore (IsLarge t.plan) t (opening_session t.plan) t.commands part

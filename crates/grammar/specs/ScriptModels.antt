-- The contents of a script, which remain after its lines were read.
use Rattle.std.specs.Prelude.{◌≡◌, ℕ, List, [], length, Option, position, slice_get, unwrap_or}
use Rattle.std.specs.Str.{bytes_eq}
use Rattle.std.specs.List.{All}
use Rattle.plan.specs.declared.node.Node.{Node}
use Rattle.grammar.specs.declared.command.CommandLine.{CommandLine}
use Rattle.grammar.specs.Commands.{IsAbout, is_view_of}
use Rattle.grammar.specs.ParseStates.{if_passes}

-- the nodes, their names in the same order, and the commands, each with the number of its line
pub record ScriptModel : Type 0 where
  pub names : List (List ℕ)
  pub plan : List Node
  pub commands : List CommandLine

-- the name of a node; the empty name if there is no such node
abbrev pub name_at : List (List ℕ) → ℕ → List ℕ
name_at names n = unwrap_or (slice_get names n) []

-- the view with this name
unfoldable pub view_named : ScriptModel → List ℕ → Option ℕ
view_named t word = if_passes (is_view_of t.plan) (position (bytes_eq word) t.names)

-- each node has a name, and each command is about a node of the kind that it needs
pub record IsWhole (t : ScriptModel) : Type 0 where
  pub named : length t.names ≡ length t.plan
  pub about : All (λ line. IsAbout t.plan line.command) t.commands

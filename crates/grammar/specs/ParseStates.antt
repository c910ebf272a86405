-- The parse state: what the lines so far have said.
use Rattle.std.specs.Prelude.{ℕ, Bool, List, [], ◌∷◌, ◌++◌, map, Option, Some, None, Result, Ok, Err, is_some, position, string_bytes, if◌then◌else◌}
use Rattle.std.specs.Str.{bytes_eq}
use Rattle.update.specs.declared.refusal.Refusal.{Refusal}
use Rattle.update.specs.declared.refusal.Refusal.TheVariants.{UnknownName, DuplicateName, BadName}
use Rattle.plan.specs.declared.node.Node.{Node}
use Rattle.plan.specs.Rules.{is_readable, node_refusal}
use Rattle.grammar.specs.declared.command.CommandLine.{CommandLine}
use Rattle.grammar.specs.declared.draft.Draft.{Draft}
use Rattle.grammar.specs.Outcomes.{or_refused, unless}
use Rattle.grammar.specs.Names.{is_name}
use Rattle.grammar.specs.Commands.{is_input_of, is_view_of}

-- the nodes, their names in the same order, whether `start` has come, and the commands, each with
-- the number of its line
pub record ParseState : Type 0 where
  pub names : List (List ℕ)
  pub plan : List Node
  pub started : Bool
  pub commands : List CommandLine

-- the parse state that a draft holds
abbrev pub parse_state : Draft → ParseState
parse_state d =
    record { names = map string_bytes d.names.keys; plan = d.plan; started = d.started; commands = d.commands.items }

-- the number of the node with this name
abbrev pub number_of_name : ParseState → List ℕ → Option ℕ
number_of_name k word = position (bytes_eq word) k.names

-- the number, if it passes the test
abbrev pub if_passes : (ℕ → Bool) → Option ℕ → Option ℕ
if_passes test None = None
if_passes test (Some n) = if test n then Some n else None

-- the node with this name, which must exist and pass the test
abbrev pub used_name : (ℕ → Bool) → ParseState → List ℕ → Result ℕ Refusal
used_name test k word = or_refused UnknownName (if_passes test (number_of_name k word))

-- the node with this name, which other nodes must be able to read
unfoldable pub source : ParseState → List ℕ → Result ℕ Refusal
source k word = used_name (is_readable k.plan) k word

-- the node with this name, which must be an input
unfoldable pub input : ParseState → List ℕ → Result ℕ Refusal
input k word = used_name (is_input_of k.plan) k word

-- the node with this name, which must be a view
unfoldable pub view : ParseState → List ℕ → Result ℕ Refusal
view k word = used_name (is_view_of k.plan) k word

-- a new name has the form of a name and is not taken
unfoldable pub new_name : ParseState → List ℕ → Result (List ℕ) Refusal
new_name k word =
    if is_name word then (if is_some (number_of_name k word) then Err DuplicateName else Ok word)
    else Err BadName

-- the plan with one more node, unless its rules refuse that node
abbrev pub plan_with : List Node → Node → Result (List Node) Refusal
plan_with p node = unless (node_refusal p node) (p ++ node ∷ [])

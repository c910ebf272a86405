-- The commands of a script, and the nodes that they are about.
use Rattle.std.specs.Prelude.{ℕ, Bool, ◌&&◌, IsTrue, List, length, nat_lt}
use Rattle.plan.specs.Nodes.{node_at, is_input, is_output}
use Rattle.plan.specs.declared.node.Node.{Node}
use Rattle.grammar.specs.declared.command.Command.{Command}
use Rattle.grammar.specs.declared.command.Command.TheVariants as command
use Rattle.grammar.specs.declared.command.InputCommand.{InputCommand}
use Rattle.grammar.specs.declared.command.InputCommand.TheVariants.{Change, Advance, Close}
use Rattle.grammar.specs.declared.command.ViewCommand.{ViewCommand}
use Rattle.grammar.specs.declared.command.ViewCommand.TheVariants.{Read, Changes, Frontier}

-- n is an input of the plan
abbrev pub is_input_of : List Node → ℕ → Bool
is_input_of p n = nat_lt n (length p) && is_input (node_at p n)

-- n is a view of the plan
abbrev pub is_view_of : List Node → ℕ → Bool
is_view_of p n = nat_lt n (length p) && is_output (node_at p n)

-- the input that a command changes
abbrev pub changed_input : InputCommand → ℕ
changed_input (Change input time diff row) = input
changed_input (Advance input ts) = input
changed_input (Close input) = input

-- the view that a command asks about
abbrev pub asked_view : ViewCommand → ℕ
asked_view (Read view time) = view
asked_view (Changes view) = view
asked_view (Frontier view) = view

-- the command changes an input of the plan, or is about a view of the plan
abbrev pub IsAbout : List Node → Command → Type 0
IsAbout p (command.Input change) = IsTrue (is_input_of p (changed_input change))
IsAbout p (command.Allow view ts) = IsTrue (is_view_of p view)
IsAbout p (command.View question) = IsTrue (is_view_of p (asked_view question))

-- the command asks about a view
abbrev pub IsQuestion : Command → Type 0
IsQuestion (command.Input change) = ⊥
IsQuestion (command.Allow view ts) = ⊥
IsQuestion (command.View question) = Unit {0}

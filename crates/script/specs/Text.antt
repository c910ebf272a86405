-- The text of a script: the pieces that its commands print, in order.
use Rattle.std.specs.Prelude.{◌≡◌, ℕ, List, [], ◌∷◌, ◌++◌, Option, Some, None}
use Rattle.lattice.specs.declared.product.Pair.{Pair}
use Rattle.update.specs.declared.refusal.Refusal.{Refusal}
use Rattle.plan.specs.declared.node.Node.{Node}
use Rattle.grammar.specs.declared.command.Command.{Command}
use Rattle.grammar.specs.declared.command.Command.TheVariants as command
use Rattle.grammar.specs.declared.command.InputCommand.{InputCommand}
use Rattle.grammar.specs.declared.command.InputCommand.TheVariants.{Change, Advance, Close}
use Rattle.grammar.specs.declared.command.ViewCommand.{ViewCommand}
use Rattle.grammar.specs.declared.command.ViewCommand.TheVariants.{Read, Changes, Frontier}
use Rattle.grammar.specs.declared.command.CommandLine.{CommandLine}
use Rattle.grammar.specs.ScriptModels.{ScriptModel, name_at}
use Rattle.antichain.specs.Antichains.{least}
use Rattle.engines.specs.Bitemporal.{BitemporalSession, opening_session}
use Rattle.engines.specs.Orders.{in_order}
use Rattle.output.specs.Lines.{refused_text, rows_text, changes_text, frontier_text}
use Rattle.engines.specs.Sessions.{with_change, with_frontier, with_since, change_refusal, frontier_refusal, since_refusal, read_refusal, changes_refusal, rows_at, changes_at, frontier_at}
use Rattle.lattice.specs.Bitimes.{bitime_times, bitime_cmp}

-- the frontier that these times make: the least of them, in order
abbrev pub frontier_made : List (Pair ℕ ℕ) → List (Pair ℕ ℕ)
frontier_made ts = in_order bitime_cmp (least bitime_times ts)

module _ (p : List Node) (s : BitemporalSession) where
  -- the refusal of a command that changes an input
  abbrev pub input_command_refusal : InputCommand → Option Refusal
  input_command_refusal (Change input time diff row) =
      change_refusal bitime_times p s (record { input = input; update = record { time = time; row = row; diff = diff } })
  input_command_refusal (Advance input ts) =
      frontier_refusal bitime_times p s input (frontier_made ts)
  input_command_refusal (Close input) = None

  -- the refusal of a command that asks about a view
  abbrev pub view_command_refusal : ViewCommand → Option Refusal
  view_command_refusal (Read view time) = read_refusal bitime_times p s view time
  view_command_refusal (Changes view) = changes_refusal bitime_times p s view
  view_command_refusal (Frontier view) = None

  -- the refusal of a command
  abbrev pub command_refusal : Command → Option Refusal
  command_refusal (command.Input change) = input_command_refusal change
  command_refusal (command.Allow view ts) =
      since_refusal bitime_times p s view (frontier_made ts)
  command_refusal (command.View question) = view_command_refusal question

  -- the session after an accepted command that changes an input
  abbrev pub carry_out : InputCommand → BitemporalSession
  carry_out (Change input time diff row) =
      with_change (record { input = input; update = record { time = time; row = row; diff = diff } }) s
  carry_out (Advance input ts) = with_frontier input (frontier_made ts) s
  carry_out (Close input) = with_frontier input [] s

  -- a refused command leaves the session as it is
  abbrev pub carry_out_unless : Option Refusal → InputCommand → BitemporalSession
  carry_out_unless None change = carry_out change
  carry_out_unless (Some refusal) change = s

  -- the same of a command that gives up a part of a view's past
  abbrev pub give_up_unless : Option Refusal → ℕ → List (Pair ℕ ℕ) → BitemporalSession
  give_up_unless None view frontier = with_since view frontier s
  give_up_unless (Some refusal) view frontier = s

  -- the session after a command; a question leaves it as it is
  abbrev pub after_command : Command → BitemporalSession
  after_command (command.Input change) = carry_out_unless (input_command_refusal change) change
  after_command (command.Allow view ts) =
      give_up_unless (since_refusal bitime_times p s view (frontier_made ts)) view (frontier_made ts)
  after_command (command.View question) = s

module _ (t : ScriptModel) (s : BitemporalSession) where
  -- the answer to an accepted question
  abbrev pub answer : ViewCommand → List ℕ
  answer (Read view time) =
      rows_text (name_at t.names view) time (rows_at bitime_times t.plan s view time)
  answer (Changes view) =
      changes_text (name_at t.names view) (changes_at bitime_times t.plan s bitime_cmp view)
  answer (Frontier view) =
      frontier_text (name_at t.names view) (frontier_at bitime_times t.plan s bitime_cmp view)

  -- what an accepted command prints
  abbrev pub command_text : Command → List ℕ
  command_text (command.Input change) = []
  command_text (command.Allow view ts) = []
  command_text (command.View question) = answer question

  -- what line n prints: the refusal, if there is one, and otherwise the command's text
  abbrev pub text_unless : Option Refusal → ℕ → Command → List ℕ
  text_unless None n command = command_text command
  text_unless (Some refusal) n command = refused_text n refusal

  -- what line n prints for its command
  abbrev pub piece : ℕ → Command → List ℕ
  piece n command = text_unless (command_refusal t.plan s command) n command

-- the session after these lines
abbrev pub after_lines : List Node → BitemporalSession → List CommandLine → BitemporalSession
after_lines p s [] = s
after_lines p s (line ∷ lines) = after_lines p (after_command p s line.command) lines

-- the property holds of the session after some of the lines, counted from the first
abbrev pub HoldsAlong : (BitemporalSession → Type 0) → List Node → BitemporalSession
    → List CommandLine → Type 0
HoldsAlong Holds p s lines = (done : List CommandLine) × (rest : List CommandLine)
    × (done ++ rest ≡ lines) × Holds (after_lines p s done)

-- what the lines write
abbrev pub lines_text : ScriptModel → BitemporalSession → List CommandLine → List ℕ
lines_text t s [] = []
lines_text t s (line ∷ lines) = piece t s line.line line.command
    ++ lines_text t (after_command t.plan s line.command) lines

-- what a script writes
abbrev pub text : ScriptModel → List ℕ
text t = lines_text t (opening_session t.plan) t.commands

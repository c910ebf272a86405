-- When a run of lines may end because a number is too large.
use Rattle.std.specs.Prelude.{List}
use Rattle.plan.specs.declared.node.Node.{Node}
use Rattle.grammar.specs.ScriptModels.{ScriptModel}
use Rattle.grammar.specs.declared.command.CommandLine.{CommandLine}
use Rattle.engines.specs.Bounds.{IsLarge}
use Rattle.engines.specs.Bitemporal.{BitemporalSession, opening_session}
use Rattle.script.specs.Text.{HoldsAlong}

-- after some of the lines, counted from the first, the session is large
abbrev pub IsLargeAlong : List Node → BitemporalSession → List CommandLine → Type 0
IsLargeAlong p s lines = HoldsAlong (IsLarge p) p s lines

-- after some of a script's lines its session is large
abbrev pub IsLargeScript : ScriptModel → Type 0
IsLargeScript t = IsLargeAlong t.plan (opening_session t.plan) t.commands

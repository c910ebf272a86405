use Rattle.std.specs.List.{flat_map}
use Rattle.std.specs.Fmt.{HasWritten, IsPlainFormatter}
use Rattle.plan.specs.Ancestors.{numbers_below}
use Rattle.plan.specs.Text.{line_text}
use Rattle.plan.proofs.text.PlanDisplay.fmt.Given as goal

-- the lines of the nodes so far are written
abbrev pub invariant-loop-n : goal.invariant-loop-n
invariant-loop-n g l =
    IsPlainFormatter l.initial.f
    → HasWritten g.W.Write.write_str_gives l.initial.f (flat_map (line_text l.self) (numbers_below l.n-counter)) l.f

use Rattle.std.proofs.Common.{take, codes, ◌++◌}
use Rattle.std.specs.List.{flat_map}
use Rattle.std.specs.Fmt.{HasWritten, IsPlainFormatter}
use Rattle.row.specs.Text.{item_text}
use Rattle.plan.proofs.text.ItemsDisplay.fmt.Given as goal

-- each item after the first so far has been written after a space
abbrev pub invariant-loop-item : goal.invariant-loop-item
invariant-loop-item g l =
    IsPlainFormatter l.initial.f
    → HasWritten g.W.Write.write_str_gives l.initial.f (flat_map (λ item. codes " " ++ item_text item) (take l.item-index l.rest)) l.f

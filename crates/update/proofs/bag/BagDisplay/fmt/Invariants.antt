use Rattle.std.proofs.Common.{take}
use Rattle.std.specs.List.{flat_map}
use Rattle.std.specs.Fmt.{HasWritten, IsPlainFormatter}
use Rattle.update.specs.Updates.{entry}
use Rattle.update.specs.Text.{entry_text}
use Rattle.update.proofs.bag.BagDisplay.fmt.Given as goal

-- the lines of the entries so far are written
abbrev pub invariant-loop-update : goal.invariant-loop-update
invariant-loop-update g l =
    IsPlainFormatter l.initial.f
    → HasWritten g.W.Write.write_str_gives l.initial.f (flat_map (λ u. entry_text (entry u)) (take l.update-index l.update-items)) l.f

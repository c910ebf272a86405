use Rattle.std.proofs.Common.{take, codes, ◌++◌}
use Rattle.std.specs.List.{flat_map}
use Rattle.std.specs.Fmt.{HasWritten, IsPlainFormatter, signed_decimal}
use Rattle.row.proofs.text.RowDisplay.fmt.Given as goal

-- each column after the first so far has been written after a space
abbrev pub invariant-loop-column : goal.invariant-loop-column
invariant-loop-column g l =
    IsPlainFormatter l.initial.f
    → HasWritten g.W.Write.write_str_gives l.initial.f (flat_map (λ column. codes " " ++ signed_decimal column) (take l.column-index l.rest)) l.f

use Rattle.std.proofs.Common.{◌++◌, length, take}
use Rattle.update.specs.Text.{bag_text}
use Rattle.output.specs.Outs.{Wrote}
use Rattle.output.specs.Lines.{read_text}
use Rattle.script.proofs.printer.print_rows.Given as goal

-- the header and the rows so far are written
abbrev pub invariant-loop-i : goal.invariant-loop-i
invariant-loop-i g l = Wrote g.W.Out.took l.fn.out l.fn.buffer (read_text l.view l.fn.time (length l.rows) ++ bag_text (take l.i l.rows)) l.out l.buffer

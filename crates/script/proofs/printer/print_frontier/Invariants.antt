use Rattle.std.proofs.Common.{◌++◌, length, take, codes}
use Rattle.std.specs.List.{flat_map}
use Rattle.output.specs.Outs.{Wrote}
use Rattle.output.specs.Lines.{count_text, element_text}
use Rattle.script.proofs.printer.print_frontier.Given as goal

-- the header and the lines so far are written
abbrev pub invariant-loop-time : goal.invariant-loop-time
invariant-loop-time g l = Wrote g.W.Out.took l.fn.out l.fn.buffer (count_text (codes "frontier") l.view (length l.elements) ++ flat_map element_text (take l.time-index l.elements)) l.out l.buffer

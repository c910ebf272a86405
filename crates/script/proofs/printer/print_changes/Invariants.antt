use Rattle.std.proofs.Common.{◌++◌, length, take, codes}
use Rattle.std.specs.List.{flat_map}
use Rattle.output.specs.Outs.{Wrote}
use Rattle.output.specs.Lines.{count_text, update_text}
use Rattle.script.proofs.printer.print_changes.Given as goal

-- the header and the lines so far are written
abbrev pub invariant-loop-update : goal.invariant-loop-update
invariant-loop-update g l = Wrote g.W.Out.took l.fn.out l.fn.buffer (count_text (codes "changes") l.view (length l.changes) ++ flat_map update_text (take l.update-index l.changes)) l.out l.buffer

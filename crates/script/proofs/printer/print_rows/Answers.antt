use Rattle.std.proofs.Common.{suc, ◌+◌, ◌++◌, length, take, drop}
use Rattle.std.proofs.lemmas.Result.{err_from_is_err_and}
use Rattle.std.proofs.lemmas.Int.{to_z-of_z}
use Rattle.std.specs.Prelude.{FitsSigned}
use Rattle.std.specs.Int.{w64}
use Rattle.std.proofs.Common.{rules}
use Rattle.update.specs.Text.{entry_text, bag_text}
use Rattle.output.specs.Lines.{read_text}
use Rattle.output.proofs.OutLemmas.{wrote_more, broke_more}
use Rattle.script.proofs.PrinterLemmas.{entry_here, printed_more, printed_all}
use Rattle.script.proofs.printer.print_rows.Goals as goal

pub loop-i-preserved : goal.loop-i-preserved
loop-i-preserved g c =
    let rows = c.args.rows.now in
    let i = c.loop-i.i in
    let head = read_text c.args.view.now c.args.time (length rows) in
    let here = entry_here rows i c.row.result.now c.count.result c.row.ensures c.count.ensures in
    wrote_more g.W.Out.took g.met.W.Out.in_turn c.args.out.now c.loop-i.out c.print_entry.new.out c.args.buffer.now
    (head ++ bag_text (take i rows)) c.loop-i.buffer
    (entry_text (record { row = c.row.result.now; count = c.count.result })) c.print_entry.new.buffer
    (head ++ bag_text (take (i + 1) rows))
    (printed_more entry_text head rows i (record { row = c.row.result.now; count = c.count.result }) here)
    c.loop-i.invariant (let fits : FitsSigned w64 c.count.result = search rules in simp to_z-of_z at c.in_ok-print_entry.ensures.wrote)

pub returns-in_err-print_entry-clause-broke : goal.returns-in_err-print_entry-clause-broke
returns-in_err-print_entry-clause-broke g c =
    let rows = c.args.rows.now in
    let i = c.loop-i.i in
    let head = read_text c.args.view.now c.args.time (length rows) in
    let here = entry_here rows i c.row.result.now c.count.result c.row.ensures c.count.ensures in
    let p = err_from_is_err_and c.from_residual-in_err-print_entry.result c.from_residual-in_err-print_entry.ensures.1 in
    rw (p.1, p.2)
    (broke_more g.W.Out.took g.met.W.Out.in_turn c.args.out.now c.loop-i.out c.print_entry.new.out c.args.buffer.now
    (head ++ bag_text (take i rows)) c.loop-i.buffer
    (entry_text (record { row = c.row.result.now; count = c.count.result }))
    (bag_text (drop (suc i) rows)) (head ++ bag_text rows) _
    (printed_all entry_text head rows i (record { row = c.row.result.now; count = c.count.result }) here)
    c.loop-i.invariant (let fits : FitsSigned w64 c.count.result = search rules in simp to_z-of_z at c.in_err-print_entry.ensures.broke))

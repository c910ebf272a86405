use Rattle.std.proofs.Common.{suc, ◌+◌, ◌++◌, length, take, drop, codes}
use Rattle.std.specs.List.{flat_map}
use Rattle.std.proofs.lemmas.Result.{err_from_is_err_and}
use Rattle.output.specs.Lines.{count_text, update_text}
use Rattle.output.proofs.OutLemmas.{wrote_more, broke_more}
use Rattle.script.proofs.PrinterLemmas.{item_here, printed_more, printed_all}
use Rattle.script.proofs.printer.print_changes.Goals as goal

pub loop-update-preserved : goal.loop-update-preserved
loop-update-preserved g c =
    let xs = c.args.changes.now in
    let i = c.loop-update.update-index in
    let x = c.update-item.result in
    let head = count_text (codes "changes") c.args.view.now (length xs) in
    wrote_more g.W.Out.took g.met.W.Out.in_turn c.args.out.now c.loop-update.out c.print_update.new.out c.args.buffer.now
    (head ++ flat_map update_text (take i xs)) c.loop-update.buffer
    (update_text x) c.print_update.new.buffer
    (head ++ flat_map update_text (take (i + 1) xs))
    (printed_more update_text head xs i x (item_here xs i x c.loop-update-test.true c.update-item.is))
    c.loop-update.invariant c.in_ok-print_update.ensures.wrote

pub returns-in_err-print_update-clause-broke : goal.returns-in_err-print_update-clause-broke
returns-in_err-print_update-clause-broke g c =
    let xs = c.args.changes.now in
    let i = c.loop-update.update-index in
    let x = c.update-item.result in
    let head = count_text (codes "changes") c.args.view.now (length xs) in
    let p = err_from_is_err_and c.from_residual-in_err-print_update.result c.from_residual-in_err-print_update.ensures.1 in
    rw (p.1, p.2)
    (broke_more g.W.Out.took g.met.W.Out.in_turn c.args.out.now c.loop-update.out c.print_update.new.out c.args.buffer.now
    (head ++ flat_map update_text (take i xs)) c.loop-update.buffer
    (update_text x)
    (flat_map update_text (drop (suc i) xs)) (head ++ flat_map update_text xs) _
    (printed_all update_text head xs i x (item_here xs i x c.loop-update-test.true c.update-item.is))
    c.loop-update.invariant c.in_err-print_update.ensures.broke)

use Rattle.std.proofs.Common.{suc, ◌+◌, ◌++◌, length, take, drop, codes, get_or}
use Rattle.std.specs.List.{flat_map}
use Rattle.std.proofs.lemmas.Result.{err_from_is_err_and}
use Rattle.std.proofs.lemmas.List.{get_or_default}
use Rattle.lattice.specs.Pairs.{make_pair}
use Rattle.output.specs.Lines.{count_text, element_text}
use Rattle.output.proofs.OutLemmas.{wrote_more, broke_more}
use Rattle.script.proofs.PrinterLemmas.{item_here, printed_more, printed_all}
use Rattle.script.proofs.printer.print_frontier.Goals as goal

pub loop-time-preserved : goal.loop-time-preserved
loop-time-preserved g c =
    let xs = c.args.elements.now in
    let i = c.loop-time.time-index in
    let x = get_or xs i (make_pair 0 0) in
    let head = count_text (codes "frontier") c.args.view.now (length xs) in
    wrote_more g.W.Out.took g.met.W.Out.in_turn c.args.out.now c.loop-time.out c.print_element.new.out c.args.buffer.now
    (head ++ flat_map element_text (take i xs)) c.loop-time.buffer
    (element_text x) c.print_element.new.buffer
    (head ++ flat_map element_text (take (i + 1) xs))
    (printed_more element_text head xs i x (item_here xs i x c.loop-time-test.true (get_or_default xs i (make_pair 0 0) x c.loop-time-test.true)))
    c.loop-time.invariant c.in_ok-print_element.ensures.wrote

pub returns-in_err-print_element-clause-broke : goal.returns-in_err-print_element-clause-broke
returns-in_err-print_element-clause-broke g c =
    let xs = c.args.elements.now in
    let i = c.loop-time.time-index in
    let x = get_or xs i (make_pair 0 0) in
    let head = count_text (codes "frontier") c.args.view.now (length xs) in
    let p = err_from_is_err_and c.from_residual-in_err-print_element.result c.from_residual-in_err-print_element.ensures.1 in
    rw (p.1, p.2)
    (broke_more g.W.Out.took g.met.W.Out.in_turn c.args.out.now c.loop-time.out c.print_element.new.out c.args.buffer.now
    (head ++ flat_map element_text (take i xs)) c.loop-time.buffer
    (element_text x)
    (flat_map element_text (drop (suc i) xs)) (head ++ flat_map element_text xs) _
    (printed_all element_text head xs i x (item_here xs i x c.loop-time-test.true (get_or_default xs i (make_pair 0 0) x c.loop-time-test.true)))
    c.loop-time.invariant c.in_err-print_element.ensures.broke)

use Rattle.std.proofs.Common.{subst, refl}
use Rattle.std.proofs.lemmas.List.Sorted.{length_permutation}
use Rattle.std.proofs.lemmas.Result.{err_from_is_err_and}
use Rattle.lattice.proofs.BoundLemmas.{join_below}
use Rattle.trace.specs.Readings.{all_content}
use Rattle.join.specs.FormedPairs.{formed_all}
use Rattle.join.specs.Sides.{WereInserted}
use Rattle.join.specs.Takes.{side_pairs, IsTakeRefusal}
use Rattle.join.proofs.AnswerLemmas.{found_readable, memory_refusal, take_answer, take_refusal}
use Rattle.join.proofs.FitLemmas.{stored_fit}
use Rattle.join.proofs.SideLemmas.{side_fits, side_moves}
use Rattle.join.proofs.state.take.Goals as goal

pub form_pairs-requires-clause-wide : goal.form_pairs-requires-clause-wide
form_pairs-requires-clause-wide g c = c.requires.takeable.wide

pub form_pairs-requires-clause-fits : goal.form_pairs-requires-clause-fits
form_pairs-requires-clause-fits g c =
    let us = g.B.BatchReader.content c.args.batch.now in
    let content = g.O.Trace.content c.args.other.now in
    stored_fit c.args.key c.args.side content (all_content g.O.Batch.BatchReader.content c.unwrap-others.result.now) (rw c.unwrap-others.ensures at c.through.ensures.stored) us
    (side_fits c.args.side c.args.key us content c.requires.takeable.narrow)

pub returns-clause-answer : goal.returns-clause-answer
returns-clause-answer g c =
    let times = g.T.PartialOrder.times in
    let order = g.met.T.PartialOrder.order in
    let bounds = g.met.T.Lattice.bounds in
    let other = c.args.other.now in
    let us = g.B.BatchReader.content c.args.batch.now in
    let vs = all_content g.O.Batch.BatchReader.content c.unwrap-others.result.now in
    let reads = rw c.unwrap-others.ensures at c.through.ensures.reads in
    let stored = rw c.unwrap-others.ensures at c.through.ensures.stored in
    take_answer order bounds.join_left bounds.join_right (join_below order bounds) c.args.side c.args.key (g.O.Trace.held other) us (g.O.Trace.content other) vs c.requires.takeable (WereInserted (g.O.Trace.stands other) (g.O.Trace.start other) c.args.upto.now)
    (found_readable times (g.O.Trace.held other) (g.O.Trace.stands other) (g.O.Trace.start other) c.args.upto.now vs reads)
    stored c.in_ok-formed.formed.updates.items c.in_ok-formed.ensures.consolidated c.in_ok-formed.ensures.stands c.in_ok-formed.ensures.exact

pub returns-clause-looked : goal.returns-clause-looked
returns-clause-looked g c =
    let times = g.T.PartialOrder.times in
    let us = g.B.BatchReader.content c.args.batch.now in
    let vs = all_content g.O.Batch.BatchReader.content c.unwrap-others.result.now in
    let value = rw c.unwrap-others.ensures at c.through.ensures.value in
    let long = length_permutation (side_pairs c.args.side times c.args.key us vs) (formed_all c.args.side times c.args.key us vs) (side_moves times c.args.key c.args.side us vs) in
    rw value at (rw long at c.in_ok-formed.ensures.looked)

pub returns-in_err-formed-clause-refused : goal.returns-in_err-formed-clause-refused
returns-in_err-formed-clause-refused g c =
    let times = g.T.PartialOrder.times in
    let order = g.met.T.PartialOrder.order in
    let bounds = g.met.T.Lattice.bounds in
    let other = c.args.other.now in
    let us = g.B.BatchReader.content c.args.batch.now in
    let vs = all_content g.O.Batch.BatchReader.content c.unwrap-others.result.now in
    let reads = rw c.unwrap-others.ensures at c.through.ensures.reads in
    let value = rw c.unwrap-others.ensures at c.through.ensures.value in
    let inserted = WereInserted (g.O.Trace.stands other) (g.O.Trace.start other) c.args.upto.now in
    let p = err_from_is_err_and c.from_residual-in_err-formed.result c.from_residual-in_err-formed.ensures.1 in
    rw (p.1, p.2) (subst (λ ws. IsTakeRefusal c.args.side times c.args.key us ws inserted c.in_err-formed.field-0.0) value
    (take_refusal order bounds.join_left bounds.join_right (join_below order bounds) c.args.side c.args.key (g.O.Trace.held other) us (g.O.Trace.content other) vs c.requires.takeable inserted
    (found_readable times (g.O.Trace.held other) (g.O.Trace.stands other) (g.O.Trace.start other) c.args.upto.now vs reads)
    c.in_err-formed.field-0.0 c.in_err-formed.ensures.refused))

pub returns-in_err-upper-clause-refused : goal.returns-in_err-upper-clause-refused
returns-in_err-upper-clause-refused g c =
    let other = c.args.other.now in
    let us = g.B.BatchReader.content c.args.batch.now in
    let p = err_from_is_err_and c.from_residual.result c.from_residual.ensures.1 in
    rw (p.1, p.2) (memory_refusal c.args.side g.T.PartialOrder.times c.args.key us (g.O.Trace.stored_to other c.args.upto.now) (WereInserted (g.O.Trace.stands other) (g.O.Trace.start other) c.args.upto.now) _ refl)

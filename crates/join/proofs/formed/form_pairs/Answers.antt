use Rattle.std.proofs.Common.{inr, refl}
use Rattle.std.proofs.lemmas.Result.{err_from_is_err_and}
use Rattle.trace.specs.Readings.{all_content}
use Rattle.join.specs.FormedPairs.{formed_all}
use Rattle.join.proofs.LargeLemmas.{refused_more}
use Rattle.join.proofs.PartLemmas.{large_first, large_listed}
use Rattle.join.proofs.formed.form_pairs.Goals as goal

pub returns-in_err-pair_all-clause-refused : goal.returns-in_err-pair_all-clause-refused
returns-in_err-pair_all-clause-refused g c =
    let all = formed_all c.args.side g.B.Time.PartialOrder.times c.args.k (g.B.BatchReader.content c.args.batch.now) (all_content g.C.BatchReader.content c.args.others.now) in
    let p = err_from_is_err_and c.from_residual.result c.from_residual.ensures.1 in
    rw (p.1, p.2) (refused_more _ _ c.in_err-pair_all.field-0.0 (large_first g.B.Time.PartialOrder.times c.none-formed.result.updates.items all c.none-formed.ensures.updates) c.in_err-pair_all.ensures.refused)

pub returns-in_err-consolidate-clause-refused : goal.returns-in_err-consolidate-clause-refused
returns-in_err-consolidate-clause-refused g c =
    let times = g.B.Time.PartialOrder.times in
    let all = formed_all c.args.side g.B.Time.PartialOrder.times c.args.k (g.B.BatchReader.content c.args.batch.now) (all_content g.C.BatchReader.content c.args.others.now) in
    let none = c.none-formed.result.updates.items in
    let p = err_from_is_err_and c.from_residual-in_err-consolidate.result c.from_residual-in_err-consolidate.ensures.1 in
    let listed = large_listed times c.pair_all.new.self.updates.items none all c.in_ok-pair_all.ensures.formed (c.in_err-consolidate.ensures.large refl) in
    rw (p.1, p.2) (inr (c.in_err-consolidate.ensures.only, large_first times none all c.none-formed.ensures.updates listed))

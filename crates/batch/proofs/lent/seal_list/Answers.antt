use Rattle.std.proofs.Common.{rules, IsTrue, sym, ◌∙◌, ap}
use Rattle.std.proofs.lemmas.Bool.{and_parts}
use Rattle.batch.specs.Intervals.{is_between, is_interval_of}
use Rattle.batch.proofs.CompactionLemmas.{from_compacted}
use Rattle.batch.proofs.IntervalLemmas.{nothing_between}
use Rattle.batch.proofs.SumsLemmas.{sums_from_totals}
use Rattle.batch.proofs.lent.seal_list.Goals as goal

pub unmoved-requires : goal.unmoved-requires
unmoved-requires g c =
    let whole : IsTrue (is_interval_of g.T.PartialOrder.times c.args.lower.now c.args.upper.now c.args.list.now) = search rules in
    (search rules, (and_parts _ _ whole).0)

pub of-requires-clause-still : goal.of-requires-clause-still
of-requires-clause-still g c e =
    let times = g.T.PartialOrder.times in
    let lower = c.args.lower.now in
    let upper = c.args.upper.now in
    let made = c.in_ok-description.ensures.made in
    let same = sym (ap (λ d. d.lower) made) ∙ e ∙ ap (λ d. d.upper) made in
    let whole : IsTrue (is_interval_of times lower upper c.args.list.now) = search rules in
    nothing_between times lower upper same _ (c.in_ok-columns.ensures.among (λ _ t. is_between times lower upper t) (and_parts _ _ whole).1)

pub of-requires-clause-compacted : goal.of-requires-clause-compacted
of-requires-clause-compacted g c =
    let times = g.T.PartialOrder.times in
    let ts = c.in_ok-columns.ensures.among (λ _ t. times.below g.T.PartialOrder.times.least t) c.known_list.ensures in
    rw (c.in_ok-description.ensures.made) (from_compacted g.met.T.PartialOrder.order g.met.T.Lattice.bounds g.T.PartialOrder.times.least c.in_ok-columns.columns ts)

pub returns-clause-between : goal.returns-clause-between
returns-clause-between g c =
    let times = g.T.PartialOrder.times in
    let lower = c.args.lower.now in
    let upper = c.args.upper.now in
    let whole : IsTrue (is_interval_of times lower upper c.args.list.now) = search rules in
    rw (c.of.ensures) (c.in_ok-columns.ensures.among (λ _ t. is_between times lower upper t) (and_parts _ _ whole).1)

pub returns-clause-totals : goal.returns-clause-totals
returns-clause-totals g c p = rw (c.of.ensures) (c.in_ok-columns.ensures.totals p)

pub returns-clause-among : goal.returns-clause-among
returns-clause-among g c p = rw (c.of.ensures) (c.in_ok-columns.ensures.among p)

pub returns-clause-sums : goal.returns-clause-sums
returns-clause-sums g c = sums_from_totals g.T.PartialOrder.times _ _ (returns-clause-totals g c)

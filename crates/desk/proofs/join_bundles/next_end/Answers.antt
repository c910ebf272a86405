use Rattle.std.proofs.Common.{◌≡◌, IsTrue, sym, subst, ◌∙◌}
use Rattle.lattice.specs.Frontiers.{all_beyond}
use Rattle.desk.specs.Joinings.{IsEndAfter}
use Rattle.desk.proofs.ReadLemmas.{reading_asks, reading_ends, reading_turn}
use Rattle.desk.proofs.ResultLemmas.{if_ok_back, if_ok_from}
use Rattle.desk.proofs.join_bundles.next_end.Goals as goal

pub unreachable-requires : goal.unreachable-requires
unreachable-requires g c =
    let known = c.trace-spine.ensures.known in
    let y = c.requires.next.1 in
    let r = y.reading in
    c.in_default.ensures.next y.inserted y.later y.taken y.next r.stands (reading_turn known r) r.«open» r.all (reading_ends known r) (reading_asks known r)

pub returns-clause-ends : goal.returns-clause-ends
returns-clause-ends g c =
    let known = c.trace-spine.ensures.known in
    if_ok_from c.antichain_of.result (IsEndAfter g.T.PartialOrder.times c.args.source.now c.args.boundary.now) (λ made e inserted later taken next r.
    if_ok_back c.antichain_of.result (λ made. made ≡ c.in-Some.end.now) made e c.antichain_of.ensures.is
    ∙ c.in-Some.ensures.next inserted later taken next r.stands (reading_turn known r) r.«open» r.all (reading_ends known r) (reading_asks known r))

pub returns-clause-forward : goal.returns-clause-forward
returns-clause-forward g c =
    if_ok_from c.antichain_of.result (λ end. IsTrue (all_beyond g.T.PartialOrder.times c.args.boundary.now end)) (λ made e.
    subst (λ F. IsTrue (all_beyond g.T.PartialOrder.times c.args.boundary.now F)) (sym (if_ok_back c.antichain_of.result (λ made. made ≡ c.in-Some.end.now) made e c.antichain_of.ensures.is)) c.in-Some.ensures.forward)

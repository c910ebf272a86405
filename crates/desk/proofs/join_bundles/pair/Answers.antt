use Rattle.std.proofs.Common.{rules, ◌≡◌, IsTrue, sym, subst}
use Rattle.lattice.specs.Frontiers.{all_beyond}
use Rattle.update.specs.Refusals.{IsMemoryOrOverflow}
use Rattle.join.specs.Sides.{boundary_of}
use Rattle.operator.specs.Joins.{IsSideAnswer}
use Rattle.desk.specs.Joinings.{ArePairsLarge, IsEndAfter, IsNextOf, IsPaired, taken_up_to}
use Rattle.desk.proofs.PairLemmas.{ends_there, next_takeable, next_there, side_from}
use Rattle.desk.proofs.ResultLemmas.{if_err_from, if_ok_back, if_ok_from, memory_or, on_ok_back}
use Rattle.desk.proofs.join_bundles.pair.Goals as goal

pub arrangement_at-source-requires : goal.arrangement_at-source-requires
arrangement_at-source-requires g c = (c.requires.next.arrangement, c.requires.next.there)

pub next_end-requires : goal.next_end-requires
next_end-requires g c =
    let source = c.arrangement_at-source.result.now in
    (search rules, (c.args.list.now, subst (λ F. IsNextOf g.T.PartialOrder.times source F c.args.list.now) (sym c.boundary.ensures.value) (next_there c.requires.next source c.arrangement_at-source.ensures.there)))

pub arrangement_at-opposite-requires : goal.arrangement_at-opposite-requires
arrangement_at-opposite-requires g c = (c.requires.next.opposite, c.requires.next.opposite_there)

pub take-requires : goal.take-requires
take-requires g c =
    let y = c.requires.next in
    let source = c.arrangement_at-source.result.now in
    let end = c.in_ok-end.end in
    let ends = subst (λ F. IsEndAfter g.T.PartialOrder.times source F end) c.boundary.ensures.value c.in_ok-end.ensures.ends in
    (search rules, next_takeable y c.arrangement_at-opposite.result.now c.arrangement_at-opposite.ensures.there c.trace.ensures.known c.trace.result.now c.trace.ensures.value source c.arrangement_at-source.ensures.there g.met.T.PartialOrder.order end ends)

pub returns-clause-paired : goal.returns-clause-paired
returns-clause-paired g c =
    let times = g.T.PartialOrder.times in
    let cmp = g.T.Ord.cmp in
    let j = c.args.joining.now in
    let us = c.args.list.now in
    let y = c.requires.next in
    let source = c.arrangement_at-source.result.now in
    let other = c.arrangement_at-opposite.result.now in
    let end = c.in_ok-end.end in
    let ends = subst (λ F. IsEndAfter times source F end) c.boundary.ensures.value c.in_ok-end.ensures.ends in
    if_ok_from c.take.result (λ out. IsPaired times cmp c.args.side c.args.arrangements.now.items c.args.own c.args.other j us out.items c.take.new.self) (λ out e.
    let answer = if_ok_back c.take.result (λ out. IsSideAnswer times c.args.side cmp j us c.trace.result.now out.items) out e c.take.ensures.answer in
    record {
      fitting = c.known.ensures.fitting;
      upper = end;
      looked = c.take.new.self.state.looked;
      moved = on_ok_back {P = c.take.new.self ≡ taken_up_to c.args.side end c.take.new.self.state.looked j} c.take.result out e c.take.ensures.acknowledged;
      forward = subst (λ F. IsTrue (all_beyond times F end)) c.boundary.ensures.value c.in_ok-end.ensures.forward;
      ends = λ a there. ends_there c.args.arrangements.now.items c.args.own source a (boundary_of c.args.side j.state) end c.arrangement_at-source.ensures.there there ends;
      answers = λ a there inserted later taken reading.
          answer.answer inserted taken (side_from y other c.arrangement_at-opposite.ensures.there c.trace.ensures.known c.trace.result.now c.trace.ensures.value a there inserted later taken reading);
      consolidated = answer.consolidated;
      wide = answer.width;
    })

pub returns-clause-refused : goal.returns-clause-refused
returns-clause-refused g c =
    let times = g.T.PartialOrder.times in
    let y = c.requires.next in
    let other = c.arrangement_at-opposite.result.now in
    if_err_from c.take.result _ (IsMemoryOrOverflow (ArePairsLarge times c.args.side c.args.arrangements.now.items c.args.other c.args.joining.now c.args.list.now)) (λ refusal refused. memory_or {Q = ArePairsLarge times c.args.side c.args.arrangements.now.items c.args.other c.args.joining.now c.args.list.now} (λ large a there inserted later taken reading.
    let side = side_from y other c.arrangement_at-opposite.ensures.there c.trace.ensures.known c.trace.result.now c.trace.ensures.value a there inserted later taken reading in
    large inserted taken side) refused) c.take.ensures.refused

use Rattle.std.proofs.Common.{◌≤◌, ◌<◌, List, length, inl, inr, ⊎_elim, sym, ◌∙◌, subst, arith}
use Rattle.std.proofs.lemmas.Result.{err_from_is_err_and}
use Rattle.key_history.specs.Compaction.{IsFolded}
use Rattle.reduce.specs.Compacted.{AreCompacted}
use Rattle.reduce.specs.Histories.{HistoryState}
use Rattle.reduce.proofs.CompactLemmas.{all_itself, all_through, compacted_length, one_compacted, folded_none, folded_next, folded_all}
use Rattle.reduce.proofs.histories.compact_all.Goals as goal

pub loop-i-init : goal.loop-i-init
loop-i-init g c =
    let folded = IsFolded g.T.PartialOrder.times c.args.since.now g.T.Ord.cmp in
    record {
      moved = all_itself g.T.PartialOrder.times g.T.Ord.cmp c.args.since.now c.args.histories.now.items;
      folded = folded_none folded c.args.histories.now.items;
    }

pub compact-requires : goal.compact-requires
compact-requires g c =
    let same = compacted_length g.T.PartialOrder.times g.T.Ord.cmp c.args.since.now c.args.histories.now.items c.loop-i.histories.items c.loop-i.invariant.moved in
    let len = c.len-i-end.ensures.len in
    let lt = c.loop-i-test.true in
    omega (arith, same, len, lt)

pub loop-i-preserved : goal.loop-i-preserved
loop-i-preserved g c =
    let times = g.T.PartialOrder.times in
    let cmp = g.T.Ord.cmp in
    let since = c.args.since.now in
    let step = c.in_ok-compact.ensures in
    let mid = c.loop-i.histories.items in
    let same = compacted_length times cmp since c.args.histories.now.items mid c.loop-i.invariant.moved in
    let within : c.loop-i.i < length mid = let len = c.len-i-end.ensures.len in let lt = c.loop-i-test.true in omega (arith, same, len, lt) in
    let one = subst (λ (hs : List (HistoryState g.row.T.Denot)). AreCompacted times cmp since mid hs) (sym step.3) (one_compacted times cmp since mid c.loop-i.i step.0 step.1 step.2 step.4) in
    record {
      moved = all_through times cmp since c.args.histories.now.items mid c.compact.new.self.items c.loop-i.invariant.moved one;
      folded = folded_next (IsFolded times since cmp) c.loop-i.i c.args.histories.now.items mid c.compact.new.self.items step.1 within step.3 step.5 c.loop-i.invariant.folded;
    }

pub returns-in_err-compact-clause-items : goal.returns-in_err-compact-clause-items
returns-in_err-compact-clause-items g c =
    let times = g.T.PartialOrder.times in
    let cmp = g.T.Ord.cmp in
    let since = c.args.since.now in
    let step = c.in_err-compact.ensures in
    let mid = c.loop-i.histories.items in
    let one = subst (λ (hs : List (HistoryState g.row.T.Denot)). AreCompacted times cmp since mid hs) (sym step.3) (one_compacted times cmp since mid c.loop-i.i step.0 step.1 step.2 step.4) in
    all_through times cmp since c.args.histories.now.items mid c.compact.new.self.items c.loop-i.invariant.moved one

pub returns-in_err-compact-clause-refused : goal.returns-in_err-compact-clause-refused
returns-in_err-compact-clause-refused g c =
    let step = c.in_err-compact.ensures in
    let p = err_from_is_err_and c.from_residual.result c.from_residual.ensures.1 in
    let at = sym (c.loop-i.invariant.folded.rest c.loop-i.i (omega arith)) ∙ step.2 in
    rw p.1 (⊎_elim (λ e. inl (p.2 ∙ e)) (λ r. inr (p.2 ∙ r.0, (c.loop-i.i, step.0, at, r.1))) step.6)

pub returns-clause-items : goal.returns-clause-items
returns-clause-items g c = c.loop-i.invariant.moved

pub returns-clause-folded : goal.returns-clause-folded
returns-clause-folded g c =
    let same = compacted_length g.T.PartialOrder.times g.T.Ord.cmp c.args.since.now c.args.histories.now.items c.loop-i.histories.items c.loop-i.invariant.moved in
    let many : length c.loop-i.histories.items ≤ c.loop-i.i = let len = c.len-i-end.ensures.len in let lt = c.loop-i-test.false in omega (arith, same, len, lt) in
    folded_all (IsFolded g.T.PartialOrder.times c.args.since.now g.T.Ord.cmp) c.loop-i.i c.args.histories.now.items c.loop-i.histories.items many c.loop-i.invariant.folded

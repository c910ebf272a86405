use Rattle.std.proofs.lemmas.Result.{err_from_is_err_and}
use Rattle.std.proofs.Common.{inl, ⊎_elim, ◌≡◌, ◌≤◌, ◌+◌, ◌-◌, suc, ◌++◌, ◌∷◌, [], List, Option, option_to_list, inr, sym, ◌∙◌, ap, subst, arith}
use Rattle.update.specs.Updates.{HasLargeTotal}
use Rattle.batch.specs.Compaction.{compacted}
use Rattle.batch.specs.Descriptions.{BatchState, DescriptionState}
use Rattle.trace.specs.BatchLists.{BatchListState}
use Rattle.levels.specs.Levels.{UnderwayState, LevelsState, AreUnderway, HasLargeSources, sources_of, unread_of, IsChangeAs, changed}
use Rattle.levels.proofs.PlaceLemmas.{newest_at, change_same, underway_on, underway_put, underway_popped}
use Rattle.levels.proofs.UnderwayLemmas.{put_spent}
use Rattle.levels.proofs.levels.Levels.go_on.Goals as goal

pub step-requires : goal.step-requires
step-requires g c =
    let times = g.T.PartialOrder.times in
    let cmp = g.T.Ord.cmp in
    let bs = c.self.inside.list.batches in
    let cs = c.batches.result.now in
    let us = c.self.inside.underway.items in
    let rest = c.pop.new.self.items in
    let n = c.unwrap-newest.result in
    let was : us ≡ rest ++ n ∷ [] = c.pop.ensures.items ∙ ap (λ (r : Option (UnderwayState g.row.T.Denot)). rest ++ option_to_list r) c.unwrap-newest.ensures in
    newest_at times cmp bs cs us rest n c.batches.ensures.value was c.self.invariant

pub invariant_of-self : goal.invariant_of-self
invariant_of-self g c =
    underway_popped g.T.PartialOrder.times g.T.Ord.cmp c.self.inside.list.batches c.pop.new.self.items c.self.inside.underway.items c.pop.result c.pop.ensures.items c.self.invariant

pub invariant_of-self-then-left-eq0 : goal.invariant_of-self-then-left-eq0
invariant_of-self-then-left-eq0 g c =
    let times = g.T.PartialOrder.times in
    let cmp = g.T.Ord.cmp in
    let bs = c.self.inside.list.batches in
    let cs = c.batches.result.now in
    let us = c.self.inside.underway.items in
    let rest = c.pop.new.self.items in
    let n = c.unwrap-newest.result in
    let was : us ≡ rest ++ n ∷ [] = c.pop.ensures.items ∙ ap (λ (r : Option (UnderwayState g.row.T.Denot)). rest ++ option_to_list r) c.unwrap-newest.ensures in
    let u = c.in_ok-newest.newest in
    let h = c.in_ok-newest.ensures in
    let stack = underway_on times cmp bs cs us rest n u c.batches.ensures.value was c.self.invariant h.at h.same in
    subst (λ (vs : List (UnderwayState g.row.T.Denot)). AreUnderway times cmp bs vs) (sym c.in_ok-push.ensures.items) stack

pub invariant_of-self-in_err-put : goal.invariant_of-self-in_err-put
invariant_of-self-in_err-put g c =
    let older = underway_popped g.T.PartialOrder.times g.T.Ord.cmp c.self.inside.list.batches c.pop.new.self.items c.self.inside.underway.items c.pop.result c.pop.ensures.items c.self.invariant in
    subst (λ (s : BatchListState g.row.T.Denot). AreUnderway g.T.PartialOrder.times g.T.Ord.cmp s.batches c.pop.new.self.items) (sym c.in_err-put.ensures.same) older

pub invariant_of-self-2 : goal.invariant_of-self-2
invariant_of-self-2 g c =
    let times = g.T.PartialOrder.times in
    let cmp = g.T.Ord.cmp in
    let bs = c.self.inside.list.batches in
    let cs = c.batches.result.now in
    let us = c.self.inside.underway.items in
    let rest = c.pop.new.self.items in
    let n = c.unwrap-newest.result in
    let was : us ≡ rest ++ n ∷ [] = c.pop.ensures.items ∙ ap (λ (r : Option (UnderwayState g.row.T.Denot)). rest ++ option_to_list r) c.unwrap-newest.ensures in
    let u = c.in_ok-newest.newest in
    let h = c.in_ok-newest.ensures in
    let stack = underway_on times cmp bs cs us rest n u c.batches.ensures.value was c.self.invariant h.at h.same in
    let change = c.in_ok-put.ensures.changed in
    subst (λ (ds : List (BatchState g.row.T.Denot)). AreUnderway times cmp ds rest) (sym (ap (λ (s : BatchListState g.row.T.Denot). s.batches) change.1)) (underway_put times cmp bs rest u change.0 stack change.2)

pub returns-clause-on : goal.returns-clause-on
returns-clause-on g c =
    let times = g.T.PartialOrder.times in
    let cmp = g.T.Ord.cmp in
    let bs = c.self.inside.list.batches in
    let cs = c.batches.result.now in
    let us = c.self.inside.underway.items in
    let rest = c.pop.new.self.items in
    let n = c.unwrap-newest.result in
    let was : us ≡ rest ++ n ∷ [] = c.pop.ensures.items ∙ ap (λ (r : Option (UnderwayState g.row.T.Denot)). rest ++ option_to_list r) c.unwrap-newest.ensures in
    let u = c.in_ok-newest.newest in
    let h = c.in_ok-newest.ensures in
    let view = c.self.view_is in
    let change = c.in_ok-put.ensures.changed in
    let at = newest_at times cmp bs cs us rest n c.batches.ensures.value was c.self.invariant in
    let more : 1 ≤ c.in_ok-newest.left = omega (arith, c.if-left-eq0.false) in
    let spent = put_spent times cmp cs n u c.in_ok-newest.left c.args.fuel at h.at h.same h.spent h.on more in
    let list = ap (λ (s : LevelsState g.row.T.Denot). s.list) view in
    let all = c.batches.ensures.value ∙ ap (λ (s : BatchListState g.row.T.Denot). s.batches) list in
    let becomes = change.1 ∙ ap (λ (s : BatchListState g.row.T.Denot). record s { batches = changed change.0 s.batches; reserved = c.put.new.list.reserved }) list in
    let makes = change_same times bs n u change.0 h.same change.2 in
    inr (
      omega (arith, spent, more),
      record {
        older = rest;
        newest = n;
        change = change.0;
        was = sym (ap (λ (s : LevelsState g.row.T.Denot). s.underway) view) ∙ was;
        is = λ k. record { list = becomes k; underway = rest };
        makes = subst (λ (s : BatchListState g.row.T.Denot). IsChangeAs times s.batches n change.0) list makes;
        spent = subst (λ (ds : List (BatchState g.row.T.Denot)). (c.in_ok-newest.left - 1) + suc (unread_of ds n) ≡ c.args.fuel) all spent;
      },
    )

pub overflow_sub-result : goal.overflow_sub-result
overflow_sub-result g c =
    let times = g.T.PartialOrder.times in
    let cmp = g.T.Ord.cmp in
    let bs = c.self.inside.list.batches in
    let cs = c.batches.result.now in
    let us = c.self.inside.underway.items in
    let rest = c.pop.new.self.items in
    let n = c.unwrap-newest.result in
    let was : us ≡ rest ++ n ∷ [] = c.pop.ensures.items ∙ ap (λ (r : Option (UnderwayState g.row.T.Denot)). rest ++ option_to_list r) c.unwrap-newest.ensures in
    let u = c.in_ok-newest.newest in
    let h = c.in_ok-newest.ensures in
    let at = newest_at times cmp bs cs us rest n c.batches.ensures.value was c.self.invariant in
    let more : 1 ≤ c.in_ok-newest.left = omega (arith, c.if-left-eq0.false) in
    let spent = put_spent times cmp cs n u c.in_ok-newest.left c.args.fuel at h.at h.same h.spent h.on more in
    omega (arith, spent, more)

pub put-requires-clause-read : goal.put-requires-clause-read
put-requires-clause-read g c =
    ⊎_elim
    (λ e. absurd (c.if-left-eq0.false e))
    (λ r. subst (λ (ds : List (BatchState g.row.T.Denot)). unread_of ds c.in_ok-newest.newest ≡ 0) c.batches.ensures.value r)
    c.in_ok-newest.ensures.on

pub returns-in_err-newest-clause-refused : goal.returns-in_err-newest-clause-refused
returns-in_err-newest-clause-refused g c =
    let rest = c.pop.new.self.items in
    let n = c.unwrap-newest.result in
    let was : c.self.inside.underway.items ≡ rest ++ n ∷ [] = c.pop.ensures.items ∙ ap (λ (r : Option (UnderwayState g.row.T.Denot)). rest ++ option_to_list r) c.unwrap-newest.ensures in
    let view = c.self.view_is in
    let all = c.batches.ensures.value ∙ ap (λ (s : LevelsState g.row.T.Denot). s.list.batches) view in
    let p = err_from_is_err_and c.from_residual.result c.from_residual.ensures.1 in
    rw p.1
    (⊎_elim (λ e. inl (p.2 ∙ e)) (λ r. inr (
      p.2 ∙ r.0,
      (rest, n, sym (ap (λ (s : LevelsState g.row.T.Denot). s.underway) view) ∙ was, subst (λ (ds : List (BatchState g.row.T.Denot)). HasLargeSources g.T.PartialOrder.times ds n) all r.1),
    )) c.in_err-newest.ensures.refused)

pub returns-in_err-put-clause-refused : goal.returns-in_err-put-clause-refused
returns-in_err-put-clause-refused g c =
    let times = g.T.PartialOrder.times in
    let rest = c.pop.new.self.items in
    let n = c.unwrap-newest.result in
    let u = c.in_ok-newest.newest in
    let h = c.in_ok-newest.ensures in
    let was : c.self.inside.underway.items ≡ rest ++ n ∷ [] = c.pop.ensures.items ∙ ap (λ (r : Option (UnderwayState g.row.T.Denot)). rest ++ option_to_list r) c.unwrap-newest.ensures in
    let view = c.self.view_is in
    let all = ap (λ (s : LevelsState g.row.T.Denot). s.list.batches) view in
    let p = err_from_is_err_and c.from_residual-in_err-put.result c.from_residual-in_err-put.ensures.1 in
    let same : HasLargeSources times c.self.inside.list.batches u → HasLargeSources times c.self.inside.list.batches n = λ large.
    let there = subst (λ (v : UnderwayState g.row.T.Denot). HasLargeSources times c.self.inside.list.batches (record v { merging = u.merging })) h.same.place large in
    subst (λ F. HasLargeTotal times (compacted times F (sources_of c.self.inside.list.batches n))) (ap (λ (d : DescriptionState g.row.T.Denot). d.since) h.same.described) there in
    rw p.1
    (⊎_elim (λ e. inl (p.2 ∙ e)) (λ r. inr (
      p.2 ∙ r.0,
      (rest, n, sym (ap (λ (s : LevelsState g.row.T.Denot). s.underway) view) ∙ was, subst (λ (ds : List (BatchState g.row.T.Denot)). HasLargeSources times ds n) all (same r.1)),
    )) c.in_err-put.ensures.refused)

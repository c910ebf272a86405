use Rattle.std.proofs.Common.{◌≡◌, ◌≢◌, ◌++◌, ◌∷◌, [], false, length, set, slice_get, rules, refl, sym, ◌∙◌, ap, subst}
use Rattle.std.specs.List.{list_any}
use Rattle.std.specs.Option.{IsSomeAnd}
use Rattle.std.proofs.lemmas.List.{nil_from_length}
use Rattle.update.specs.Bags.{same_row}
use Rattle.reduce.specs.Histories.{times_put}
use Rattle.reduce.specs.Intake.{IsPlaceOf, made_from}
use Rattle.reduce.proofs.IntakeLemmas.{put_behind, put_over, histories_behind, histories_over, made_there, made_new, changed_keeps, pushed_keeps}
use Rattle.reduce.proofs.WaitLemmas.{waiting_pushed, waiting_woken, waiting_kept, holds_there}
use Rattle.reduce.proofs.intake.put_one.Given.{Over}
use Rattle.reduce.proofs.intake.put_one.Goals as goal
use Rattle.reduce.proofs.intake.put_one.Goals.{then-is_empty, else-is_empty}

module _ (g : Over) (c : goal.Joined-key g) where
  -- the history at the place is of the same key
  same : IsSomeAnd (slice_get c.args.histories.now.items c.in-Some.i) (λ h. h.key ≡ c.args.renewal.key)
  same = subst (IsPlaceOf c.args.histories.now.items c.args.renewal.key) c.in-Some.is c.requires.placed

  -- it has other times now
  over : c.put_times.new.self.items ≡ set c.args.histories.now.items c.in-Some.i (made_from c.args.histories.now.items c.args.renewal)
  over = c.put_times.ensures.items ∙ made_there c.args.histories.now.items c.in-Some.i c.args.renewal c.len-end.ensures.known same

pub returns-after-is_empty-clause-found : goal.returns-after-is_empty-clause-found
returns-after-is_empty-clause-found g c =
    rw (over g c) (put_over c.args.histories.now.items c.in-Some.i (made_from c.args.histories.now.items c.args.renewal) c.len-end.ensures.known (same g c))

pub returns-after-is_empty-clause-known : goal.returns-after-is_empty-clause-known
returns-after-is_empty-clause-known g c k all is =
    rw (over g c) (histories_over g.T.Ord.cmp k c.args.histories.now.items c.in-Some.i (made_from c.args.histories.now.items c.args.renewal) all is)

pub returns-after-is_empty-clause-kept : goal.returns-after-is_empty-clause-kept
returns-after-is_empty-clause-kept g c i key there =
    rw c.put_times.ensures.items (changed_keeps c.in-Some.i (times_put c.args.renewal.times.items c.args.renewal.due.items) c.args.histories.now.items (λ h. refl) i key there)

pub returns-after-is_empty-clause-waiting : goal.returns-after-is_empty-clause-waiting
returns-after-is_empty-clause-waiting g c =
    let hs = c.args.histories.now.items in
    let i = c.in-Some.i in
    let old = c.get.result.now in
    let new = made_from hs c.args.renewal in
    rw (over g c)
    (elim c.if-is_empty.branch [
      | then-is_empty w ↦
          let none : length c.due.result.now ≡ 0 = search rules in
          let idle : old.due ≡ [] = sym c.due.ensures ∙ nil_from_length c.due.result.now none in
          rw (w.waiting-is, w.push.ensures.items) (waiting_woken hs c.args.waiting.now.items i new c.requires.waiting (holds_there (λ h. h.due ≡ []) hs i old c.get.ensures idle) c.requires.due)
      | else-is_empty w ↦
          let some : length c.due.result.now ≡ 0 → ⊥ = search rules in
          let pending : old.due ≢ [] = λ e. some (ap length (c.due.ensures ∙ e)) in
          rw w.waiting-is (waiting_kept hs c.args.waiting.now.items i new c.requires.waiting (holds_there (λ h. h.due ≢ []) hs i old c.get.ensures pending) c.requires.due)
    ])

module _ (g : Over) (c : goal.After-push-in-None-2 g) where
  -- the key has no history
  absent : list_any (λ h. same_row c.args.renewal.key h.key) c.args.histories.now.items ≡ false
  absent = subst (IsPlaceOf c.args.histories.now.items c.args.renewal.key) c.in-None.is c.requires.placed

  -- it has one now
  behind : c.push-in-None-2.new.self.items ≡ c.args.histories.now.items ++ made_from c.args.histories.now.items c.args.renewal ∷ []
  behind =
      c.push-in-None-2.ensures.items
      ∙ ap (λ h. c.args.histories.now.items ++ h ∷ []) (made_new c.args.histories.now.items c.args.renewal c.new.result absent c.new.ensures)

pub returns-in-None-clause-found : goal.returns-in-None-clause-found
returns-in-None-clause-found g c = rw (behind g c) (put_behind c.args.histories.now.items (made_from c.args.histories.now.items c.args.renewal) (absent g c))

pub returns-in-None-clause-waiting : goal.returns-in-None-clause-waiting
returns-in-None-clause-waiting g c =
    rw (behind g c, c.push-in-None.ensures.items, c.len-end.ensures.len)
    (waiting_pushed c.args.histories.now.items c.args.waiting.now.items (made_from c.args.histories.now.items c.args.renewal) c.requires.waiting c.requires.due)

pub returns-in-None-clause-known : goal.returns-in-None-clause-known
returns-in-None-clause-known g c k all is =
    rw (behind g c) (histories_behind g.T.Ord.cmp k c.args.histories.now.items (made_from c.args.histories.now.items c.args.renewal) all is)

pub returns-in-None-clause-kept : goal.returns-in-None-clause-kept
returns-in-None-clause-kept g c i key there =
    rw (behind g c) (pushed_keeps c.args.histories.now.items (made_from c.args.histories.now.items c.args.renewal) i key there)

-- What a linear node makes of a bundle is ready at once: as if it had been gathered alone, and all
-- of it taken out again.
use Rattle.std.proofs.Common.{◌≡◌, ℕ, zero, suc, ◌<◌, Bool, false, List, [], ◌∷◌, length, set, get_or, Option, Some, None, IsTrue, arith, sym, refl, ap, ◌∙◌, subst}
use Rattle.std.specs.List.{slice_get}
use Rattle.std.specs.Prelude.{is_some, IfSome}
use Rattle.std.proofs.lemmas.Bool.{true≢false}
use Rattle.std.proofs.lemmas.List.{append-nil}
use Rattle.std.proofs.lemmas.Option.{same_Some}
use Rattle.std.specs.declared.cmp.Ordering.{Ordering}
use Rattle.lattice.specs.Times.{Times}
use Rattle.lattice.specs.Order.{PartialOrderLaws}
use Rattle.update.specs.declared.change.Update.{Update}
use Rattle.plan.specs.Nodes.{arranged_by, is_linear, is_reduction, node_at}
use Rattle.plan.specs.declared.node.Node.{Node}
use Rattle.plan.specs.declared.node.Node.TheVariants.{Reduce}
use Rattle.linear.specs.Applied.{linear_output}
use Rattle.histories.specs.declared.event.Bundle.{Bundle}
use Rattle.histories.specs.Histories.{state_after}
use Rattle.histories.specs.Histories.Dataflows.{Dataflow, IsDataflow, node_of}
use Rattle.histories.specs.Histories.States.{State}
use Rattle.operator_laws.specs.GatheredUpdates.{IsSplit}
use Rattle.desk_laws.specs.Own.{DeskView, gathered_in}
use Rattle.desk_laws.specs.declared.hand.Hand.{Hand}
use Rattle.desk_laws.specs.declared.hand.Hand.TheVariants.{Kept, Ready, Taken}
use Rattle.desk_laws.proofs.GivenLemmas.{split_parts}
use Rattle.desk.specs.Desks.{HasLinear, HasOverflowing, IsMadeOf, IsPassedOn, IsRight, IsSomeones, IsTooLarge, Leads}
use Rattle.desk.proofs.BundleLemmas.{bundle_rows, bundle_within}
use Rattle.desk.proofs.DeskLemmas.{laid_gathered}
use Rattle.desk.proofs.AnswerLemmas.{kept_ready, taken_out}
use Rattle.desk.proofs.IntakeLemmas.{laid_right, made_too_large}
use Rattle.desk.proofs.PlaceLemmas.{get_own}

-- a place that is written twice is as it was, if the second time it is
set_back : {A : Type 0} (xs : List A) (n : ℕ) (x y : A) → slice_get xs n ≡ Some y → set (set xs n x) n y ≡ xs
set_back [] n x y e = refl
set_back (z ∷ xs) zero x y e = ap (λ w. w ∷ xs) (sym (same_Some z y e))
set_back (z ∷ xs) (suc n) x y e = ap (λ zs. z ∷ zs) (set_back xs n x y e)

pub if_some_always : {A P : Type 0} (o : Option A) → P → IfSome o (λ a. P)
if_some_always (Some a) p = p
if_some_always None p = tt

-- what is known of both hands that a laid bundle may leave is known of the one that it has left
pub by_laid : {T V : Type 0} (items : V → List (Update T)) (L : Hand T → Type 0) (n : ℕ) (more : Bool) (made : Option V) (h : Hand T)
    → IfSome made (λ v. L (Ready n (items v))) → (made ≡ None → L (Kept n more)) → IfSome made (λ v. h ≡ Ready n (items v)) → (made ≡ None → h ≡ Kept n more) → L h
by_laid items L n more (Some v) h paired kept is none = subst L (sym is) paired
by_laid items L n more None h paired kept is none = subst L (sym (none refl)) (kept refl)

module _ {T : Type 0} where
  -- where nothing lies gathered, an empty list lies
  empty_there : (xs : List (List (Update T))) (n : ℕ) → n < length xs → gathered_in (slice_get xs n) ≡ [] → slice_get xs n ≡ Some []
  empty_there [] n l e = absurd (omega (arith, l))
  empty_there (z ∷ xs) zero l e = ap (λ us. Some us) e
  empty_there (z ∷ xs) (suc n) l e = empty_there xs n (omega (arith, l)) e

  -- and where the list that is read is empty, nothing lies gathered
  no_update : (us : List (Update T)) → length us ≡ 0 → us ≡ []
  no_update [] e = refl
  no_update (u ∷ us) e = cc

  pub none_lies : (xs : List (List (Update T))) (n : ℕ) (us : List (Update T)) → us ≡ get_or xs n us → length us ≡ 0 → gathered_in (slice_get xs n) ≡ []
  none_lies [] n us e l = refl
  none_lies (z ∷ xs) zero us e l = no_update z (ap length (sym e) ∙ l)
  none_lies (z ∷ xs) (suc n) us e l = none_lies xs n us e l

  -- all of it is given
  split_all : (times : Times T) (us : List (Update T)) → IsSplit times us us []
  split_all times us = subst (λ vs. IsSplit times vs us []) (append-nil us) (split_parts times us [])

-- what is not some is none
pub none_of : {A : Type 0} (o : Option A) → is_some o ≡ false → o ≡ None
none_of None e = refl
none_of (Some x) e = absurd (true≢false e)

-- a linear node is no reduction
no_reduction : (node : Node) → IsTrue (is_linear node) → is_reduction node ≡ false
no_reduction (Reduce kind source) h = absurd (true≢false (sym h))
no_reduction other h = refl

module _ {T : Type 0} (times : Times T) (o : PartialOrderLaws times) (p : Dataflow) (q : IsDataflow p) (w : State T) (k : ℕ) (d : DeskView T) (bundle : Bundle T) (more : Bool) where
  abbrev n : ℕ
  n = bundle.place.node

  abbrev made : List (Update T)
  made = linear_output (node_of p n) bundle.updates

  -- the desk as if what is made had been gathered
  abbrev c : DeskView T
  c = record d { gathered = set d.gathered n made }

  pub passed_right : IsTrue (is_linear (node_of p n)) → arranged_by (node_of p n) ≡ None → gathered_in (slice_get d.gathered n) ≡ [] → IsRight times p w k d (Taken bundle more) → IsRight times p w k d (Ready n made)
  passed_right linear plain none x =
      let there = empty_there d.gathered n (subst (λ m. n < m) (sym x.on_plan.places) x.on_plan.hand.0) none in
      let kept = laid_right times p q d c bundle more o w k linear (laid_gathered times p n d [] made there plain) x in
      let taken = taken_out times c n made made (get_own d.gathered n made [] there) (split_all times made) (λ width h. h) in
      subst (λ gathered. IsRight times p w k (record d { gathered = gathered }) (Ready n made)) (set_back d.gathered n made [] there)
      (kept_ready times p n made c (record c { gathered = set c.gathered n [] }) taken plain o q w k x.on_plan.hand.0 (no_reduction (node_of p n) linear) more kept)

module _ {T : Type 0} (times : Times T) (o : PartialOrderLaws times) (plan : List Node) (d : DeskView T) (h : Hand T) (is : IsPassedOn plan d h) where
  -- whichever worker has the bundle in hand
  pub passed_leads : (g : Hand T) → IsMadeOf plan h g → Leads times plan d h d g
  passed_leads g is_made p q e es legal k x =
      let n = is.bundle.place.node in
      let w = state_after times p es in
      subst (λ f. IsRight times p w k d f) (sym (is_made is.bundle is.more is.taken))
      (subst (λ nodes. IsRight times p w k d (Ready n (linear_output (node_at nodes n) is.bundle.updates))) e
      (passed_right times o p q w k d is.bundle is.more (subst (λ nodes. IsTrue (is_linear (node_at nodes n))) (sym e) is.linear) (ap (λ nodes. arranged_by (node_at nodes n)) e ∙ is.plain) is.none (subst (λ f. IsRight times p w k d f) is.taken x)))

  -- why the node could not take the bundle
  pub passed_too_large : (cmp : T → T → Ordering) → HasOverflowing plan h → IsTooLarge times cmp plan d h
  passed_too_large cmp over = subst (λ f. IsTooLarge times cmp plan d f) (sym over.2) (made_too_large times o cmp plan d over.0 over.1 over.3)

  -- the node is one of the plan, and takes the rows
  pub passed_rows : IsSomeones times plan d h → HasLinear plan h
  passed_rows x =
      let y = subst (λ f. IsSomeones times plan d f) is.taken x in
      (is.bundle, is.more, is.taken, bundle_within times plan d is.bundle is.more y, is.linear, bundle_rows times plan d is.bundle is.more y)

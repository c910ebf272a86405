-- What a join makes of a bundle, and what waits for it.
use Rattle.std.proofs.Common.{◌≡◌, ℕ, ◌+◌, ◌*◌, Bool, true, false, cond, ◌&&◌, List, [], ◌∷◌, ◌++◌, map, Some, None, sym, refl, ap, ◌∙◌, subst, arith}
use Rattle.std.specs.Prelude.{ℤ, ◌+ℤ◌}
use Rattle.std.specs.List.{slice_get}
use Rattle.std.proofs.Math.Nat.{add-mul, mul-add}
use Rattle.std.proofs.lemmas.Option.{same_Some}
use Rattle.lattice.specs.Times.{Times}
use Rattle.lattice.specs.Order.{PartialOrderLaws}
use Rattle.update.specs.Bags.{Alike, count_of}
use Rattle.update.specs.Updates.{as_of, size}
use Rattle.update.specs.declared.change.Update.{Update}
use Rattle.plan.specs.Nodes.{key_width}
use Rattle.plan.specs.declared.node.Node.{Node}
use Rattle.plan.specs.declared.node.Node.TheVariants.{Join}
use Rattle.trace.specs.Readings.{Insertion, all_updates}
use Rattle.join.specs.Pairs.{pairs}
use Rattle.join.specs.declared.side.Side.TheVariants.{Left, Right}
use Rattle.join.proofs.VisibleLemmas.{side_goes_on}
use Rattle.histories.specs.declared.event.Site.{Site}
use Rattle.histories.specs.declared.event.Bundle.{Bundle}
use Rattle.histories.specs.declared.event.Emission.{Emission}
use Rattle.histories.specs.declared.event.Event.{Event}
use Rattle.histories.specs.declared.event.Event.TheVariants.{Take}
use Rattle.histories.specs.Histories.Dataflows.{Dataflow, node_of}
use Rattle.histories.specs.Histories.States.{State, place, same_place, update_times, queue}
use Rattle.histories.specs.Histories.NodeLaws.{received_at}
use Rattle.histories.specs.Histories.{without, next_state, give_state, IsTake, IsAllowed}
use Rattle.histories.proofs.HistoryLemmas.FlowLemmas.{sum_at, sum_at-append}
use Rattle.operator_laws.specs.GatheredUpdates.{is_of, IsPiece, IsSplit, IsStamped, IsHeldFor}
use Rattle.operator_laws.specs.JoinNodes.{IsAnswer, IsJoining, IsQueued, on_top}
use Rattle.operator_laws.proofs.GatheredLemmas.{size_both, same_after, same_gathering, took_gathering, received_is, gave_gathering}

-- Pieces

module _ {T : Type 0} (times : Times T) (join_below : (a b s : T) → times.below (times.joined a b) s ≡ (times.below a s && times.below b s)) (k : ℕ) where
  -- whatever was made before, an answer with the sums of the pairs may stand for them
  answered : (t : T) (out due made : List (Update T)) (row : List ℤ) → Alike (as_of times t out) (as_of times t due) → count_of (as_of times t (out ++ made)) row ≡ count_of (as_of times t (due ++ made)) row
  answered t out due made row same =
      sum_at-append times t out made row
      ∙ (ap (λ n. n +ℤ sum_at times t made row) (same row)
      ∙ sym (sum_at-append times t due made row))

  -- the pairs of more on the left are what the join lacks then
  more_left : (l r : ℕ) (received : ℕ → List (Update T)) (us out : List (Update T)) → IsAnswer times (pairs times k us (received 1)) us (received 1) out → IsPiece times k (Join l r) received 0 us out
  more_left l r received us out is = record {
    sums = λ made t before row.
        answered t out (pairs times k us (received 1)) made row (is.sums t)
        ∙ side_goes_on times join_below Left k us (received 0) (received 1) made t before row;
    load =
        let a = size_both us (received 0) in
        let b = add-mul (size us) (size (received 0)) (size (received 1)) in
        let c = is.smaller in
        let d : size (us ++ received 0) * size (received 1) ≡ (size us + size (received 0)) * size (received 1) = ap (λ n. n * size (received 1)) a in
        omega (arith, b, c, d);
    beyond = is.beyond;
  }

  -- the pairs of more on the right are what the join lacks then
  more_right : (l r : ℕ) (received : ℕ → List (Update T)) (us out : List (Update T)) → IsAnswer times (pairs times k (received 0) us) us (received 0) out → IsPiece times k (Join l r) received 1 us out
  more_right l r received us out is = record {
    sums = λ made t before row.
        answered t out (pairs times k (received 0) us) made row (is.sums t)
        ∙ side_goes_on times join_below Right k us (received 1) (received 0) made t before row;
    load =
        let a = size_both us (received 1) in
        let b = mul-add (size (received 0)) (size us) (size (received 1)) in
        let c = is.smaller in
        let d : size (received 0) * size (us ++ received 1) ≡ size (received 0) * (size us + size (received 1)) = ap (λ n. size (received 0) * n) a in
        let e : size us * size (received 0) ≡ size (received 0) * size us = turn (size us) (size (received 0)) in
        omega (arith, b, c, d, e);
    beyond = is.beyond;
  }
    where
      turn : (a b : ℕ) → a * b ≡ b * a
      turn a b = omega arith

  -- the law for pieces at the left port
  pub left_piece : (l r : ℕ) (node : Node) → node ≡ Join l r → (received : ℕ → List (Update T)) (us out : List (Update T)) → IsAnswer times (pairs times k us (received 1)) us (received 1) out → IsPiece times k node received 0 us out
  left_piece l r node e received us out is = subst (λ x. IsPiece times k x received 0 us out) (sym e) (more_left l r received us out is)

  -- the law for pieces at the right port
  pub right_piece : (l r : ℕ) (node : Node) → node ≡ Join l r → (received : ℕ → List (Update T)) (us out : List (Update T)) → IsAnswer times (pairs times k (received 0) us) us (received 0) out → IsPiece times k node received 1 us out
  right_piece l r node e received us out is = subst (λ x. IsPiece times k x received 1 us out) (sym e) (more_right l r received us out is)

-- What waits at a place

abbrev rest_of : {A : Type 0} → List A → List A
rest_of [] = []
rest_of (x ∷ xs) = xs

same_first : {A : Type 0} (x y : A) (xs ys : List A) → x ∷ xs ≡ y ∷ ys → x ≡ y
same_first x y xs ys e = cc

same_rest : {A : Type 0} (x y : A) (xs ys : List A) → x ∷ xs ≡ y ∷ ys → xs ≡ ys
same_rest x y xs ys e = cc

module _ {T : Type 0} where
  without_first : (site : Site) (qs : List (Bundle T)) → queue site (without site qs 0) ≡ rest_of (queue site qs)
  without_first site [] = refl
  without_first site (b ∷ qs) = step (same_place b.place site) refl (without_first site qs)
    where
      step : (c : Bool) → same_place b.place site ≡ c → queue site (without site qs 0) ≡ rest_of (queue site qs)
          → queue site (cond c qs (b ∷ without site qs 0)) ≡ rest_of (cond c (b ∷ []) [] ++ queue site qs)
      step true e h = refl
      step false e h = ap (λ c. cond c (b ∷ []) [] ++ queue site (without site qs 0)) e ∙ h

  abbrev updates_of : List (Bundle T) → List (List (Update T))
  updates_of bundles = map (λ b. b.updates) bundles

  abbrev inserted_updates : List (Insertion T) → List (List (Update T))
  inserted_updates insertions = map (λ i. i.updates) insertions

  -- the first bundle that waits is the oldest insertion that was not taken
  oldest : (bundle : Bundle T) (bundles : List (Bundle T)) (later : List (Insertion T)) → updates_of bundles ≡ inserted_updates later → slice_get bundles 0 ≡ Some bundle
      → (i : Insertion T) × (others : List (Insertion T)) × (later ≡ i ∷ others) × (i.updates ≡ bundle.updates) × (updates_of (rest_of bundles) ≡ inserted_updates others)
  oldest bundle [] later e g = absurd (nothing g)
    where
      nothing : None ≡ Some bundle → ⊥
      nothing g = cc
  oldest bundle (b ∷ bundles) [] e g = absurd (some e)
    where
      some : b.updates ∷ updates_of bundles ≡ [] → ⊥
      some e = cc
  oldest bundle (b ∷ bundles) (i ∷ others) e g = (
    i,
    others,
    refl,
    sym (same_first b.updates i.updates (updates_of bundles) (inserted_updates others) e) ∙ ap (λ (x : Bundle T). x.updates) (same_Some b bundle g),
    same_rest b.updates i.updates (updates_of bundles) (inserted_updates others) e,
  )

-- A join

module _ {T : Type 0} (times : Times T) (o : PartialOrderLaws times) (p : Dataflow) where
  -- the law for events elsewhere
  pub same_joining : (w : State T) (n k : ℕ) (left right : List (Insertion T)) (waiting : List (Update T)) → IsJoining times p w n k left right waiting
      → (e : Event T) → IsAllowed times p w e → is_of n k e ≡ false → IsJoining times p (next_state times p w e) n k left right waiting
  same_joining w n k left right waiting j e allowed other =
      let s = same_after times p w n k e allowed other in
      record {
        left_source = j.left_source;
        right_source = j.right_source;
        node = j.node;
        gathering = same_gathering times p w (next_state times p w e) n k waiting s j.gathering;
        at_left = s.received 0 ∙ j.at_left;
        at_right = s.received 1 ∙ j.at_right;
      }

  -- the law for gives
  pub gave_joining : (w : State T) (g : Emission T) (left right : List (Insertion T)) (waiting rest : List (Update T)) (held : List T) (sent : List (Bundle T))
      → IsJoining times p w g.node g.worker left right waiting → IsSplit times waiting g.updates rest → IsHeldFor times held (update_times rest)
      → IsJoining times p (give_state times p w g held sent) g.node g.worker left right rest
  gave_joining w g left right waiting rest held sent j split is_held = record {
    left_source = j.left_source;
    right_source = j.right_source;
    node = j.node;
    gathering = gave_gathering times o p w g waiting rest held sent j.gathering split is_held;
    at_left = j.at_left;
    at_right = j.at_right;
  }

  module _ (join_below : (a b s : T) → times.below (times.joined a b) s ≡ (times.below a s && times.below b s)) (w : State T) (n k : ℕ) (left right inserted : List (Insertion T)) (waiting out : List (Update T)) (j : IsJoining times p w n k left right waiting) where
    abbrev width : ℕ
    width = key_width p.nodes (node_of p n)

    -- the state after the oldest bundle at a place was taken
    abbrev v : Bundle T → State T
    v bundle = next_state times p w (Take 0 bundle)

    abbrev at_place : ℕ → List (Update T) → List T → Bundle T
    at_place port us stamp = record { place = place n port k; updates = us; stamp = stamp }

    -- a bundle at a place is one that is made of it
    made_at : (port : ℕ) (bundle : Bundle T) → bundle.place ≡ place n port k → at_place port bundle.updates bundle.stamp ≡ bundle
    made_at port bundle e = sym (λ i. record { place = e i; updates = bundle.updates; stamp = bundle.stamp })

    -- what waits after the first was taken
    queued_after : (port : ℕ) (bundles : List (Bundle T)) (others : List (Insertion T)) → bundles ≡ queue (place n port k) w.in_flight → updates_of (rest_of bundles) ≡ inserted_updates others
        → updates_of (queue (place n port k) (without (place n port k) w.in_flight 0)) ≡ inserted_updates others
    queued_after port bundles others e h = ap updates_of (without_first (place n port k) w.in_flight) ∙ (ap (λ q. updates_of (rest_of q)) (sym e) ∙ h)

    abbrev TakesLeft : Bundle T → Type 0
    TakesLeft b = IsStamped times b → IsTake times p w 0 b → IsAnswer times (pairs times width b.updates (all_updates right)) b.updates (all_updates right) out
        → (i : Insertion T) × (i.updates ≡ b.updates) × IsJoining times p (v b) n k (i ∷ left) right (out ++ waiting) × IsQueued (v b) n 0 k inserted (i ∷ left)

    takes_left : IsQueued w n 0 k inserted left → (us : List (Update T)) (stamp : List T) → TakesLeft (at_place 0 us stamp)
    takes_left q us stamp stamped t a =
        let b = at_place 0 us stamp in
        let x = oldest b (queue (place n 0 k) w.in_flight) q.later q.queued t.waits in
        let answer = subst (λ vs. IsAnswer times (pairs times width us vs) us vs out) (sym j.at_right) a in
        let piece = left_piece times join_below width j.left_source j.right_source (node_of p n) j.node (received_at w n k) us out answer in (
          x.0,
          x.3,
          record {
            left_source = j.left_source;
            right_source = j.right_source;
            node = j.node;
            gathering = took_gathering times o p w 0 b out waiting stamped j.gathering piece;
            at_left = received_is times o p w 0 b 0 ∙ (λ i. sym x.3 i ++ j.at_left i);
            at_right = received_is times o p w 0 b 1 ∙ j.at_right;
          },
          record { later = x.1; all = q.all ∙ ap (λ later. on_top later left) x.2; queued = queued_after 0 (queue (place n 0 k) w.in_flight) x.1 refl x.4 },
        )

    -- the law for takes at the left port
    pub took_left : (bundle : Bundle T) → bundle.place ≡ place n 0 k → IsQueued w n 0 k inserted left → TakesLeft bundle
    took_left bundle e q = subst TakesLeft (made_at 0 bundle e) (takes_left q bundle.updates bundle.stamp)

    abbrev TakesRight : Bundle T → Type 0
    TakesRight b = IsStamped times b → IsTake times p w 0 b → IsAnswer times (pairs times width (all_updates left) b.updates) b.updates (all_updates left) out
        → (i : Insertion T) × (i.updates ≡ b.updates) × IsJoining times p (v b) n k left (i ∷ right) (out ++ waiting) × IsQueued (v b) n 1 k inserted (i ∷ right)

    takes_right : IsQueued w n 1 k inserted right → (us : List (Update T)) (stamp : List T) → TakesRight (at_place 1 us stamp)
    takes_right q us stamp stamped t a =
        let b = at_place 1 us stamp in
        let x = oldest b (queue (place n 1 k) w.in_flight) q.later q.queued t.waits in
        let answer = subst (λ vs. IsAnswer times (pairs times width vs us) us vs out) (sym j.at_left) a in
        let piece = right_piece times join_below width j.left_source j.right_source (node_of p n) j.node (received_at w n k) us out answer in (
          x.0,
          x.3,
          record {
            left_source = j.left_source;
            right_source = j.right_source;
            node = j.node;
            gathering = took_gathering times o p w 0 b out waiting stamped j.gathering piece;
            at_left = received_is times o p w 0 b 0 ∙ j.at_left;
            at_right = received_is times o p w 0 b 1 ∙ (λ i. sym x.3 i ++ j.at_right i);
          },
          record { later = x.1; all = q.all ∙ ap (λ later. on_top later right) x.2; queued = queued_after 1 (queue (place n 1 k) w.in_flight) x.1 refl x.4 },
        )

    -- the law for takes at the right port
    pub took_right : (bundle : Bundle T) → bundle.place ≡ place n 1 k → IsQueued w n 1 k inserted right → TakesRight bundle
    took_right bundle e q = subst TakesRight (made_at 1 bundle e) (takes_right q bundle.updates bundle.stamp)

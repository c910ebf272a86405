-- What moved holds and merged batches leave of a worker's desk.
use Rattle.std.proofs.Common.{◌≡◌, ◌≢◌, ℕ, Bool, true, false, eqb, List, [], ◌∷◌, Some, IsTrue, sym, refl, ap, ◌∙◌, subst, arith}
use Rattle.std.specs.List.{slice_get}
use Rattle.std.proofs.lemmas.Bool.{eqb-true, eqb-false}
use Rattle.lattice.specs.Times.{Times}
use Rattle.lattice.specs.Order.{PartialOrderLaws}
use Rattle.lattice.specs.Frontiers.{all_beyond}
use Rattle.lattice.proofs.FrontierLemmas.{all_beyond_later, beyond_itself}
use Rattle.plan.specs.declared.node.Node.{Node}
use Rattle.trace.specs.Holds.{HoldState}
use Rattle.trace.specs.Readings.{Insertion, reached}
use Rattle.histories.specs.Histories.{state_after}
use Rattle.histories.specs.Histories.Dataflows.{Dataflow}
use Rattle.histories.specs.Histories.Outstanding.{port_frontier}
use Rattle.histories.specs.Histories.States.{State}
use Rattle.operator.specs.Arrangements.{AreInTurn, ArrangementState, upper_of}
use Rattle.operator.specs.Joins.{JoiningView}
use Rattle.operator.specs.Reductions.{ReducingView, pending_of}
use Rattle.operator.proofs.TurnLemmas.{firsts}
use Rattle.operator_laws.specs.JoinNodes.{on_top}
use Rattle.desk_laws.specs.Own.{AreHolding, AreSharing, DeskView, HasHold, IsMergedAt, IsSpineAt, KeepsApart, ReadsAt, Reduces, boundary_at, hold_at, other_port, waiting_in}
use Rattle.desk_laws.proofs.MergedLemmas.{tidied_lem}
use Rattle.desk.specs.Joinings.{IsReading}
use Rattle.desk.specs.Openings.{on_plan}
use Rattle.desk.specs.Upkeep.{AreTold, HasMoved, IsAlike, IsFollowedAt, IsHeldFrom, LeadsOn, front_of_port}
use Rattle.desk.proofs.DeskLemmas.{with_arrangement}
use Rattle.desk.proofs.PlaceLemmas.{get_own, get_set, one_entry}

-- ---- how far a reader has come

module _ {T : Type 0} {times : Times T} (o : PartialOrderLaws times) (start : List T) where
  -- what comes later goes on from what was taken
  pub reached_on : (later h : List (Insertion T)) → AreInTurn times start (on_top later h) → IsTrue (all_beyond times (reached start h) (reached start (on_top later h)))
  reached_on [] h all = beyond_itself o (reached start h)
  reached_on (i ∷ later) h all = all_beyond_later o (reached start h) i.upper (reached start (on_top later (i ∷ h))) (firsts o start later (i ∷ h) all).0.forward (reached_on later (i ∷ h) all)

  -- so a reader is not ahead of the spine
  pub reading_behind : (a : ArrangementState T) (inserted later taken : List (Insertion T)) (boundary : List T) → start ≡ times.least ∷ [] → IsReading times a inserted later taken boundary → IsTrue (all_beyond times boundary (upper_of a.spine))
  reading_behind a inserted later taken boundary e r =
      let ends : upper_of a.spine ≡ reached start (on_top later taken) = r.stands.upper ∙ ((λ i. reached ((r.start ∙ sym e) i) inserted) ∙ ap (reached start) r.all) in
      let turn : AreInTurn times start (on_top later taken) = subst (AreInTurn times start) r.all (subst (λ F. AreInTurn times F inserted) (sym e) r.in_turn) in
      subst (λ F. IsTrue (all_beyond times boundary F)) (sym ends) (subst (λ F. IsTrue (all_beyond times F (reached start (on_top later taken)))) (sym (r.ends ∙ ap (λ F. reached F taken) (sym e))) (reached_on later taken turn))

-- ---- another arrangement that stands for the same

module _ {T : Type 0} (times : Times T) (d : DeskView T) (n : ℕ) (a b : ArrangementState T) (own : slice_get d.arrangements n ≡ Some (Some a)) (like : IsAlike times a b) where
  abbrev c : DeskView T
  c = with_arrangement n b d

  there_now : slice_get c.arrangements n ≡ Some (Some b)
  there_now = get_own d.arrangements n (Some b) (Some a) own

  module _ (p : Dataflow) where
    spine_on : (inserted : List (Insertion T)) → IsSpineAt times p n inserted a → IsSpineAt times p n inserted b
    spine_on inserted z = record {
      width = like.width ∙ z.width;
      start = like.start ∙ z.start;
      stands = like.stands inserted z.stands;
      in_turn = z.in_turn;
      «open» = like.whole inserted z.«open»;
    }

    pub merged_at : (m : ℕ) → IsMergedAt times p m d c
    merged_at m = by (eqb m n) refl
      where
        by : (e : Bool) → eqb m n ≡ e → IsMergedAt times p m d c
        by true e =
            let at = eqb-true m n e in
            let mine : slice_get d.arrangements m ≡ Some (Some a) = ap (slice_get d.arrangements) at ∙ own in
            let now : slice_get c.arrangements m ≡ Some (Some b) = ap (slice_get c.arrangements) at ∙ there_now in
            record {
              gathered = refl;
              joins = refl;
              reductions = refl;
              waiting = ap waiting_in now ∙ (like.waiting ∙ sym (ap waiting_in mine));
              arranged = λ start inserted y. record {
                arrangement = b;
                there = now;
                spine = subst (λ k. IsSpineAt times p k inserted b) (sym at) (spine_on inserted (subst (λ k. IsSpineAt times p k inserted a) at (subst (IsSpineAt times p m inserted) (one_entry d.arrangements m y.arrangement a y.there mine) y.spine)));
                begins = y.begins;
              };
            }
        by false e =
            let same : slice_get c.arrangements m ≡ slice_get d.arrangements m = get_set d.arrangements n m (Some b) (eqb-false m n e) in
            record {
              gathered = refl;
              joins = refl;
              reductions = refl;
              waiting = ap waiting_in same;
              arranged = λ start inserted y. record { arrangement = y.arrangement; there = same ∙ y.there; spine = y.spine; begins = y.begins };
            }

  -- the other desk is right for each worker that had the one and nothing in hand, if the readers
  -- have their holds for what may still come
  pub leads_with : PartialOrderLaws times → (plan : List Node) (fronts : List (List T))
      → ((p : Dataflow) (w : State T) → p.nodes ≡ plan → AreTold times p w fronts → AreHolding times p d (port_frontier times p w) → AreHolding times p c (port_frontier times p w))
      → LeadsOn times plan fronts d c
  leads_with o plan fronts stay p q nodes es legal k told x = record {
    own = tidied_lem times p d c (merged_at p) o (state_after times p es) k (stay p (state_after times p es) nodes told) x.own;
    on_plan = record { places = x.on_plan.places; wide = x.on_plan.wide; joins = x.on_plan.joins; hand = x.on_plan.hand };
  }

-- ---- a hold that moves

-- who reads there before reads there after
pub reads_back : {T : Type 0} (p : Dataflow) (d : DeskView T) (s : ℕ) (b : ArrangementState T) (n port source : ℕ) (j : JoiningView T) → ReadsAt p (with_arrangement s b d) n port source j → ReadsAt p d n port source j
reads_back p d s b n port source j r = record { within = r.within; join = r.join; reads = r.reads; there = r.there }

-- the plan alone says who reads
pub reads_in : {T : Type 0} (p : Dataflow) (plan : List Node) (d : DeskView T) (n port source : ℕ) (j : JoiningView T) → p.nodes ≡ plan → ReadsAt (on_plan plan) d n port source j → ReadsAt p d n port source j
reads_in p plan d n port source j e r =
    let s = subst (λ nodes. ReadsAt (on_plan nodes) d n port source j) (sym e) r in
    record { within = s.within; join = s.join; reads = s.reads; there = s.there }

pub reads_out : {T : Type 0} (p : Dataflow) (plan : List Node) (d : DeskView T) (n port source : ℕ) (j : JoiningView T) → p.nodes ≡ plan → ReadsAt p d n port source j → ReadsAt (on_plan plan) d n port source j
reads_out p plan d n port source j e r =
    subst (λ nodes. ReadsAt (on_plan nodes) d n port source j) e (record { within = r.within; join = r.join; reads = r.reads; there = r.there })

module _ {T : Type 0} (times : Times T) (o : PartialOrderLaws times) (p : Dataflow) (d : DeskView T) (n port s : ℕ) (j : JoiningView T) (reads : ReadsAt p d n port s j) (ports : ℕ → ℕ → List T) (holding : AreHolding times p d ports) (a b : ArrangementState T) (own : slice_get d.arrangements s ≡ Some (Some a))
    (fronts : List (List T)) (moved : HasMoved times (hold_at port j) (front_of_port fronts n (other_port port)) (boundary_at port j) a b) where
  abbrev to : DeskView T
  to = with_arrangement s b d

  abbrev sharing : AreSharing times p d ports
  sharing = holding.joins

  abbrev new_hold : HoldState T
  new_hold = record { logical = front_of_port fronts n (other_port port); physical = boundary_at port j }

  b_there : slice_get to.arrangements s ≡ Some (Some b)
  b_there = get_own d.arrangements s (Some b) (Some a) own

  -- the hold that moved
  pub moved_hold : slice_get b.holds (hold_at port j) ≡ Some new_hold
  moved_hold = ap (λ hs. slice_get hs (hold_at port j)) moved.holds ∙ get_own a.holds (hold_at port j) new_hold moved.hold moved.was

  -- the others
  pub other_hold : (number : ℕ) → number ≢ hold_at port j → slice_get b.holds number ≡ slice_get a.holds number
  other_hold number far = ap (λ hs. slice_get hs number) moved.holds ∙ get_set a.holds (hold_at port j) number new_hold far

  -- a hold of that number at this arrangement is of this port of this join
  alone : (m at : ℕ) (i : JoiningView T) → ReadsAt p d m at s i → hold_at at i ≡ hold_at port j → (m ≡ n) × (at ≡ port) × (i ≡ j)
  alone m at i r e =
      let same = sharing.apart m at n port s i j r reads e in
      (same.0, same.1, one_entry d.joins n i j (ap (slice_get d.joins) (sym same.0) ∙ r.there) reads.there)

  step : IsTrue (all_beyond times (front_of_port fronts n (other_port port)) (ports n (other_port port))) → (m at source : ℕ) (i : JoiningView T) → ReadsAt p d m at source i → HasHold times d source (hold_at at i) (boundary_at at i) (ports m (other_port at)) → (e : Bool) → eqb source s ≡ e
      → HasHold times to source (hold_at at i) (boundary_at at i) (ports m (other_port at))
  step later m at source i r h true e =
      let here = eqb-true source s e in
      let r_here = subst (λ z. ReadsAt p d m at z i) here r in
      let is : h.arrangement ≡ a = one_entry d.arrangements s h.arrangement a (ap (slice_get d.arrangements) (sym here) ∙ h.there) own in
      let there : slice_get to.arrangements source ≡ Some (Some b) = ap (slice_get to.arrangements) here ∙ b_there in
      by there is r_here (eqb (hold_at at i) (hold_at port j)) refl
    where
      by : slice_get to.arrangements source ≡ Some (Some b) → h.arrangement ≡ a → ReadsAt p d m at s i → (f : Bool) → eqb (hold_at at i) (hold_at port j) ≡ f → HasHold times to source (hold_at at i) (boundary_at at i) (ports m (other_port at))
      by there is r_here true f =
          let same = eqb-true (hold_at at i) (hold_at port j) f in
          let who = alone m at i r_here same in
          record {
            arrangement = b;
            there = there;
            other = h.other;
            hold = new_hold;
            held = ap (slice_get b.holds) same ∙ moved_hold;
            apart = subst (λ (z : ℕ × ℕ). IsTrue (all_beyond times (front_of_port fronts n (other_port port)) (ports z.0 (other_port z.1)))) (λ k. (sym who.0 k, sym who.1 k)) later;
            behind = subst (λ F. IsTrue (all_beyond times (boundary_at port j) F)) (λ k. boundary_at (sym who.1 k) (sym who.2 k)) (beyond_itself o (boundary_at port j));
          }
      by there is r_here false f = record {
        arrangement = b;
        there = there;
        other = h.other;
        hold = h.hold;
        held = other_hold (hold_at at i) (eqb-false (hold_at at i) (hold_at port j) f) ∙ (ap (λ (z : ArrangementState T). slice_get z.holds (hold_at at i)) (sym is) ∙ h.held);
        apart = h.apart;
        behind = h.behind;
      }
  step later m at source i r h false e = record {
    arrangement = h.arrangement;
    there = get_set d.arrangements s source (Some b) (eqb-false source s e) ∙ h.there;
    other = h.other;
    hold = h.hold;
    held = h.held;
    apart = h.apart;
    behind = h.behind;
  }

  -- the hold that moved is not the arrangement's own one, which serves the reductions
  serves : (source : ℕ) (ts : List T) → KeepsApart times d source 0 ts → (e : Bool) → eqb source s ≡ e → KeepsApart times to source 0 ts
  serves source ts h true e =
      let here = eqb-true source s e in
      let is : h.arrangement ≡ a = one_entry d.arrangements s h.arrangement a (ap (slice_get d.arrangements) (sym here) ∙ h.there) own in
      let some = (sharing.held n port s j reads).other in
      record {
        arrangement = b;
        there = ap (slice_get to.arrangements) here ∙ b_there;
        hold = h.hold;
        held = other_hold 0 (λ f. omega (arith, some, f)) ∙ (ap (λ (z : ArrangementState T). slice_get z.holds 0) (sym is) ∙ h.held);
        apart = h.apart;
      }
  serves source ts h false e = record {
    arrangement = h.arrangement;
    there = get_set d.arrangements s source (Some b) (eqb-false source s e) ∙ h.there;
    hold = h.hold;
    held = h.held;
    apart = h.apart;
  }

  -- all readers have their holds, if the one that moved is for what may come at the join's other
  -- port
  pub holding_moved : IsTrue (all_beyond times (front_of_port fronts n (other_port port)) (ports n (other_port port))) → AreHolding times p to ports
  holding_moved later = record {
    joins = record {
      held = λ m at source i r. let y = reads_back p d s b m at source i r in step later m at source i y (sharing.held m at source i y) (eqb source s) refl;
      apart = λ m at m2 at2 source i k r t. sharing.apart m at m2 at2 source i k (reads_back p d s b m at source i r) (reads_back p d s b m2 at2 source k t);
    };
    pending = λ m source r is. serves source (pending_of r) (holding.pending m source r (reduces m source r is)) (eqb source s) refl;
    come = λ m source r is. serves source (ports m 0) (holding.come m source r (reduces m source r is)) (eqb source s) refl;
  }
    where
      reduces : (m source : ℕ) (r : ReducingView T) → Reduces p to m source r → Reduces p d m source r
      reduces m source r is = record { within = is.within; kind = is.kind; node = is.node; there = is.there }

  -- a port that was followed still is
  pub stays_followed : (plan : List Node) → p.nodes ≡ plan → (m at : ℕ) → IsFollowedAt plan fronts d m at → IsFollowedAt plan fronts to m at
  stays_followed plan nodes m at followed source i r e there = by (eqb source s) refl
    where
      r_d : ReadsAt (on_plan plan) d m at source i
      r_d = reads_back (on_plan plan) d s b m at source i r

      by : (f : Bool) → eqb source s ≡ f → IsHeldFrom e (hold_at at i) (front_of_port fronts m (other_port at)) (boundary_at at i)
      by true f =
          let here = eqb-true source s f in
          let is : e ≡ b = one_entry to.arrangements s e b (ap (slice_get to.arrangements) (sym here) ∙ there) b_there in
          let before = followed source i r_d a (ap (slice_get d.arrangements) here ∙ own) in
          on here is before (eqb (hold_at at i) (hold_at port j)) refl
        where
          on : source ≡ s → e ≡ b → IsHeldFrom a (hold_at at i) (front_of_port fronts m (other_port at)) (boundary_at at i) → (g : Bool) → eqb (hold_at at i) (hold_at port j) ≡ g
              → IsHeldFrom e (hold_at at i) (front_of_port fronts m (other_port at)) (boundary_at at i)
          on here is before true g =
              let same = eqb-true (hold_at at i) (hold_at port j) g in
              let r_here : ReadsAt p d m at s i = subst (λ z. ReadsAt p d m at z i) here (reads_in p plan d m at source i nodes r_d) in
              let who = alone m at i r_here same in
              ap (λ (z : ArrangementState T). slice_get z.holds (hold_at at i)) is
              ∙ (ap (slice_get b.holds) same ∙ (moved_hold ∙ (λ k. Some (record { logical = front_of_port fronts (sym who.0 k) (other_port (sym who.1 k)); physical = boundary_at (sym who.1 k) (sym who.2 k) }))))
          on here is before false g =
              ap (λ (z : ArrangementState T). slice_get z.holds (hold_at at i)) is ∙ (other_hold (hold_at at i) (eqb-false (hold_at at i) (hold_at port j) g) ∙ before)
      by false f = followed source i r_d e (sym (get_set d.arrangements s source (Some b) (eqb-false source s f)) ∙ there)

  -- and this one is from now on
  pub now_followed : (plan : List Node) → p.nodes ≡ plan → IsFollowedAt plan fronts to n port
  now_followed plan nodes source i r e there =
      let y = reads_in p plan d n port source i nodes (reads_back (on_plan plan) d s b n port source i r) in
      let is : i ≡ j = one_entry d.joins n i j y.there reads.there in
      let here : source ≡ s = same_some source s (sym y.reads ∙ reads.reads) in
      let mine_now : e ≡ b = one_entry to.arrangements s e b (ap (slice_get to.arrangements) (sym here) ∙ there) b_there in
      subst (λ (z : JoiningView T). IsHeldFrom e (hold_at port z) (front_of_port fronts n (other_port port)) (boundary_at port z)) (sym is)
      (ap (λ (z : ArrangementState T). slice_get z.holds (hold_at port j)) mine_now ∙ moved_hold)
    where
      same_some : (x y : ℕ) → Some x ≡ Some y → x ≡ y
      same_some x y e = cc

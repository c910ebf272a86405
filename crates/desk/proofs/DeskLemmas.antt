-- A desk on which what lies for one node has changed.
use Rattle.std.proofs.Common.{◌≡◌, ◌≢◌, ℕ, ◌<◌, Bool, true, false, eqb, List, ◌++◌, length, set, get_or, Option, Some, None, IsTrue, sym, refl, ap, ◌∙◌, subst}
use Rattle.std.specs.List.{list_all, slice_get}
use Rattle.std.proofs.lemmas.Bool.{and_from, eqb-true, eqb-false}
use Rattle.std.proofs.lemmas.List.Folds.{list_all-append}
use Rattle.std.proofs.lemmas.Option.{none-some, same_Some}
use Rattle.lattice.specs.Times.{Times}
use Rattle.lattice.specs.Order.{PartialOrderLaws}
use Rattle.lattice.specs.Frontiers.{all_beyond}
use Rattle.lattice.proofs.FrontierLemmas.{all_beyond_later}
use Rattle.update.specs.declared.change.Update.{Update}
use Rattle.plan.specs.Changes.{has_passed}
use Rattle.plan.specs.Nodes.{arranged_by}
use Rattle.plan.specs.declared.node.Node.{Node}
use Rattle.plan.specs.declared.node.Node.TheVariants.{Arrange}
use Rattle.linear.specs.Widths.{are_wide}
use Rattle.histories.specs.Histories.Dataflows.{Dataflow, node_of}
use Rattle.trace.specs.Holds.{HoldState}
use Rattle.operator.specs.Arrangements.{ArrangementState}
use Rattle.operator.specs.Joins.{JoiningView}
use Rattle.histories.specs.Histories.States.{update_times}
use Rattle.operator.specs.Reductions.{IsPendingAfter, IsReduced, ReducingView, pending_of}
use Rattle.desk_laws.specs.Own.{AreHolding, AreSharing, DeskView, HasHold, IsSpineAt, IsSameAt, KeepsApart, ReadsAt, Reduces, StayHolding, StayHoldingWith, boundary_at, gathered_in, hold_at, other_port, waiting_in, waits_on}
use Rattle.desk.specs.Desks.{IsLaidIn, IsReducedWith}
use Rattle.desk.proofs.PlaceLemmas.{get_own, get_set, length_set, one_entry, read_at}

module _ {T : Type 0} where
  pub same_but_gathered : (d : DeskView T) (n : ℕ) (us : List (Update T)) (m : ℕ) → m ≢ n → IsSameAt m d (record d { gathered = set d.gathered n us })
  same_but_gathered d n us m ne = record { gathered = get_set d.gathered n m us ne; arrangements = refl; joins = refl; reductions = refl }

  pub same_but_reduction : (d : DeskView T) (n : ℕ) (r : Option (ReducingView T)) (m : ℕ) → m ≢ n → IsSameAt m d (record d { reductions = set d.reductions n r })
  same_but_reduction d n r m ne = record { gathered = refl; arrangements = refl; joins = refl; reductions = get_set d.reductions n m r ne }

  -- what waits at a node that is not arranged lies gathered
  pub waits_plain : (d : DeskView T) (n : ℕ) (node : Node) → arranged_by node ≡ None → waits_on d n node ≡ gathered_in (slice_get d.gathered n)
  waits_plain d n (Arrange source key) e = absurd (none-some key (sym e))
  waits_plain d n other e = refl

  pub wide_both : (width : ℕ) (us vs : List (Update T)) → IsTrue (are_wide width us) → IsTrue (are_wide width vs) → IsTrue (are_wide width (us ++ vs))
  wide_both width us vs a b = list_all-append (λ u. eqb (length u.row) width) us vs ∙ and_from (are_wide width us) (are_wide width vs) a b

-- the joins are as they were, and so are all holds at each arrangement
module _ {T : Type 0} (times : Times T) (p : Dataflow) (d e : DeskView T) (joins : (m : ℕ) → slice_get e.joins m ≡ slice_get d.joins m)
    (kept : (s : ℕ) (a : ArrangementState T) → slice_get d.arrangements s ≡ Some (Some a) → (b : ArrangementState T) × (slice_get e.arrangements s ≡ Some (Some b)) × (b.holds ≡ a.holds)) where
  back : (n port source : ℕ) (j : JoiningView T) → ReadsAt p e n port source j → ReadsAt p d n port source j
  back n port source j r = record { within = r.within; join = r.join; reads = r.reads; there = sym (joins n) ∙ r.there }

  apart_kept : (source number : ℕ) (ts : List T) → KeepsApart times d source number ts → KeepsApart times e source number ts
  apart_kept source number ts h =
      let b = kept source h.arrangement h.there in
      record { arrangement = b.0; there = b.1; hold = h.hold; held = ap (λ hs. slice_get hs number) b.2 ∙ h.held; apart = h.apart }

  joins_kept : (ports : ℕ → ℕ → List T) → AreSharing times p d ports → AreSharing times p e ports
  joins_kept ports x = record {
    held = λ n port source j r.
        let h = x.held n port source j (back n port source j r) in
        let b = kept source h.arrangement h.there in
        record { arrangement = b.0; there = b.1; other = h.other; hold = h.hold; held = ap (λ hs. slice_get hs (hold_at port j)) b.2 ∙ h.held; apart = h.apart; behind = h.behind };
    apart = λ n port m other source i j r t. x.apart n port m other source i j (back n port source i r) (back m other source j t);
  }

  -- so readers have their holds, if each reduction had one of a frontier that its pending times are
  -- beyond
  pub holding_from : (ports : ℕ → ℕ → List T) → AreHolding times p d ports
      → ((n source : ℕ) (r : ReducingView T) → Reduces p e n source r → (s : ReducingView T) × Reduces p d n source s × ((F : List T) → IsTrue (all_beyond times F (pending_of s)) → IsTrue (all_beyond times F (ports n 0)) → IsTrue (all_beyond times F (pending_of r))))
      → AreHolding times p e ports
  holding_from ports x before = record {
    joins = joins_kept ports x.joins;
    pending = λ n source r is.
        let s = before n source r is in
        let both = same_hold (x.pending n source s.0 s.1) (x.come n source s.0 s.1) in
        let h = x.pending n source s.0 s.1 in
        apart_kept source 0 (pending_of r) (record { arrangement = h.arrangement; there = h.there; hold = h.hold; held = h.held; apart = s.2 h.hold.logical h.apart both });
    come = λ n source r is. let s = before n source r is in apart_kept source 0 (ports n 0) (x.come n source s.0 s.1);
  }
    where
      -- there is but one hold of a number
      same_hold : {source : ℕ} {ts us : List T} (h : KeepsApart times d source 0 ts) (g : KeepsApart times d source 0 us) → IsTrue (all_beyond times h.hold.logical us)
      same_hold {source} {ts} {us} h g =
          let mine = same_Some g.arrangement h.arrangement (same_Some (Some g.arrangement) (Some h.arrangement) (sym g.there ∙ h.there)) in
          let is = same_Some g.hold h.hold (sym g.held ∙ (ap (λ (z : ArrangementState T). slice_get z.holds 0) mine ∙ h.held)) in
          subst (λ (z : HoldState T). IsTrue (all_beyond times z.logical us)) is g.apart

  -- the reductions are as they were, too
  pub holding_kept : ((m : ℕ) → slice_get e.reductions m ≡ slice_get d.reductions m) → StayHolding times p d e
  holding_kept reductions ports x = holding_from ports x (λ n source r is. (
    r,
    record { within = is.within; kind = is.kind; node = is.node; there = sym (reductions n) ∙ is.there },
    λ F pending come. pending,
  ))

module _ {T : Type 0} (times : Times T) (p : Dataflow) (d : DeskView T) where
  pub holding_gathered : (gathered : List (List (Update T))) → StayHolding times p d (record d { gathered = gathered })
  holding_gathered gathered = holding_kept times p d (record d { gathered = gathered }) (λ m. refl) (λ s a there. (a, there, refl)) (λ m. refl)

  -- another reduction lies there for a node
  module _ (n : ℕ) (r s : ReducingView T) (there : slice_get d.reductions n ≡ Some (Some r)) where
    abbrev reduced_desk : DeskView T
    reduced_desk = record d { reductions = set d.reductions n (Some s) }

    before : (ports : ℕ → ℕ → List T) → ((F : List T) → IsTrue (all_beyond times F (pending_of r)) → IsTrue (all_beyond times F (ports n 0)) → IsTrue (all_beyond times F (pending_of s)))
        → (m source : ℕ) (u : ReducingView T) → Reduces p reduced_desk m source u → (v : ReducingView T) × Reduces p d m source v × ((F : List T) → IsTrue (all_beyond times F (pending_of v)) → IsTrue (all_beyond times F (ports m 0)) → IsTrue (all_beyond times F (pending_of u)))
    before ports on m source u is = by (eqb m n) refl
      where
        by : (b : Bool) → eqb m n ≡ b → (v : ReducingView T) × Reduces p d m source v × ((F : List T) → IsTrue (all_beyond times F (pending_of v)) → IsTrue (all_beyond times F (ports m 0)) → IsTrue (all_beyond times F (pending_of u)))
        by true e =
            let at = eqb-true m n e in
            let same : s ≡ u = same_Some s u (same_Some (Some s) (Some u) (sym (get_own d.reductions n (Some s) (Some r) there) ∙ (ap (slice_get (set d.reductions n (Some s))) (sym at) ∙ is.there))) in (
              r,
              record { within = is.within; kind = is.kind; node = is.node; there = ap (slice_get d.reductions) at ∙ there },
              λ F pending come. subst (λ (z : ReducingView T). IsTrue (all_beyond times F (pending_of z))) same (on F pending (subst (λ k. IsTrue (all_beyond times F (ports k 0))) at come)),
            )
        by false e = (
          u,
          record { within = is.within; kind = is.kind; node = is.node; there = sym (get_set d.reductions n m (Some s) (eqb-false m n e)) ∙ is.there },
          λ F pending come. pending,
        )

    -- nothing is pending before what was
    pub holding_found : ((F : List T) → IsTrue (all_beyond times F (pending_of r)) → IsTrue (all_beyond times F (pending_of s))) → StayHolding times p d reduced_desk
    holding_found on ports x = holding_from times p d reduced_desk (λ m. refl) (λ k a own. (a, own, refl)) ports x (before ports (λ F pending come. on F pending))

    -- these times became pending
    pub holding_taken : PartialOrderLaws times → (ts : List T) → ((F : List T) → IsTrue (all_beyond times F (pending_of r)) → IsTrue (all_beyond times F ts) → IsTrue (all_beyond times F (pending_of s))) → StayHoldingWith times p d reduced_desk n 0 ts
    holding_taken o ts on ports later x = holding_from times p d reduced_desk (λ m. refl) (λ k a own. (a, own, refl)) ports x (before ports (λ F pending come. on F pending (all_beyond_later o F (ports n 0) ts come later)))

-- ---- one arrangement has changed

module _ {T : Type 0} where
  -- another arrangement lies on the desk for a node
  abbrev pub with_arrangement : ℕ → ArrangementState T → DeskView T → DeskView T
  with_arrangement n a d = record d { arrangements = set d.arrangements n (Some a) }

  -- for every other node the same lies there
  pub other_nodes : (d : DeskView T) (n : ℕ) (a : ArrangementState T) (m : ℕ) → m ≢ n → IsSameAt m d (with_arrangement n a d)
  other_nodes d n a m e = record { gathered = refl; arrangements = get_set d.arrangements n m (Some a) e; joins = refl; reductions = refl }

module _ {T : Type 0} (times : Times T) (p : Dataflow) (d : DeskView T) (n : ℕ) (a b : ArrangementState T) (there : slice_get d.arrangements n ≡ Some (Some a)) where
  reads_with : (m port source : ℕ) (j : JoiningView T) → ReadsAt p (with_arrangement n b d) m port source j → ReadsAt p d m port source j
  reads_with m port source j r = record { within = r.within; join = r.join; reads = r.reads; there = r.there }

  -- the arrangement of a node, and where it lies now
  here_now : (source : ℕ) (z : ArrangementState T) → slice_get d.arrangements source ≡ Some (Some z) → eqb source n ≡ true → (a ≡ z) × (slice_get (with_arrangement n b d).arrangements source ≡ Some (Some b))
  here_now source z own e =
      let at = eqb-true source n e in (
        one_entry d.arrangements n a z there (sym (ap (slice_get d.arrangements) at) ∙ own),
        ap (slice_get (set d.arrangements n (Some b))) at ∙ get_own d.arrangements n (Some b) (Some a) there,
      )

  -- for these frontiers of the ports: readers still have their holds if those have stayed, and the
  -- arrangement's own one still serves the reductions
  pub holding_at : (ports : ℕ → ℕ → List T) → ((number : ℕ) → 0 < number → slice_get b.holds number ≡ slice_get a.holds number)
      → ((m : ℕ) (r : ReducingView T) → Reduces p d m n r → (hold : HoldState T) → slice_get a.holds 0 ≡ Some hold → (moved : HoldState T) × (slice_get b.holds 0 ≡ Some moved)
      × (IsTrue (all_beyond times hold.logical (pending_of r)) → IsTrue (all_beyond times moved.logical (pending_of r)))
      × (IsTrue (all_beyond times hold.logical (ports m 0)) → IsTrue (all_beyond times moved.logical (ports m 0))))
      → AreHolding times p d ports → AreHolding times p (with_arrangement n b d) ports
  holding_at ports same own x = record {
    joins = record {
      held = λ m port source j r. step source (hold_at port j) (boundary_at port j) (ports m (other_port port)) (x.joins.held m port source j (reads_with m port source j r)) (eqb source n) refl;
      apart = λ m port k other source i j r t. x.joins.apart m port k other source i j (reads_with m port source i r) (reads_with k other source j t);
    };
    pending = λ m source r is. serves source (pending_of r) (x.pending m source r (reduces m source r is)) (λ at hold there apart. let z = own m r (here m source r at is) hold there in (z.0, z.1, z.2 apart)) (eqb source n) refl;
    come = λ m source r is. serves source (ports m 0) (x.come m source r (reduces m source r is)) (λ at hold there apart. let z = own m r (here m source r at is) hold there in (z.0, z.1, z.3 apart)) (eqb source n) refl;
  }
    where
      reduces : (m source : ℕ) (r : ReducingView T) → Reduces p (with_arrangement n b d) m source r → Reduces p d m source r
      reduces m source r is = record { within = is.within; kind = is.kind; node = is.node; there = is.there }

      here : (m source : ℕ) (r : ReducingView T) → source ≡ n → Reduces p (with_arrangement n b d) m source r → Reduces p d m n r
      here m source r at is = subst (λ k. Reduces p d m k r) at (reduces m source r is)

      step : (source number : ℕ) (u ts : List T) → HasHold times d source number u ts → (c : Bool) → eqb source n ≡ c → HasHold times (with_arrangement n b d) source number u ts
      step source number u ts h true e =
          let now = here_now source h.arrangement h.there e in
          record {
            arrangement = b;
            there = now.1;
            other = h.other;
            hold = h.hold;
            held = same number h.other ∙ (ap (λ (z : ArrangementState T). slice_get z.holds number) now.0 ∙ h.held);
            apart = h.apart;
            behind = h.behind;
          }
      step source number u ts h false e = record {
        arrangement = h.arrangement;
        there = get_set d.arrangements n source (Some b) (eqb-false source n e) ∙ h.there;
        other = h.other;
        hold = h.hold;
        held = h.held;
        apart = h.apart;
        behind = h.behind;
      }

      serves : (source : ℕ) (ts : List T) → KeepsApart times d source 0 ts
          → (source ≡ n → (hold : HoldState T) → slice_get a.holds 0 ≡ Some hold → IsTrue (all_beyond times hold.logical ts) → (moved : HoldState T) × (slice_get b.holds 0 ≡ Some moved) × IsTrue (all_beyond times moved.logical ts))
          → (c : Bool) → eqb source n ≡ c → KeepsApart times (with_arrangement n b d) source 0 ts
      serves source ts h on true e =
          let now = here_now source h.arrangement h.there e in
          let m = on (eqb-true source n e) h.hold (ap (λ (z : ArrangementState T). slice_get z.holds 0) now.0 ∙ h.held) h.apart in
          record { arrangement = b; there = now.1; hold = m.0; held = m.1; apart = m.2 }
      serves source ts h on false e = record {
        arrangement = h.arrangement;
        there = get_set d.arrangements n source (Some b) (eqb-false source n e) ∙ h.there;
        hold = h.hold;
        held = h.held;
        apart = h.apart;
      }

  -- so they have for any frontiers of the ports, if the own one is for the same times
  pub holding_with : ((number : ℕ) → 0 < number → slice_get b.holds number ≡ slice_get a.holds number)
      → ((hold : HoldState T) → slice_get a.holds 0 ≡ Some hold → (moved : HoldState T) × (slice_get b.holds 0 ≡ Some moved) × (moved.logical ≡ hold.logical)) → StayHolding times p d (with_arrangement n b d)
  holding_with same own ports x =
      holding_at ports same (λ m r is hold at.
      let z = own hold at in (
        z.0,
        z.1,
        (λ apart. subst (λ F. IsTrue (all_beyond times F (pending_of r))) (sym z.2) apart),
        (λ apart. subst (λ F. IsTrue (all_beyond times F (ports m 0))) (sym z.2) apart),
      )) x

  -- in particular if all of them have
  pub holding_same : b.holds ≡ a.holds → StayHolding times p d (with_arrangement n b d)
  holding_same e = holding_with (λ number l. ap (λ hs. slice_get hs number) e) (λ hold at. (hold, ap (λ hs. slice_get hs 0) e ∙ at, refl))

-- ---- what a bundle makes is put to what waits

module _ {T : Type 0} (times : Times T) (p : Dataflow) (n : ℕ) (d : DeskView T) where
  pub laid_gathered : (us made : List (Update T)) → slice_get d.gathered n ≡ Some us → arranged_by (node_of p n) ≡ None → IsLaidIn times p n made d (record d { gathered = set d.gathered n (us ++ made) })
  laid_gathered us made there plain =
      let now = get_own d.gathered n (us ++ made) us there in
      record {
        others = same_but_gathered d n (us ++ made);
        gathered = length_set d.gathered n (us ++ made);
        holding = holding_gathered times p d (set d.gathered n (us ++ made));
        arranged = λ start inserted x. record { arrangement = x.arrangement; there = x.there; spine = x.spine; begins = x.begins };
        waits =
            waits_plain (record d { gathered = set d.gathered n (us ++ made) }) n (node_of p n) plain
            ∙ (ap gathered_in now ∙ ap (λ vs. vs ++ made) (sym (waits_plain d n (node_of p n) plain ∙ ap gathered_in there)));
        wide = λ width before is. subst (λ vs. IsTrue (are_wide width (gathered_in vs))) (sym now) (wide_both width us made (subst (λ vs. IsTrue (are_wide width (gathered_in vs))) there before) is);
      }

  laid_arranged_at : (a : ArrangementState T) (made : List (Update T)) → slice_get d.arrangements n ≡ Some (Some a) → (source key : ℕ) → node_of p n ≡ Arrange source key
      → IsLaidIn times p n made d (record d { arrangements = set d.arrangements n (Some (record a { waiting = a.waiting ++ made })) })
  laid_arranged_at a made there source key e =
      let b : ArrangementState T = record a { waiting = a.waiting ++ made } in
      let now = get_own d.arrangements n (Some b) (Some a) there in
      let c : DeskView T = record d { arrangements = set d.arrangements n (Some b) } in
      record {
        others = other_nodes d n b;
        gathered = refl;
        holding = holding_same times p d n a b there refl;
        arranged = λ start inserted x.
            let mine = same_Some x.arrangement a (same_Some (Some x.arrangement) (Some a) (sym x.there ∙ there)) in
            let s = subst (IsSpineAt times p n inserted) mine x.spine in
            record { arrangement = b; there = now; spine = record { width = s.width; start = s.start; stands = s.stands; in_turn = s.in_turn; «open» = s.«open» }; begins = x.begins };
        waits = ap (waits_on c n) e ∙ (ap waiting_in now ∙ ap (λ vs. vs ++ made) (sym (ap (waits_on d n) e ∙ ap waiting_in there)));
        wide = λ width before is. before;
      }

  pub laid_arranged : (a b : ArrangementState T) (made : List (Update T)) → slice_get d.arrangements n ≡ Some (Some a) → b ≡ record a { waiting = a.waiting ++ made } → (source key : ℕ) → node_of p n ≡ Arrange source key
      → IsLaidIn times p n made d (record d { arrangements = set d.arrangements n (Some b) })
  laid_arranged a b made there is source key e = subst (λ z. IsLaidIn times p n made d (record d { arrangements = set d.arrangements n (Some z) })) (sym is) (laid_arranged_at a made there source key e)

  -- the same, as code finds it
  pub gathered_after : (operator : Node) → node_of p n ≡ operator → arranged_by operator ≡ None → (i : ℕ) → i ≡ n → n < length d.gathered → (us new made : List (Update T)) → us ≡ get_or d.gathered i us → new ≡ us ++ made
      → IsLaidIn times p n made d (record d { gathered = set d.gathered i new })
  gathered_after operator at plain i same within us new made is now =
      subst (λ (c : DeskView T). IsLaidIn times p n made d c) (λ j. record d { gathered = set d.gathered (sym same j) (sym now j) })
      (laid_gathered us made (read_at d.gathered i n us same within is) (ap arranged_by at ∙ plain))

  pub arranged_after : (a b : ArrangementState T) (made : List (Update T)) (i : ℕ) → i ≡ n → slice_get d.arrangements n ≡ Some (Some a) → b ≡ record a { waiting = a.waiting ++ made } → (source key : ℕ) → node_of p n ≡ Arrange source key
      → IsLaidIn times p n made d (record d { arrangements = set d.arrangements i (Some b) })
  arranged_after a b made i same there is source key e =
      subst (λ j. IsLaidIn times p n made d (record d { arrangements = set d.arrangements j (Some b) })) (sym same) (laid_arranged a b made there is source key e)

-- ---- what a reduction takes

module _ {T : Type 0} (times : Times T) (n : ℕ) (d : DeskView T) (r s : ReducingView T) (us : List (Update T)) where
  pub reduced_after : PartialOrderLaws times → (i : ℕ) → i ≡ n → slice_get d.reductions n ≡ Some (Some r)
      → s ≡ record r { state = record r.state { histories = s.state.histories; waiting = s.state.waiting } }
      → ((received emitted : List (Update T)) (upper : List T) → IsReduced times r received emitted → IsTrue (all_beyond times upper (update_times us)) → IsTrue (list_all (λ u. has_passed times upper u.time) emitted) → IsReduced times s (us ++ received) emitted)
      → ((received emitted : List (Update T)) → IsReduced times r received emitted → IsPendingAfter times (pending_of r) us (pending_of s))
      → IsReducedWith times n us d (record d { reductions = set d.reductions i (Some s) })
  reduced_after o i same there kept reduced pending =
      subst (λ j. IsReducedWith times n us d (record d { reductions = set d.reductions j (Some s) })) (sym same) (record {
        others = same_but_reduction d n (Some s);
        gathered = refl;
        before = r;
        after = s;
        was = there;
        there = get_own d.reductions n (Some s) (Some r) there;
        shape = record {
          reducer = ap (λ (z : ReducingView T). z.state.reducer) kept;
          columns = ap (λ (z : ReducingView T). z.state.key) kept;
          key = ap (λ (z : ReducingView T). z.key) kept;
          width = ap (λ (z : ReducingView T). z.width) kept;
        };
        reduced = reduced;
        pending = pending;
        holding = λ p received emitted is. holding_taken times p d n r s there o (update_times us) (pending received emitted is).beyond;
      })

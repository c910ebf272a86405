-- From a bundle in hand to what lies on the desk.
use Rattle.std.proofs.lemmas.Bool.Decides.{nat_tests}
use Rattle.std.specs.Prelude.{nat_lt}
use Rattle.operator.specs.Reductions.{IsReduced}
use Rattle.linear.specs.Ports.{is_port}
use Rattle.desk.proofs.PlaceLemmas.{one_entry}
use Rattle.std.proofs.Common.{◌≡◌, ℕ, ◌<◌, ◌≤◌, ◌^◌, Bool, true, false, eqb, List, [], ◌++◌, length, None, IsTrue, sym, refl, ap, ◌∙◌, subst, arith, ⊎_elim}
use Rattle.std.specs.List.{slice_get}
use Rattle.std.specs.declared.cmp.Ordering.{Ordering}
use Rattle.std.proofs.lemmas.Bool.{eqb-true, eqb-false, true≢false, or_cases}
use Rattle.std.proofs.lemmas.Int.{ints}
use Rattle.std.proofs.Math.IntN.{ℤ, ◌+ℤ◌}
use Rattle.lattice.specs.Times.{Times}
use Rattle.lattice.specs.Order.{PartialOrderLaws, LatticeLaws}
use Rattle.lattice.specs.Frontiers.{all_beyond}
use Rattle.update.specs.Updates.{size}
use Rattle.update.specs.declared.change.Update.{Update}
use Rattle.plan.specs.Nodes.{arranged_by, is_join, is_linear, is_reduction, node_at}
use Rattle.plan.specs.Widths.{width_of}
use Rattle.plan.specs.declared.kind.Kind.{Kind}
use Rattle.plan.specs.declared.node.Node.{Node}
use Rattle.plan.specs.declared.node.Node.TheVariants.{Arrange, Join, Reduce}
use Rattle.linear.specs.Applied.{linear_output, Overflows}
use Rattle.linear.specs.Widths.{are_wide}
use Rattle.histories.specs.declared.event.Bundle.{Bundle}
use Rattle.histories.specs.Histories.{state_after}
use Rattle.histories.specs.Histories.Dataflows.{Dataflow, IsDataflow, node_of}
use Rattle.histories.specs.Histories.Promises.{changes_in}
use Rattle.histories.specs.Histories.States.{State, update_times}
use Rattle.histories.proofs.HistoryLemmas.FlowLemmas.{sum_at, sum_at-append}
use Rattle.operator_laws.specs.GatheredUpdates.{IsSplit}
use Rattle.shared_board.specs.Large.{HasNoSmallBound}
use Rattle.operator_laws.proofs.GatheredLemmas.{beyond_both, beyond_parts, size_both, size_none, times_both}
use Rattle.desk_laws.specs.Own.{DeskView, gathered_in, waits_on, StayHoldingWith}
use Rattle.desk_laws.specs.declared.hand.Hand.TheVariants.{Kept, Taken}
use Rattle.desk_laws.proofs.LaidLemmas.{kept_lem}
use Rattle.desk_laws.proofs.ReducedLemmas.{kept_reduce}
use Rattle.desk.specs.Desks.{IsLaidIn, IsReducedWith, IsOnPlan, IsRight, IsTooLarge, Leads}
use Rattle.desk.proofs.BundleLemmas.{widened}
use Rattle.desk.proofs.CauseLemmas.{large_bundle, large_made}

pub linear_no_join : (node : Node) → IsTrue (is_linear node) → is_join node ≡ false
linear_no_join (Join l r) h = absurd (true≢false (sym h))
linear_no_join other h = refl

-- a node that is no join and no reduction is linear, and one that is no arrange node is not
-- arranged
pub linear_else : (node : Node) → is_join node ≡ false → ((kind : Kind) (source : ℕ) → node ≡ Reduce kind source → ⊥) → IsTrue (is_linear node)
linear_else (Join l r) h f = absurd (true≢false h)
linear_else (Reduce kind source) h f = absurd (f kind source refl)
linear_else other h f = refl

pub plain_else : (node : Node) → ((source key : ℕ) → node ≡ Arrange source key → ⊥) → arranged_by node ≡ None
plain_else (Arrange source key) f = absurd (f source key refl)
plain_else other f = refl

pub no_reduction_else : (node : Node) → ((kind : Kind) (source : ℕ) → node ≡ Reduce kind source → ⊥) → is_reduction node ≡ false
no_reduction_else (Reduce kind source) f = absurd (f kind source refl)
no_reduction_else other f = refl

pub no_join_else : (node : Node) → ((l r : ℕ) → node ≡ Join l r → ⊥) → is_join node ≡ false
no_join_else (Join l r) f = absurd (f l r refl)
no_join_else other f = refl

pub reduce_no_join : (kind : Kind) (source : ℕ) (node : Node) → node ≡ Reduce kind source → is_join node ≡ false
reduce_no_join kind source node e = ap is_join e

-- a reduction has one port
only_port : (kind : Kind) (source port : ℕ) → IsTrue (is_port (Reduce kind source) port) → port ≡ 0
only_port kind source port h = ⊎_elim (λ e. eqb-true port 0 e) (λ l. below_one port l) (or_cases (eqb port 0) (nat_lt port 1) h)
  where
    below_one : (port : ℕ) → nat_lt port 1 ≡ true → port ≡ 0
    below_one port l = grind (arith, nat_tests)

module _ {T : Type 0} (times : Times T) where
  swap : (a b : ℤ) → a +ℤ b ≡ b +ℤ a
  swap a b = omega (arith, ints)

  -- what waits may be held back in the other order
  pub split_turned : (us vs : List (Update T)) → IsSplit times (us ++ vs) [] (vs ++ us)
  split_turned us vs = record {
    sums = λ t row. sum_at-append times t vs us row ∙ (swap (sum_at times t vs row) (sum_at times t us row) ∙ sym (sum_at-append times t us vs row));
    smaller =
        let a = size_both us vs in
        let b = size_both vs us in
        let e = size_none T in
        omega (arith, a, b, e);
    out_beyond = λ F h. refl;
    rest_beyond = λ F h.
        let parts = beyond_parts times F (update_times us) (update_times vs) (sym (ap (all_beyond times F) (times_both us vs)) ∙ h) in
        ap (all_beyond times F) (times_both vs us) ∙ beyond_both times F (update_times vs) (update_times us) parts.1 parts.0;
  }

module _ {T : Type 0} (times : Times T) (p : Dataflow) (q : IsDataflow p) (d c : DeskView T) (bundle : Bundle T) (more : Bool) where
  abbrev n : ℕ
  n = bundle.place.node

  -- rows that were laid there have their width
  pub laid_on_plan : IsTrue (is_linear (node_of p n)) → IsLaidIn times p n (linear_output (node_of p n) bundle.updates) d c
      → IsOnPlan times p d (Taken bundle more) → IsOnPlan times p c (Kept n more)
  laid_on_plan linear laid x = record {
    places = laid.gathered ∙ x.places;
    wide = λ m l. wide_step m l (eqb m n) refl;
    joins = λ m l j. joins_step m l j (eqb m n) refl;
    hand = (x.hand.0, linear_no_join (node_of p n) linear);
  }
    where
      wide_step : (m : ℕ) → m < length p.nodes → (b : Bool) → eqb m n ≡ b → IsTrue (are_wide (width_of p.nodes m) (gathered_in (slice_get c.gathered m)))
      wide_step m l true e =
          subst (λ m. IsTrue (are_wide (width_of p.nodes m) (gathered_in (slice_get c.gathered m)))) (sym (eqb-true m n e))
          (laid.wide (width_of p.nodes n) (x.wide n x.hand.0) (widened p q bundle.place bundle.updates x.hand.1 x.hand.2 linear))
      wide_step m l false e = subst (λ us. IsTrue (are_wide (width_of p.nodes m) (gathered_in us))) (sym (laid.others m (eqb-false m n e)).gathered) (x.wide m l)

      joins_step : (m : ℕ) → m < length p.nodes → is_join (node_of p m) ≡ true → (b : Bool) → eqb m n ≡ b → gathered_in (slice_get c.gathered m) ≡ []
      joins_step m l j true e = absurd (true≢false (sym (subst (λ m. is_join (node_of p m) ≡ true) (eqb-true m n e) j) ∙ linear_no_join (node_of p n) linear))
      joins_step m l j false e = ap gathered_in (laid.others m (eqb-false m n e)).gathered ∙ x.joins m l j

  pub reduced_on_plan : (kind : Kind) (source : ℕ) → node_of p n ≡ Reduce kind source → IsReducedWith times n bundle.updates d c
      → IsOnPlan times p d (Taken bundle more) → IsOnPlan times p c (Kept n more)
  reduced_on_plan kind source e with_it x = record {
    places = ap length with_it.gathered ∙ x.places;
    wide = λ m l. subst (λ us. IsTrue (are_wide (width_of p.nodes m) (gathered_in (slice_get us m)))) (sym with_it.gathered) (x.wide m l);
    joins = λ m l j. ap (λ us. gathered_in (slice_get us m)) with_it.gathered ∙ x.joins m l j;
    hand = (x.hand.0, ap is_join e);
  }

  module _ (o : PartialOrderLaws times) (w : State T) (k : ℕ) where
    pub laid_right : IsTrue (is_linear (node_of p n)) → IsLaidIn times p n (linear_output (node_of p n) bundle.updates) d c
        → IsRight times p w k d (Taken bundle more) → IsRight times p w k c (Kept n more)
    laid_right linear laid x =
        let made = linear_output (node_of p n) bundle.updates in
        let waits = waits_on d n (node_of p n) in
        record {
          own =
              kept_lem times o p q w k d c laid.holding bundle more x.on_plan.hand.0 linear laid.others laid.arranged
              (subst (IsSplit times (made ++ waits) []) (sym laid.waits) (split_turned times made waits)) x.own;
          on_plan = laid_on_plan linear laid x.on_plan;
        }

    pub reduced_right : (laws : LatticeLaws times) (kind : Kind) (source : ℕ) → node_of p n ≡ Reduce kind source → IsReducedWith times n bundle.updates d c
        → IsRight times p w k d (Taken bundle more) → IsRight times p w k c (Kept n more)
    reduced_right laws kind source e with_it x =
        let lies = x.own.laid.reducing n source kind x.on_plan.hand.0 e in
        let is : lies.reduction ≡ with_it.before = one_entry d.reductions n lies.reduction with_it.before lies.there with_it.was in
        let stay = with_it.holding p lies.taken (x.own.keeps.given n) (subst (λ z. IsReduced times z lies.taken (x.own.keeps.given n)) is lies.reduced) in
        let first : bundle.place.port ≡ 0 = only_port kind source bundle.place.port (subst (λ node. IsTrue (is_port node bundle.place.port)) e x.on_plan.hand.1) in
        record {
          own =
              kept_reduce times o laws p q w k d c bundle more (subst (λ i. StayHoldingWith times p d c n i (update_times bundle.updates)) (sym first) stay) x.on_plan.hand.0 kind source e with_it.others with_it.before with_it.after
              with_it.was with_it.there with_it.shape with_it.reduced with_it.pending x.own;
          on_plan = reduced_on_plan kind source e with_it x.on_plan;
        }

module _ {T : Type 0} (times : Times T) (o : PartialOrderLaws times) (plan : List Node) (d c : DeskView T) (bundle : Bundle T) (more : Bool) where
  -- whichever worker has the bundle in hand
  pub laid_leads : IsTrue (is_linear (node_at plan bundle.place.node))
      → ((p : Dataflow) → p.nodes ≡ plan → IsLaidIn times p bundle.place.node (linear_output (node_at plan bundle.place.node) bundle.updates) d c)
      → Leads times plan d (Taken bundle more) c (Kept bundle.place.node more)
  laid_leads linear laid p q e es legal k x =
      laid_right times p q d c bundle more o (state_after times p es) k
      (subst (λ nodes. IsTrue (is_linear (node_at nodes bundle.place.node))) (sym e) linear)
      (subst (λ nodes. IsLaidIn times p bundle.place.node (linear_output (node_at nodes bundle.place.node) bundle.updates) d c) (sym e) (laid p e)) x

  pub reduced_leads : (laws : LatticeLaws times) (kind : Kind) (source : ℕ) → node_at plan bundle.place.node ≡ Reduce kind source → IsReducedWith times bundle.place.node bundle.updates d c
      → Leads times plan d (Taken bundle more) c (Kept bundle.place.node more)
  reduced_leads laws kind source at with_it p q e es legal k x =
      reduced_right times p q d c bundle more o (state_after times p es) k laws kind source (ap (λ nodes. node_at nodes bundle.place.node) e ∙ at) with_it x

  pub gathered_leads : IsTrue (is_linear (node_at plan bundle.place.node))
      → ((p : Dataflow) → node_at p.nodes bundle.place.node ≡ node_at plan bundle.place.node → IsLaidIn times p bundle.place.node (linear_output (node_at plan bundle.place.node) bundle.updates) d c)
      → Leads times plan d (Taken bundle more) c (Kept bundle.place.node more)
  gathered_leads linear laid = laid_leads linear (λ p e. laid p (ap (λ nodes. node_at nodes bundle.place.node) e))

  pub arranged_leads : (source key : ℕ) → node_at plan bundle.place.node ≡ Arrange source key
      → ((p : Dataflow) (source key : ℕ) → node_at p.nodes bundle.place.node ≡ Arrange source key → IsLaidIn times p bundle.place.node bundle.updates d c)
      → Leads times plan d (Taken bundle more) c (Kept bundle.place.node more)
  arranged_leads source key at laid =
      laid_leads (ap is_linear at) (λ p e.
      subst (λ node. IsLaidIn times p bundle.place.node (linear_output node bundle.updates) d c) (sym at) (laid p source key (ap (λ nodes. node_at nodes bundle.place.node) e ∙ at)))

module _ {T : Type 0} (times : Times T) (o : PartialOrderLaws times) (cmp : T → T → Ordering) (plan : List Node) (d : DeskView T) (bundle : Bundle T) (more : Bool) where
  -- why a linear node, and a reduction, could not take the bundle
  pub made_too_large : Overflows (node_at plan bundle.place.node) bundle.updates → IsTooLarge times cmp plan d (Taken bundle more)
  made_too_large over p q e es legal k x =
      subst (λ nodes. HasNoSmallBound times cmp nodes (changes_in (state_after times p es))) e
      (large_made times o cmp p q es legal k d bundle more x (subst (λ nodes. Overflows (node_at nodes bundle.place.node) bundle.updates) (sym e) over))

  pub bundle_too_large : (kind : Kind) (source : ℕ) → node_at plan bundle.place.node ≡ Reduce kind source → 2 ^ 63 ≤ size bundle.updates → IsTooLarge times cmp plan d (Taken bundle more)
  bundle_too_large kind source at large p q e es legal k x =
      subst (λ nodes. HasNoSmallBound times cmp nodes (changes_in (state_after times p es))) e
      (large_bundle times o cmp p q es legal k d bundle more x kind source (ap (λ nodes. node_at nodes bundle.place.node) e ∙ at) large)

-- Reading a board that was found quiet gives the session's answers.
use Rattle.std.proofs.Common.{◌≡◌, ℕ, ◌<◌, Bool, not, List, [], ◌∷◌, length, Option, Some, None, Result, Ok, Err, IsTrue, sym, ◌∙◌, ap, subst, inl, inr, ◌⊎◌}
use Rattle.std.specs.Prelude.{IfOk, IfErr, OnOk}
use Rattle.std.specs.Cmp.{IsTotalOrder}
use Rattle.std.specs.List.{list_all}
use Rattle.std.specs.declared.cmp.Ordering.{Ordering}
use Rattle.std.specs.declared.cmp.Ordering.TheVariants.{Equal}
use Rattle.lattice.specs.Times.{Times}
use Rattle.lattice.specs.Frontiers.{is_beyond}
use Rattle.lattice.specs.Order.{PartialOrderLaws, LatticeLaws, ExtendsLaws}
use Rattle.antichain.specs.Antichains.{SameElements, IsFrontier, least}
use Rattle.update.specs.Bags.{Entry, Alike, IsBag, HasLargeCount, count_of}
use Rattle.update.specs.declared.change.Update.{Update}
use Rattle.update.specs.declared.refusal.Refusal.{Refusal}
use Rattle.update.specs.declared.refusal.Refusal.TheVariants.{NotPassed, GivenUp}
use Rattle.update.specs.Refusals.{IsRefusalOr, IsMemoryOrOverflow}
use Rattle.plan.specs.Changes.{AreDifferences, has_passed, query_at, open_for}
use Rattle.plan.specs.Rules.{first_refusal}
use Rattle.plan.specs.Bounds.{HasLargeBound}
use Rattle.histories.specs.declared.event.Fed.{Fed}
use Rattle.histories.specs.Histories.Dataflows.{Dataflow, IsDataflow}
use Rattle.histories.specs.Histories.States.{State, fed_to, open_at}
use Rattle.histories.specs.Histories.Outstanding.{frontier}
use Rattle.histories.specs.Histories.Promises.{changes_in}
use Rattle.histories.specs.Histories.Readings.{is_from_start}
use Rattle.histories.proofs.HistoryLemmas.FlowLemmas.{is_passed, not_beyond}
use Rattle.histories.proofs.HistoryLemmas.PassedLemmas.{passed_down}
use Rattle.histories.proofs.HistoryLemmas.QuietLemmas.{beyond_elements}
use Rattle.shared_board.specs.Tenures.{HasLargeListed, read_refusal_in, changes_refusal_in}
use Rattle.engines.specs.Bags.{consolidated_bag}
use Rattle.engines.specs.Engines.{IsFound}
use Rattle.engines.specs.Sessions.{Session, view_frontier, read_refusal, changes_refusal, rows_at, frontier_at, changes_at}
use Rattle.crews.specs.BoardStates.{HasSession}
use Rattle.engines.proofs.BagLemmas.{consolidated_bag-only}
use Rattle.engines.proofs.BoundLemmas.{large_count, large_listed}
use Rattle.engines.proofs.ChangesLemmas.{changes_are, differences_only}
use Rattle.engines.proofs.OrderLemmas.{frontier_in_order}

-- two tests that are equal refuse alike
pub refused_alike : (cause Large : Type 0) (own other : Option Refusal) (r : Refusal) → own ≡ other → (cause → Large) → IsRefusalOr cause own r → (other ≡ Some r) ⊎ IsMemoryOrOverflow Large r
refused_alike cause Large (Some fault) other r e found f = inl (sym e ∙ ap Some (sym f))
refused_alike cause Large None other r e found (inl memory) = inr (inl memory)
refused_alike cause Large None other r e found (inr large) = inr (inr (large.0, found large.1))

module _ {T : Type 0} (times : Times T) (o : PartialOrderLaws times) (p : Dataflow) (q : IsDataflow p) (w : State T) (s : Session T) (a : HasSession p w s) (v : ℕ) (caught : SameElements (frontier times p w v) (least times (open_for times p.nodes (λ i. open_at i w.open_times) v))) where
  -- the frontier of the view is that of the session
  same_frontier : SameElements (frontier times p w v) (view_frontier times p.nodes s v)
  same_frontier =
      subst (λ (fronts : ℕ → List T). SameElements (frontier times p w v) (least times (open_for times p.nodes fronts v))) (λ j i. a.inputs i j) caught

  same_front : (t : T) → is_beyond times (frontier times p w v) t ≡ is_beyond times (view_frontier times p.nodes s v) t
  same_front t = beyond_elements times (frontier times p w v) (view_frontier times p.nodes s v) same_frontier t

  pub same_read_refusal : (t : T) → read_refusal_in times p w v t ≡ read_refusal times p.nodes s v t
  same_read_refusal t = λ j. first_refusal ((same_front t j, NotPassed) ∷ (not (is_beyond times (a.since v j) t), GivenUp) ∷ [])

  -- a question for changes is refused if and only if the session refuses it
  pub same_changes_refusal : changes_refusal_in times w v ≡ changes_refusal times p.nodes s v
  same_changes_refusal = ap (λ (since : List T). first_refusal ((not (is_from_start times since), GivenUp) ∷ [])) (a.since v)

  -- the rows that were read are those of the session
  same_rows : (t : T) (bag : List Entry) → IsBag bag → Alike bag (query_at times p.nodes (changes_in w) v t) → bag ≡ rows_at times p.nodes s v t
  same_rows t bag is alike = consolidated_bag-only _ bag is alike ∙ ap (λ (fs : List (Fed T)). consolidated_bag (query_at times p.nodes (λ i. fed_to i fs) v t)) a.fed

  -- answers the clause `answered` of read
  pub read_answered : (t : T) (cause Large : Type 0) (r : Result (List Entry) Refusal) → (cause → Large) → OnOk r (read_refusal_in times p w v t ≡ None) → IfErr r (IsRefusalOr cause (read_refusal_in times p w v t)) → IfOk r IsBag
      → IfOk r (λ bag. Alike bag (query_at times p.nodes (changes_in w) v t)) → IsFound (IsMemoryOrOverflow Large) (read_refusal times p.nodes s v t) (rows_at times p.nodes s v t) r
  read_answered t cause Large (Ok bag) found accepted refused is alike = (sym (same_read_refusal t) ∙ accepted, same_rows t bag is alike)
  read_answered t cause Large (Err r) found accepted refused is alike = refused_alike cause Large (read_refusal_in times p w v t) _ r (same_read_refusal t) found refused

  -- the frontier that was found is the one that the text prints
  pub frontier_found : {cmp : T → T → Ordering} → IsTotalOrder cmp → ((s t : T) → cmp s t ≡ Equal → s ≡ t) → (F : List T) → IsFrontier times cmp F → SameElements F (frontier times p w v) → F ≡ frontier_at times p.nodes s cmp v
  frontier_found {cmp} total exact F is stood =
      frontier_in_order cmp total exact F (view_frontier times p.nodes s v) is.ascending (record {
        into = λ t h. same_frontier.into t (stood.into t h);
        back = λ t h. stood.back t (same_frontier.back t h);
      })

  -- the changes that were found are those that the text prints
  pub changes_found : {cmp : T → T → Ordering} → LatticeLaws times → ExtendsLaws times cmp → IsTotalOrder cmp → v < length p.nodes → (us : List (Update T)) → AreDifferences times cmp p.nodes (changes_in w) (frontier times p w v) v us
      → us ≡ changes_at times p.nodes s cmp v
  changes_found {cmp} l x total within us d =
      let F = frontier times p w v in
      let G = view_frontier times p.nodes s v in
      let tests : has_passed times F ≡ has_passed times G = λ i t. not (same_front t i) in
      let own : AreDifferences times cmp p.nodes (λ i. fed_to i s.fed) G v us = record {
        consolidated = d.consolidated;
        passed = subst (λ (test : T → Bool). IsTrue (list_all (λ u. test u.time) us)) tests d.passed;
        sums = λ t h row. d.sums t (subst (λ (test : T → Bool). IsTrue (test t)) (sym tests) h) row ∙ ap (λ (fs : List (Fed T)). count_of (query_at times p.nodes (λ i. fed_to i fs) v t) row) a.fed;
      } in
      differences_only o total p.nodes (λ i. fed_to i s.fed) G v us (changes_at times p.nodes s cmp v) own
      (changes_are o l x total p.nodes s.fed q.plan v within G)

-- if a number in an answer is too large, so is a bound
module _ {T : Type 0} {times : Times T} {cmp : T → T → Ordering} (o : PartialOrderLaws times) (l : LatticeLaws times) (x : ExtendsLaws times cmp) (total : IsTotalOrder cmp) (p : Dataflow) (q : IsDataflow p) (w : State T) (s : Session T)
    (a : HasSession p w s) (v : ℕ) (within : v < length p.nodes) where
  pub large_read : (t : T) → HasLargeCount (query_at times p.nodes (changes_in w) v t) → HasLargeBound times cmp p.nodes (λ i. fed_to i s.fed)
  large_read t large = large_count o l x total p.nodes q.plan (λ i. fed_to i s.fed) v within t (subst (λ (fs : List (Fed T)). HasLargeCount (query_at times p.nodes (λ i. fed_to i fs) v t)) a.fed large)

  pub large_changes : HasLargeListed times p w v → HasLargeBound times cmp p.nodes (λ i. fed_to i s.fed)
  large_changes listed =
      let F = frontier times p w v in
      large_listed o l x total p.nodes q.plan (λ i. fed_to i s.fed) v within (has_passed times F) (λ u t l h. is_passed _ (passed_down times o F u t l (not_beyond _ h))) listed.listed
      (λ t h. subst (λ (fs : List (Fed T)). Alike (Rattle.update.specs.Updates.as_of times t listed.listed) (query_at times p.nodes (λ i. fed_to i fs) v t)) a.fed (listed.sums t h)) listed.large

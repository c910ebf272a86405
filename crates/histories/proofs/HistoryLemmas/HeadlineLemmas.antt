-- The headline and what follows from it. Each lemma here is a theorem of `theorems.rt`, from the
-- lemmas of claims.
use Rattle.std.proofs.Common.{◌≡◌, ℕ, ◌<◌, true, false, cond, not, List, [], ◌∷◌, ◌++◌, take, sym, ap, ◌∙◌, eqb, arith, IsTrue}
use Rattle.std.proofs.Math.IntN.{ℤ, pos}
use Rattle.std.proofs.lemmas.Bool.{and_from, ne_eqb}
use Rattle.std.specs.declared.cmp.Ordering.{Ordering}
use Rattle.std.specs.List.{list_all}
use Rattle.lattice.specs.Times.{Times}
use Rattle.lattice.specs.Order.{PartialOrderLaws}
use Rattle.lattice.specs.Frontiers.{is_beyond}
use Rattle.update.specs.Bags.{count_of, Alike}
use Rattle.plan.proofs.QueryLemmas.{query_alike}
use Rattle.update.specs.Updates.{as_of}
use Rattle.update.proofs.UniqueLemmas.{same_totals}
use Rattle.plan.specs.Changes.{has_passed, query_at}
use Rattle.plan.specs.Nodes.{key_width, is_linear}
use Rattle.plan.proofs.StandLemmas.{above_itself}
use Rattle.plan.proofs.CountLemmas.{count_of-filter}
use Rattle.histories.specs.declared.event.Event.{Event}
use Rattle.histories.specs.Histories.Dataflows.{Dataflow, IsDataflow, node_of, node_output, upstream, route}
use Rattle.histories.specs.Histories.States.{State, emitted_at}
use Rattle.histories.specs.Histories.NodeLaws.{received_at}
use Rattle.histories.specs.Histories.Outstanding.{frontier, strictly_upstream, input_frontier, port_frontier}
use Rattle.histories.specs.Histories.{IsLegal, state_after}
use Rattle.histories.specs.Histories.Promises.{changes_in, MeetsQuery, MeetsDifferences, MeetsPart, IsClearAt, NothingLurks, NeverGoesBack}
use Rattle.histories.proofs.HistoryLemmas.ClaimLemmas.{claim, part_claim, due_claim}
use Rattle.histories.proofs.HistoryLemmas.ClearLemmas.{IsClear, IsArrived, arrived_passed, clear_passed, lurks_lem}
use Rattle.histories.proofs.HistoryLemmas.FlowLemmas.{is_passed, not_beyond}
use Rattle.histories.proofs.HistoryLemmas.KeptLemmas.{is_stamped, kept_state}
use Rattle.histories.proofs.HistoryLemmas.OnwardLemmas.{frontier_onward, input_onward, port_onward}
use Rattle.histories.proofs.HistoryLemmas.OutstandingLemmas.{counted_times, outstanding, beyond_frontier, beyond_input_frontier}
use Rattle.histories.proofs.HistoryLemmas.PassedLemmas.{passed_down}

module _ {T : Type 0} (times : Times T) (o : PartialOrderLaws times) (p : Dataflow) (q : IsDataflow p) where
  module _ (h : List (Event T)) (l : IsLegal times p h) (n : ℕ) where
    abbrev w : State T
    w = state_after times p h

    -- each update in flight is beyond its bundle's stamp
    stamped : list_all (is_stamped times) w.in_flight ≡ true
    stamped = (kept_state times o p h l).stamped

    -- what a passed frontier says of all that it counts
    none_out : (t : T) → is_beyond times (frontier times p w n) t ≡ false → is_beyond times (outstanding p w n) t ≡ false
    none_out t f = sym (beyond_frontier p w n times o t) ∙ f

    none_before : (t : T) → is_beyond times (input_frontier times p w n) t ≡ false → is_beyond times (counted_times w (upstream p n) (strictly_upstream p n)) t ≡ false
    none_before t f = sym (beyond_input_frontier p w n times o t) ∙ f

    -- the headline: a view is right at each time that its frontier has passed; all promises to
    -- readers follow from it
    pub headline_lem : MeetsQuery times p w n
    headline_lem t e r =
        (claim times p q w (kept_state times o p h l) t n (λ m a. clear_passed times o t (upstream p n) (upstream p n) w stamped (none_out t (not_beyond _ e)) m a a)).all r

    -- consolidated, what a node gave at passed times is the one list of differences
    pub differences_lem : (cmp : T → T → Ordering) → MeetsDifferences times p w n cmp
    differences_lem cmp = record {
      into = λ us c a f. record { consolidated = c; passed = a; sums = λ t e row. f t e row ∙ headline_lem t e row };
      back = λ us d. same_totals o (λ s. has_passed times (frontier times p w n) s) us (emitted_at n w.emitted) (λ s u k a. is_passed _ (passed_down times o (frontier times p w n) s u k (not_beyond _ a))) (λ s f r. d.sums s f r ∙ sym (headline_lem s f r));
    }

    arrived : (t : T) → is_beyond times (input_frontier times p w n) t ≡ false → IsArrived times w t n
    arrived t f = arrived_passed times o t (upstream p n) (strictly_upstream p n) w stamped (none_before t f) n (above_itself p.nodes q.plan n)

    others : (t : T) → is_beyond times (input_frontier times p w n) t ≡ false → (m : ℕ) → upstream p n m ≡ true → m < n → IsClear times w t m
    others t f m a b = clear_passed times o t (upstream p n) (strictly_upstream p n) w stamped (none_before t f) m a (and_from (upstream p n m) (not (eqb m n)) a (ap not (ne_eqb m n (λ x. absurd (omega arith)))))

    -- nothing at or before a passed time is outstanding, so no answer at a passed time can still
    -- change
    pub lurks : NothingLurks times p w n
    lurks t e = lurks_lem times o p w n (upstream p n) t stamped (none_out t (not_beyond _ e))

    -- at a join or reduction, each worker gave exactly its part of the query
    pub part_lem : (k : ℕ) → MeetsPart times p w n k
    part_lem k e t f g r =
        part_claim times p q w (kept_state times o p h l) t n (arrived t (not_beyond _ f)) (others t (not_beyond _ f)) e k (not_beyond _ g) r
        ∙ sym (count_of-filter (λ x. eqb (route p (take (key_width p.nodes (node_of p n)) x)) k) (query_at times p.nodes (changes_in w) n t) r)

    -- what a worker owes at a join or reduction, in terms of the query; bounds start from it
    pub due_lem : is_linear (node_of p n) ≡ false → (k : ℕ) (t : T) → is_beyond times (input_frontier times p w n) t ≡ false → (r : List ℤ)
        → count_of (node_output p n (λ port. as_of times t (received_at w n k port))) r ≡ cond (eqb (route p (take (key_width p.nodes (node_of p n)) r)) k) (count_of (query_at times p.nodes (changes_in w) n t) r) (pos 0)
    due_lem e k t f r = due_claim times p q w (kept_state times o p h l) t n (arrived t f) (others t f) e k r

  module _ (h later : List (Event T)) where
    -- a time that a node's frontier has passed stays passed
    pub frontiers_lem : IsLegal times p (later ++ h) → (n : ℕ) → NeverGoesBack times (frontier times p (state_after times p h) n) (frontier times p (state_after times p (later ++ h)) n)
    frontiers_lem = on later
      where
        on : (es : List (Event T)) → IsLegal times p (es ++ h) → (n : ℕ) → NeverGoesBack times (frontier times p (state_after times p h) n) (frontier times p (state_after times p (es ++ h)) n)
        on [] l n t k = k
        on (e ∷ es) l n t k = is_passed _ (frontier_onward times o t p q n (state_after times p (es ++ h)) e l.0 (not_beyond _ (on es l.1 n t k)))

    -- a time that a node's input frontier has passed stays passed
    pub inputs_lem : IsLegal times p (later ++ h) → (n : ℕ) → NeverGoesBack times (input_frontier times p (state_after times p h) n) (input_frontier times p (state_after times p (later ++ h)) n)
    inputs_lem = on later
      where
        on : (es : List (Event T)) → IsLegal times p (es ++ h) → (n : ℕ) → NeverGoesBack times (input_frontier times p (state_after times p h) n) (input_frontier times p (state_after times p (es ++ h)) n)
        on [] l n t k = k
        on (e ∷ es) l n t k = is_passed _ (input_onward times o t p q n (state_after times p (es ++ h)) e l.0 (not_beyond _ (on es l.1 n t k)))

    -- if an input frontier has passed a time, then in every later state nothing that could reach
    -- the node is outstanding at or before it
    pub lurks_later : IsLegal times p (later ++ h) → (n : ℕ) (t : T) → IsTrue (has_passed times (input_frontier times p (state_after times p h) n) t) → IsClearAt times p (state_after times p (later ++ h)) n (strictly_upstream p n) t
    lurks_later l n t k =
        let stamped = (kept_state times o p (later ++ h) l).stamped in
        lurks_lem times o p (state_after times p (later ++ h)) n (strictly_upstream p n) t stamped (none_before (later ++ h) l n t (not_beyond _ (inputs_lem l n t k)))

    -- a time that a port's frontier has passed stays passed
    pub ports_lem : IsLegal times p (later ++ h) → (n port : ℕ) → NeverGoesBack times (port_frontier times p (state_after times p h) n port) (port_frontier times p (state_after times p (later ++ h)) n port)
    ports_lem = on later
      where
        on : (es : List (Event T)) → IsLegal times p (es ++ h) → (n port : ℕ) → NeverGoesBack times (port_frontier times p (state_after times p h) n port) (port_frontier times p (state_after times p (es ++ h)) n port)
        on [] l n port t k = k
        on (e ∷ es) l n port t k = is_passed _ (port_onward times o t p q n port (state_after times p (es ++ h)) e l.0 (not_beyond _ (on es l.1 n port t k)))

-- two histories of one plan with alike changes agree at each time that both frontiers have passed
pub agree_lem : {T : Type 0} (times : Times T) → PartialOrderLaws times → (p q : Dataflow) → IsDataflow p → IsDataflow q → q.nodes ≡ p.nodes
    → (h k : List (Event T)) → IsLegal times p h → IsLegal times q k
    → ((input : ℕ) (t : T) → Alike (as_of times t (changes_in (state_after times p h) input)) (as_of times t (changes_in (state_after times q k) input)))
    → (n : ℕ) (t : T) → IsTrue (has_passed times (frontier times p (state_after times p h) n) t) → IsTrue (has_passed times (frontier times q (state_after times q k) n) t)
    → Alike (as_of times t (emitted_at n (state_after times p h).emitted)) (as_of times t (emitted_at n (state_after times q k).emitted))
agree_lem times o p q a b same h k l m alike n t f g r =
    headline_lem times o p a h l n t f r
    ∙ (query_alike p.nodes (λ i. as_of times t (changes_in (state_after times p h) i)) (λ i. as_of times t (changes_in (state_after times q k) i)) (λ i. alike i t) n r
    ∙ (ap (λ nodes. count_of (query_at times nodes (changes_in (state_after times q k)) n t) r) (sym same)
    ∙ sym (headline_lem times o q b k m n t g r)))

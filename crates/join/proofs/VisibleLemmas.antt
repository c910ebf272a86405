-- Pairs at a time: what compaction of one side leaves unchanged, and what one more piece of input
-- adds.
use Rattle.std.proofs.Common.{◌≡◌, ℕ, zero, suc, Bool, true, false, cond, ◌&&◌, List, [], ◌∷◌, ◌++◌, map, refl, sym, ◌∙◌, ap, IsTrue}
use Rattle.std.specs.Prelude.{ℤ, ◌+ℤ◌}
use Rattle.std.specs.List.{filter}
use Rattle.std.proofs.lemmas.Bool.{true≢false, and_parts}
use Rattle.lattice.specs.Times.{Times}
use Rattle.lattice.specs.Order.{PartialOrderLaws}
use Rattle.lattice.specs.Frontiers.{is_beyond}
use Rattle.lattice.proofs.FrontierLemmas.{beyond_up}
use Rattle.update.specs.Bags.{Entry, Alike, count_of, same_row}
use Rattle.update.specs.Updates.{as_of, entry, total_where}
use Rattle.update.specs.declared.change.Update.{Update}
use Rattle.update.proofs.UniqueLemmas.{count_as_of}
use Rattle.plan.specs.Operators.{join_output}
use Rattle.plan.specs.declared.node.Node.TheVariants.{Join}
use Rattle.plan.proofs.CountLemmas.{count_of-append}
use Rattle.plan.proofs.OperatorLemmas.{given_alike}
use Rattle.trace.specs.Readings.{SameBeyond}
use Rattle.batch.specs.Intervals.{all_times_beyond}
use Rattle.join.specs.declared.side.Side.{Side}
use Rattle.join.specs.declared.side.Side.TheVariants.{Left, Right}
use Rattle.join.specs.Takes.{side_pairs}
use Rattle.join.proofs.PairLemmas.{as_of-append, pairs_at}
use Rattle.join.proofs.TotalLemmas.{total_pairs-left, total_pairs-right}

-- ---- bags

-- a bag for each port of a join
abbrev at_ports : List Entry → List Entry → ℕ → List Entry
at_ports left right zero = left
at_ports left right (suc port) = right

-- alike bags have alike joins
join_alike : (k : ℕ) (a b c d : List Entry) → Alike a b → Alike c d → Alike (join_output k a c) (join_output k b d)
join_alike k a b c d left right = given_alike k (Join 0 0) (at_ports a c) (at_ports b d) (λ port _. same port)
  where
    same : (port : ℕ) → Alike (at_ports a c port) (at_ports b d port)
    same zero = left
    same (suc port) = right

-- a join with an empty bag is empty
join_nothing : (k : ℕ) (a : List Entry) → join_output k a [] ≡ []
join_nothing k [] = refl
join_nothing k (e ∷ a) = join_nothing k a

-- the join of a side's bag with that of the other side
abbrev side_join : Side → ℕ → List Entry → List Entry → List Entry
side_join Left k a b = join_output k a b
side_join Right k a b = join_output k b a

side_alike : (side : Side) (k : ℕ) (a b c d : List Entry) → Alike a b → Alike c d → Alike (side_join side k a c) (side_join side k b d)
side_alike Left k a b c d own other = join_alike k a b c d own other
side_alike Right k a b c d own other = join_alike k c d a b other own

side_nothing : (side : Side) (k : ℕ) (a : List Entry) → side_join side k [] a ≡ []
side_nothing Left k a = refl
side_nothing Right k a = join_nothing k a

module _ {T : Type 0} (times : Times T) (join_below : (a b s : T) → times.below (times.joined a b) s ≡ (times.below a s && times.below b s)) where
  abbrev at : T → List (Update T) → List Entry
  at t us = as_of times t us

  -- the pairs of two lists sum to the join of both sums
  side_sum : (side : Side) (k : ℕ) (t : T) (us vs : List (Update T)) → at t (side_pairs side times k us vs) ≡ side_join side k (at t us) (at t vs)
  side_sum Left k t us vs = pairs_at times join_below k t us vs
  side_sum Right k t us vs = pairs_at times join_below k t vs us

  -- ---- compacted sides

  module _ (order : PartialOrderLaws times) where
    -- updates whose times are all beyond a frontier are not visible at times that it has passed
    hidden : (F : List T) (t : T) → is_beyond times F t ≡ false → (us : List (Update T)) → IsTrue (all_times_beyond times F us) → at t us ≡ []
    hidden F t e [] a = refl
    hidden F t e (u ∷ us) a =
        let parts = and_parts _ _ a in
        step (times.below u.time t) refl parts.0 (hidden F t e us parts.1)
      where
        step : (b : Bool) → times.below u.time t ≡ b → IsTrue (is_beyond times F u.time) → at t us ≡ [] → map entry (cond b (u ∷ filter (λ w. times.below w.time t) us) (filter (λ w. times.below w.time t) us)) ≡ []
        step true f h rest = absurd (true≢false (sym (beyond_up order F u.time t h f) ∙ e))
        step false f h rest = rest

    -- if the updates of a side are beyond the frontier, then the other side may be compacted as of
    -- it
    pub side_compacted : (side : Side) (k : ℕ) (F : List T) (us vs ws : List (Update T)) → IsTrue (all_times_beyond times F us) → SameBeyond times F vs ws → (t : T) → Alike (at t (side_pairs side times k us vs)) (at t (side_pairs side times k us ws))
    side_compacted side k F us vs ws a same t row =
        ap (λ es. count_of es row) (side_sum side k t us vs)
        ∙ (step (is_beyond times F t) refl ∙ sym (ap (λ es. count_of es row) (side_sum side k t us ws)))
      where
        step : (b : Bool) → is_beyond times F t ≡ b → count_of (side_join side k (at t us) (at t vs)) row ≡ count_of (side_join side k (at t us) (at t ws)) row
        step true e = side_alike side k (at t us) (at t us) (at t vs) (at t ws) (λ r. refl) (same t e) row
        step false e =
            let none = hidden F t e us a in
            ap (λ es. count_of (side_join side k es (at t vs)) row) none
            ∙ (ap (λ es. count_of es row) (side_nothing side k (at t vs) ∙ sym (side_nothing side k (at t ws)))
            ∙ sym (ap (λ es. count_of (side_join side k es (at t ws)) row) none))

  -- ---- one more piece

  -- the count of a row in the sum of a list is a total over the list
  abbrev counted : T → List ℤ → List ℤ → T → Bool
  counted t row r s = same_row r row && times.below s t

  -- a side may be cut into two pieces
  side_total : (side : Side) (k : ℕ) (p : List ℤ → T → Bool) (us ws vs : List (Update T)) → total_where p (side_pairs side times k (us ++ ws) vs) ≡ total_where p (side_pairs side times k us vs) +ℤ total_where p (side_pairs side times k ws vs)
  side_total Left k p us ws vs = total_pairs-left times k p us ws vs
  side_total Right k p us ws vs = total_pairs-right times k p vs us ws

  -- if the emitted updates sum to the join of what was received, then the pairs of one more piece
  -- of a side keep it so
  pub side_goes_on : (side : Side) (k : ℕ) (us old vs emitted : List (Update T)) (t : T) → Alike (at t emitted) (side_join side k (at t old) (at t vs)) → Alike (at t (side_pairs side times k us vs ++ emitted)) (side_join side k (at t (us ++ old)) (at t vs))
  side_goes_on side k us old vs emitted t before row =
      let new = side_pairs side times k us vs in
      ap (λ es. count_of es row) (as_of-append times t new emitted)
      ∙ (count_of-append (at t new) (at t emitted) row
      ∙ ((λ i. count_of (at t new) row +ℤ (before row ∙ ap (λ es. count_of es row) (sym (side_sum side k t old vs))) i)
      ∙ ((λ i. count_as_of times row t new i +ℤ count_as_of times row t (side_pairs side times k old vs) i)
      ∙ (sym (side_total side k (counted t row) us old vs)
      ∙ (sym (count_as_of times row t (side_pairs side times k (us ++ old) vs))
      ∙ ap (λ es. count_of es row) (side_sum side k t (us ++ old) vs))))))

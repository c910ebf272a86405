-- Lists of updates at times that a frontier has passed, or that a take found passed. Each test of a
-- list is also given as a fact about each of its updates.
use Rattle.std.proofs.Common.{◌≡◌, ℕ, true, false, List, [], ◌∷◌, sym, ◌∙◌, refl, IsTrue}
use Rattle.std.specs.List.{list_all}
use Rattle.std.proofs.lemmas.Bool.{and_parts, and_from, false_from_ne_true, false≢true}
use Rattle.lattice.specs.Times.{Times}
use Rattle.lattice.specs.Order.{PartialOrderLaws}
use Rattle.lattice.specs.Frontiers.{is_beyond}
use Rattle.lattice.proofs.FrontierLemmas.{beyond_up}
use Rattle.update.specs.declared.change.Update.{Update}
use Rattle.plan.specs.Changes.{has_passed}
use Rattle.histories.specs.Histories.States.{ObservedFrontier}
use Rattle.histories.specs.Histories.NodeLaws.{was_passed}
use Rattle.histories.proofs.HistoryLemmas.FlowLemmas.{is_passed, not_beyond}

module _ {T : Type 0} (times : Times T) where
  -- each update is at a time that the frontier has passed
  abbrev pub AllPassed : List T → List (Update T) → Type 0
  AllPassed F [] = Unit {0}
  AllPassed F (u ∷ us) = (is_beyond times F u.time ≡ false) × AllPassed F us

  -- from the test to the fact about each update
  pub each_passed : (F : List T) (us : List (Update T)) → IsTrue (list_all (λ u. has_passed times F u.time) us) → AllPassed F us
  each_passed F [] h = tt
  each_passed F (u ∷ us) h =
      let g = and_parts (has_passed times F u.time) (list_all (λ u. has_passed times F u.time) us) h in
      (not_beyond (is_beyond times F u.time) g.0, each_passed F us g.1)

  -- from the fact about each update to the test
  pub passed_each : (F : List T) (us : List (Update T)) → AllPassed F us → IsTrue (list_all (λ u. has_passed times F u.time) us)
  passed_each F [] h = refl
  passed_each F (u ∷ us) h = and_from (has_passed times F u.time) (list_all (λ u. has_passed times F u.time) us) (is_passed (is_beyond times F u.time) h.0) (passed_each F us h.1)

  -- each update is at a time that some take found passed
  abbrev pub AllWere : ℕ → ℕ → List (ObservedFrontier T) → List (Update T) → Type 0
  AllWere n k ls [] = Unit {0}
  AllWere n k ls (u ∷ us) = (was_passed times n k ls u.time ≡ true) × AllWere n k ls us

  -- from the test to the fact about each update
  pub each_was : (n k : ℕ) (ls : List (ObservedFrontier T)) (us : List (Update T)) → IsTrue (list_all (λ u. was_passed times n k ls u.time) us) → AllWere n k ls us
  each_was n k ls [] h = tt
  each_was n k ls (u ∷ us) h =
      let g = and_parts (was_passed times n k ls u.time) (list_all (λ u. was_passed times n k ls u.time) us) h in
      (g.0, each_was n k ls us g.1)

  -- from the fact about each update to the test
  pub was_each : (n k : ℕ) (ls : List (ObservedFrontier T)) (us : List (Update T)) → AllWere n k ls us → IsTrue (list_all (λ u. was_passed times n k ls u.time) us)
  was_each n k ls [] h = refl
  was_each n k ls (u ∷ us) h = and_from (was_passed times n k ls u.time) (list_all (λ u. was_passed times n k ls u.time) us) h.0 (was_each n k ls us h.1)

  -- if a frontier has passed a time, it has passed each earlier one
  pub passed_down : PartialOrderLaws times → (F : List T) (s t : T) → times.below s t ≡ true → is_beyond times F t ≡ false → is_beyond times F s ≡ false
  passed_down o F s t l h = false_from_ne_true (is_beyond times F s) (λ b. false≢true (sym h ∙ beyond_up o F s t b l))

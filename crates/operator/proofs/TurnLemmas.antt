-- Insertions that go on from one another end at different frontiers.
use Rattle.std.proofs.Common.{◌≡◌, ◌≢◌, not, List, [], ◌∷◌, IsTrue, refl, sym, subst, inl, inr}
use Rattle.std.proofs.lemmas.Bool.{and_parts}
use Rattle.lattice.specs.Times.{Times}
use Rattle.lattice.specs.Order.{PartialOrderLaws}
use Rattle.lattice.specs.Frontiers.{is_beyond, all_beyond}
use Rattle.lattice.proofs.FrontierLemmas.{beyond_later, beyond_itself, all_beyond_later}
use Rattle.antichain.proofs.AntichainLemmas.{not_true}
use Rattle.update.specs.declared.change.Update.{Update}
use Rattle.batch.specs.Intervals.{is_between, all_between}
use Rattle.trace.specs.Readings.{Insertion, IsUpTo, AreUpTo, reached}
use Rattle.trace.proofs.InsertionLemmas.{up_to_kept, up_to_newest}
use Rattle.operator.specs.Arrangements.{IsInTurn, AreInTurn}
use Rattle.operator_laws.specs.JoinNodes.{on_top}

module _ {T : Type 0} {times : Times T} (o : PartialOrderLaws times) where
  -- between a frontier and itself there is no time
  pub none_between : (F G : List T) → IsTrue (all_beyond times F G) → (us : List (Update T)) → IsTrue (all_between times G F us) → us ≡ []
  none_between F G on [] h = refl
  none_between F G on (u ∷ us) h =
      let first = and_parts (is_between times G F u.time) (all_between times G F us) h in
      let parts = and_parts (is_beyond times G u.time) (not (is_beyond times F u.time)) first.0 in
      absurd (not_true (is_beyond times F u.time) parts.1 (beyond_later o F G u.time on parts.0))

  -- an insertion that goes on from a frontier beyond another does not end at that other one
  apart : (u from : List T) (i : Insertion T) → IsTrue (all_beyond times u from) → IsInTurn times from i → i.upper ≢ u
  apart u from i on turn e =
      turn.some (none_between i.upper from (subst (λ F. IsTrue (all_beyond times F from)) (sym e) on) i.updates turn.between)

  module _ (start : List T) where
    -- what comes first is in turn
    pub firsts : (later h : List (Insertion T)) → AreInTurn times start (on_top later h) → AreInTurn times start h
    firsts [] h all = all
    firsts (i ∷ later) h all = (firsts later (i ∷ h) all).1

    -- what comes later changes nothing of what was inserted up to a frontier
    kept : (u : List T) (later h seen : List (Insertion T)) → IsUpTo u h seen → IsTrue (all_beyond times u (reached start h)) → AreInTurn times start (on_top later h) → IsUpTo u (on_top later h) seen
    kept u [] h seen is on all = is
    kept u (i ∷ later) h seen is on all =
        let turn = (firsts later (i ∷ h) all).0 in
        kept u later (i ∷ h) seen
        (up_to_kept i h seen u (apart u (reached start h) i on turn) is)
        (all_beyond_later o u (reached start h) i.upper on turn.forward)
        all

    pub taken_are_up_to : (inserted later taken : List (Insertion T)) → inserted ≡ on_top later taken → AreInTurn times start inserted → AreUpTo start (reached start taken) inserted taken
    taken_are_up_to inserted later [] e all = inr (refl, refl)
    taken_are_up_to inserted later (i ∷ taken) e all =
        subst (λ h. AreUpTo start i.upper h (i ∷ taken)) (sym e)
        (inl (kept i.upper later (i ∷ taken) (i ∷ taken) (up_to_newest i taken) (beyond_itself o i.upper) (subst (AreInTurn times start) e all)))

-- How a run ends early: each end has its cause, by whichever path it was reached.
use Rattle.std.proofs.Common.{◌≡◌, Bool, true, false, not, ◌||◌, eqb, List, ◌∷◌, [], length, Some, Result, Ok, Err, IsTrue, ◌⊎◌, inl, inr, refl, sym, ◌∙◌, ap, subst, ℕ}
use Rattle.std.specs.Prelude.{IfErr}
use Rattle.std.specs.List.{list_all}
use Rattle.std.proofs.lemmas.Bool.{and_parts, true≢false}
use Rattle.lattice.specs.Bitimes.{bitime_times}
use Rattle.lattice.specs.Frontiers.{is_beyond}
use Rattle.update.specs.Refusals.{code_of, IsMemoryOrOverflow}
use Rattle.update.specs.declared.refusal.Refusal.{Refusal}
use Rattle.update.specs.declared.refusal.Refusal.TheVariants.{OutOfMemory, Overflow, NoThread, NotPassed, GivenUp}
use Rattle.plan.specs.Rules.{first_refusal}
use Rattle.plan.specs.declared.node.Node.{Node}
use Rattle.grammar.specs.declared.command.Command.{Command}
use Rattle.grammar.specs.declared.command.Command.TheVariants as command
use Rattle.grammar.specs.declared.command.InputCommand.TheVariants.{Change, Advance, Close}
use Rattle.grammar.specs.declared.command.ViewCommand.TheVariants.{Read, Changes, Frontier}
use Rattle.grammar.specs.declared.command.CommandLine.{CommandLine}
use Rattle.grammar.specs.ScriptModels.{ScriptModel}
use Rattle.histories.specs.Histories.Readings.{is_from_start}
use Rattle.outstanding.specs.Inputs.{front_at, feed_faults, advance_faults}
use Rattle.histories.specs.Histories.States.{fed_to}
use Rattle.script.specs.Ends.{IsTextBefore}
use Rattle.engines.specs.Engines.{EndsRun}
use Rattle.script.specs.RunEnds.{IsCrewEnd, IsEnd, IsRunEnd}
use Rattle.engines.specs.Sessions.{view_frontier}
use Rattle.engines.specs.Bitemporal.{BitemporalSession}
use Rattle.script.specs.Text.{HoldsAlong, command_refusal, frontier_made}
use Rattle.engines.specs.Bounds.{IsLarge, EndsByBound}
use Rattle.script.specs.Bounds.{IsLargeAlong}
use Rattle.script.specs.declared.fault.RunFault.{RunFault}
use Rattle.script.specs.declared.fault.RunFault.TheVariants as fault

-- weakens the cause of an end
pub end_weaker : {A B : Refusal → Type 0} → ((refusal : Refusal) → A refusal → B refusal) → (f : RunFault) → IsEnd A f → IsEnd B f
end_weaker h (fault.Refused code) (inl memory) = inl memory
end_weaker h (fault.Refused code) (inr end) = inr (end.0, end.1, h end.0 end.2)
end_weaker h fault.Write u = u

-- weakens the cause of an end, for a result
pub ends_weaker : {A B : Refusal → Type 0} {X : Type 0} → ((refusal : Refusal) → A refusal → B refusal) → (r : Result X RunFault) → IfErr r (IsEnd A) → IfErr r (IsEnd B)
ends_weaker h (Ok x) e = tt
ends_weaker h (Err f) e = end_weaker h f e

-- if the run ended with an overflow, the engine refused with `Overflow`
pub cause_of_end : {Ends : Refusal → Type 0} → ((refusal : Refusal) → Ends refusal → EndsRun refusal) → (f : RunFault) → IsEnd Ends f → f ≡ fault.Refused 10 → Ends Overflow
cause_of_end ending (fault.Refused code) (inl memory) is = absurd cc
cause_of_end {Ends} ending (fault.Refused code) (inr end) is = by (ending end.0 end.2)
  where
    by : EndsRun end.0 → Ends Overflow
    by (inl memory) = let ten = end.1 ∙ ap code_of memory in absurd cc
    by (inr (inl large)) = subst Ends large end.2
    by (inr (inr thread)) = let ten = end.1 ∙ ap code_of thread in absurd cc
cause_of_end ending fault.Write e is = absurd cc

-- ---- the ends of a run by a crew

-- weakens the cause of an end by a crew
pub crew_weaker : {A B : Refusal → Type 0} → ((refusal : Refusal) → A refusal → B refusal) → (f : RunFault) → IsCrewEnd A f → IsCrewEnd B f
crew_weaker h f (inl end) = inl (end_weaker h f end)
crew_weaker h f (inr thread) = inr thread

-- if a crew's run ended with an overflow, the engine refused with `Overflow`
pub cause_of_crew_end : {Ends : Refusal → Type 0} → ((refusal : Refusal) → Ends refusal → EndsRun refusal) → (f : RunFault) → IsCrewEnd Ends f → f ≡ fault.Refused 10 → Ends Overflow
cause_of_crew_end ending f (inl end) is = cause_of_end ending f end is
cause_of_crew_end ending f (inr thread) is = let other = sym is ∙ thread in absurd cc

-- workers that ran ahead were refused for want of memory or of a thread
pub ahead_end : (Ends : Refusal → Type 0) (refusal : Refusal) (f : RunFault) → (refusal ≡ OutOfMemory) ⊎ (refusal ≡ NoThread) → IsEnd (λ met. met ≡ refusal) f → IsCrewEnd Ends f
ahead_end Ends refusal (fault.Refused code) why (inl memory) = inl (inl memory)
ahead_end Ends refusal (fault.Refused code) (inl memory) (inr end) = inl (inl (end.1 ∙ ap code_of (end.2 ∙ memory)))
ahead_end Ends refusal (fault.Refused code) (inr thread) (inr end) = inr (ap fault.Refused (end.1 ∙ ap code_of (end.2 ∙ thread)))
ahead_end Ends refusal fault.Write why u = inl u

pub ahead_ends : (Ends : Refusal → Type 0) {X : Type 0} (refusal : Refusal) (r : Result X RunFault) → (refusal ≡ OutOfMemory) ⊎ (refusal ≡ NoThread) → IfErr r (IsEnd (λ met. met ≡ refusal)) → IfErr r (IsCrewEnd Ends)
ahead_ends Ends refusal (Ok x) why e = tt
ahead_ends Ends refusal (Err f) why e = ahead_end Ends refusal f why e

-- so none of them ends with an overflow
pub ahead_is_small : {X : Type 0} (C : RunFault → Type 0) (refusal : Refusal) (r : Result X RunFault) → (refusal ≡ OutOfMemory) ⊎ (refusal ≡ NoThread) → IfErr r (IsEnd (λ met. met ≡ refusal)) → IfErr r (λ f. f ≡ fault.Refused 10 → C f)
ahead_is_small C refusal (Ok x) why e = tt
ahead_is_small C refusal (Err f) why e = λ ten. absurd (cause_of_crew_end {Ends = λ other. ⊥} (λ other none. absurd none) f (ahead_end (λ other. ⊥) refusal f why e) ten)

-- ---- a session goes on after its own refusals

-- whether a refusal ends a run
abbrev is_ending : Refusal → Bool
is_ending refusal = eqb (code_of refusal) 1 || (eqb (code_of refusal) 10 || eqb (code_of refusal) 24)

shown : (refusal : Refusal) → EndsRun refusal → is_ending refusal ≡ true
shown refusal (inl memory) = ap is_ending memory
shown refusal (inr (inl large)) = ap is_ending large
shown refusal (inr (inr thread)) = ap is_ending thread

first_goes_on : (faults : List (Bool × Refusal)) → IsTrue (list_all (λ f. not (is_ending f.1)) faults) → (refusal : Refusal) → first_refusal faults ≡ Some refusal → EndsRun refusal → ⊥
first_goes_on [] all refusal e ends = absurd cc
first_goes_on ((true, name) ∷ faults) all refusal e ends =
    let same : name ≡ refusal = cc in
    true≢false (sym (sym (ap (λ b. not b) (ap is_ending same ∙ shown refusal ends)) ∙ (and_parts _ _ all).0))
first_goes_on ((false, name) ∷ faults) all refusal e ends = first_goes_on faults (and_parts _ _ all).1 refusal e ends

-- a session never refuses a command with a refusal that ends the run
pub session_goes_on : (p : List Node) (s : BitemporalSession) (command : Command) (refusal : Refusal) → command_refusal p s command ≡ Some refusal → EndsRun refusal → ⊥
session_goes_on p s (command.Input (Change input time diff row)) refusal e ends =
    first_goes_on (feed_faults bitime_times p (front_at input s.inputs) (length (fed_to input s.fed)) (record { input = input; update = record { time = time; row = row; diff = diff } })) refl refusal e ends
session_goes_on p s (command.Input (Advance input ts)) refusal e ends = first_goes_on (advance_faults bitime_times (front_at input s.inputs) (frontier_made ts)) refl refusal e ends
session_goes_on p s (command.Input (Close input)) refusal e ends = absurd cc
session_goes_on p s (command.Allow view ts) refusal e ends = first_goes_on (advance_faults bitime_times (s.since view) (frontier_made ts)) refl refusal e ends
session_goes_on p s (command.View (Read view time)) refusal e ends =
    first_goes_on ((is_beyond bitime_times (view_frontier bitime_times p s view) time, NotPassed) ∷ (not (is_beyond bitime_times (s.since view) time), GivenUp) ∷ []) refl refusal e ends
session_goes_on p s (command.View (Changes view)) refusal e ends = first_goes_on ((not (is_from_start bitime_times (s.since view)), GivenUp) ∷ []) refl refusal e ends
session_goes_on p s (command.View (Frontier view)) refusal e ends = absurd cc

-- a refusal that ends the run comes from the engine, not from the session
pub own_end : {Ends : Type 0} (p : List Node) (s : BitemporalSession) (command : Command) (refusal : Refusal) → (command_refusal p s command ≡ Some refusal) ⊎ Ends → EndsRun refusal → Ends
own_end p s command refusal (inl own) ends = absurd (session_goes_on p s command refusal own ends)
own_end p s command refusal (inr end) ends = end

-- a command that changes an input ends the run only if memory was refused
told_end : {S : Type 0} (p : List Node) (s : BitemporalSession) (command : Command) (refusal : Refusal) (f : RunFault) → ((command_refusal p s command ≡ Some refusal) × S) ⊎ (refusal ≡ OutOfMemory)
    → IsEnd (λ met. (met ≡ refusal) × EndsRun refusal) f → IsEnd (λ met. ⊥) f
told_end p s command refusal (fault.Refused code) answer (inl memory) = inl memory
told_end p s command refusal (fault.Refused code) (inl own) (inr end) = absurd (session_goes_on p s command refusal own.0 end.2.1)
told_end p s command refusal (fault.Refused code) (inr memory) (inr end) = inl (end.1 ∙ ap code_of (end.2.0 ∙ memory))
told_end p s command refusal fault.Write answer u = u

-- answers the clause `known` of run_update
pub told_ends : {S X : Type 0} (p : List Node) (s : BitemporalSession) (command : Command) (refusal : Refusal) (r : Result X RunFault) → ((command_refusal p s command ≡ Some refusal) × S) ⊎ (refusal ≡ OutOfMemory)
    → IfErr r (IsEnd (λ met. (met ≡ refusal) × EndsRun refusal)) → IfErr r (IsEnd (λ met. ⊥))
told_ends p s command refusal (Ok x) answer e = tt
told_ends p s command refusal (Err f) answer e = told_end p s command refusal f answer e

-- ---- the ends of a run without threads

-- a run by one worker ends early only for the reasons in IsRunEnd
pub bound_end : (p : List Node) (s : BitemporalSession) (lines : List CommandLine) (f : RunFault) → IsEnd (λ refusal. HoldsAlong (λ now. EndsByBound p now refusal) p s lines) f → IsRunEnd (IsLargeAlong p s lines) f
bound_end p s lines (fault.Refused code) (inl memory) = inl memory
bound_end p s lines (fault.Refused code) (inr (refusal, is, (done, rest, split, inl memory))) = inl (is ∙ ap code_of memory)
bound_end p s lines (fault.Refused code) (inr (refusal, is, (done, rest, split, inr large))) = inr (is ∙ ap code_of large.0, (done, rest, split, large.1))
bound_end p s lines fault.Write u = u

-- no end of a run is that of a number of workers
not_a_run_end : (L : Type 0) (code : ℕ) → code ≡ 23 → IsRunEnd L (fault.Refused code) → ⊥
not_a_run_end L code is (inl memory) = let one = sym is ∙ memory in absurd cc
not_a_run_end L code is (inr large) = let ten = sym is ∙ large.0 in absurd cc

pub not_for_workers : {X : Type 0} (L : Type 0) (r : Result X RunFault) → IfErr r (IsRunEnd L) → r ≡ Err (fault.Refused 23) → ⊥
not_for_workers {X} L r e is = not_a_run_end L 23 refl (subst (λ (x : Result X RunFault). IfErr x (IsRunEnd L)) is e)

-- answers the clause `known` of run_script
pub crew_ends : {X : Type 0} (p : List Node) (s : BitemporalSession) (lines : List CommandLine) (r : Result X RunFault)
    → IfErr r (IsCrewEnd (λ refusal. HoldsAlong (λ now. EndsByBound p now refusal) p s lines)) → IfErr r (λ f. IsRunEnd (IsLargeAlong p s lines) f ⊎ ((f ≡ fault.Refused 23) ⊎ (f ≡ fault.Refused 24)))
crew_ends p s lines (Ok x) e = tt
crew_ends p s lines (Err f) (inl end) = inl (bound_end p s lines f end)
crew_ends p s lines (Err f) (inr thread) = inr (inr thread)

-- a run by a crew is not refused for its number of workers
abbrev code_met : RunFault → ℕ
code_met (fault.Refused code) = code
code_met fault.Write = 0

apart : (code : ℕ) → code ≡ 23 → code ≡ 24 → ⊥
apart code is other = true≢false (sym (ap (λ n. eqb n 23) is) ∙ ap (λ n. eqb n 23) other)

not_a_crew_end : (Ends : Refusal → Type 0) (L : Type 0) → ((f : RunFault) → IsEnd Ends f → IsRunEnd L f) → (code : ℕ) → code ≡ 23 → IsCrewEnd Ends (fault.Refused code) → ⊥
not_a_crew_end Ends L run_end code is (inl end) = not_a_run_end L code is (run_end (fault.Refused code) end)
not_a_crew_end Ends L run_end code is (inr thread) = apart code is (ap code_met thread)

pub crew_counts : {X : Type 0} (p : List Node) (s : BitemporalSession) (lines : List CommandLine) (r : Result X RunFault)
    → IfErr r (IsCrewEnd (λ refusal. HoldsAlong (λ now. EndsByBound p now refusal) p s lines)) → r ≡ Err (fault.Refused 23) → ⊥
crew_counts {X} p s lines r e is =
    let Ends : Refusal → Type 0 = λ refusal. HoldsAlong (λ now. EndsByBound p now refusal) p s lines in
    not_a_crew_end Ends (IsLargeAlong p s lines) (bound_end p s lines) 23 refl (subst (λ (x : Result X RunFault). IfErr x (IsCrewEnd Ends)) is e)

-- an answer is not a refusal
abbrev IsAnswer : {A B : Type 0} → Result A B → Type 0
IsAnswer (Ok x) = Unit {0}
IsAnswer (Err e) = ⊥

pub not_both : {A B : Type 0} (x : A) (e : B) (r : Result A B) → r ≡ Ok x → r ≡ Err e → ⊥
not_both x e r ok err = subst IsAnswer (sym ok ∙ err) tt

-- answers the clause `known` of plain_script
pub bound_ends : {X : Type 0} (p : List Node) (s : BitemporalSession) (lines : List CommandLine) (r : Result X RunFault)
    → IfErr r (IsEnd (λ refusal. HoldsAlong (λ now. EndsByBound p now refusal) p s lines)) → IfErr r (IsRunEnd (IsLargeAlong p s lines))
bound_ends p s lines (Ok x) e = tt
bound_ends p s lines (Err f) e = bound_end p s lines f e

large_of : {L : Type 0} → IsMemoryOrOverflow L Overflow → L
large_of (inl memory) = absurd cc
large_of (inr large) = large.1

-- weakens the cause in IsTextBefore
pub bound_text : (t : ScriptModel) (s : BitemporalSession) (lines : List CommandLine) (part : List ℕ) → IsTextBefore (λ now. EndsByBound t.plan now Overflow) t s lines part → IsTextBefore (IsLarge t.plan) t s lines part
bound_text t s lines part b = record { before = b.before; line = b.line; behind = b.behind; in_order = b.in_order; asks = b.asks; cause = large_of b.cause; written = b.written }

-- after an overflow, the whole text of the earlier lines was written
pub overflow_texts : {X : Type 0} (t : ScriptModel) (s : BitemporalSession) (lines : List CommandLine) (Took : List ℕ → Type 0) (r : Result X RunFault)
    → IfErr r (λ f. f ≡ fault.Refused 10 → (part : List ℕ) × IsTextBefore (λ now. EndsByBound t.plan now Overflow) t s lines part × Took part)
    → IfErr r (λ f. f ≡ fault.Refused 10 → (part : List ℕ) × IsTextBefore (IsLarge t.plan) t s lines part × Took part)
overflow_texts t s lines Took (Ok x) e = tt
overflow_texts t s lines Took (Err f) e = λ ten. let met = e ten in (met.0, bound_text t s lines met.0 met.1, met.2)

-- A worker is refused with nothing but what ends its part of a run.
use Rattle.std.proofs.Common.{ℕ, refl}
use Rattle.std.specs.declared.cmp.Ordering.{Ordering}
use Rattle.update.specs.declared.refusal.Refusal.{Refusal}
use Rattle.update.specs.declared.refusal.Refusal.TheVariants.{OutOfMemory, Overflow, Failed}
use Rattle.steps.specs.Steps.{IsStepRefusal, IsTidyRefusal}
use Rattle.steps.specs.Workers.{WorkerView}
use Rattle.session.specs.Threads.{EndsWork}
use Rattle.lattice.specs.Times.{Times}

module _ {T : Type 0} (times : Times T) (cmp : T → T → Ordering) (old new : WorkerView T) where
  pub step_ends : (pick : ℕ) (refusal : Refusal) → IsStepRefusal times pick cmp old new refusal → EndsWork refusal
  step_ends pick OutOfMemory h = refl
  step_ends pick Overflow h = refl
  step_ends pick Failed h = refl
  step_ends pick other h = absurd h

  pub tidy_ends : (refusal : Refusal) → IsTidyRefusal times cmp old new refusal → EndsWork refusal
  tidy_ends OutOfMemory h = refl
  tidy_ends Overflow h = refl
  tidy_ends Failed h = refl
  tidy_ends other h = absurd h

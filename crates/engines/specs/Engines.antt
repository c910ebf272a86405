-- How an engine answers the commands of a session, and which refusals end a run.
use Rattle.std.specs.Prelude.{◌≡◌, ◌⊎◌, Option, Some, None, Result, Ok, Err}
use Rattle.update.specs.declared.refusal.Refusal.{Refusal}
use Rattle.update.specs.declared.refusal.Refusal.TheVariants.{OutOfMemory, Overflow, NoThread}

-- a refusal that ends the run and is not printed as a line: memory was refused, a number is too
-- large, or a thread did not start
abbrev pub EndsRun : Refusal → Type 0
EndsRun refusal = (refusal ≡ OutOfMemory) ⊎ ((refusal ≡ Overflow) ⊎ (refusal ≡ NoThread))

-- an answer to a command that changes an input. Ok: nothing refuses the command, and it takes
-- effect. Err: the answer is the command's refusal, and nothing changes; or memory was refused.
-- Memory may be refused although the command has a fault: the frontier of an `advance` is made of
-- its times before the engine tests it
abbrev pub IsTold : Option Refusal → Type 0 → Type 0 → Result (Unit {0}) Refusal → Type 0
IsTold refusal Accepted Stays (Ok x) = (refusal ≡ None) × Accepted
IsTold refusal Accepted Stays (Err r) = ((refusal ≡ Some r) × Stays) ⊎ (r ≡ OutOfMemory)

-- an answer to a question. Ok: nothing refuses the question, and this is the wanted answer. Err: it
-- is the question's refusal, or one that ends the run
abbrev pub IsFound : {X : Type 0} → (Refusal → Type 0) → Option Refusal → X → Result X Refusal
    → Type 0
IsFound Ends refusal wanted (Ok found) = (refusal ≡ None) × (found ≡ wanted)
IsFound Ends refusal wanted (Err r) = (refusal ≡ Some r) ⊎ Ends r

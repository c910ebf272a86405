-- What ends a run on threads.
use Rattle.std.specs.Prelude.{◌≡◌, ◌⊎◌, Bool, true, false, IsTrue}
use Rattle.update.specs.declared.refusal.Refusal.{Refusal}
use Rattle.update.specs.declared.refusal.Refusal.TheVariants.{OutOfMemory, Overflow, Failed, NoThread}

-- what ends a worker's part: memory was refused, or it met a number that is too large, now or
-- earlier
abbrev pub ends_work : Refusal → Bool
ends_work OutOfMemory = true
ends_work Overflow = true
ends_work Failed = true
ends_work other = false

abbrev pub EndsWork : Refusal → Type 0
EndsWork refusal = IsTrue (ends_work refusal)

-- what ends the run of all: a thread could not be made, or a worker's part ended
abbrev pub EndsThreads : Refusal → Type 0
EndsThreads refusal = (refusal ≡ NoThread) ⊎ EndsWork refusal

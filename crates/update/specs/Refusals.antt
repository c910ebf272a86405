-- The number of each refusal, and the sets of refusals that contracts speak of.
use Rattle.std.specs.Prelude.{◌≡◌, ℕ, Option, Some, None, Result, IfErr, ◌⊎◌}
use Rattle.update.specs.declared.refusal.Refusal.{Refusal}
use Rattle.update.specs.declared.refusal.Refusal.TheVariants.{OutOfMemory, WrongWidth, ZeroWeight, WeightTooLarge, TimePassed, NotForward, InputFull, NotPassed, GivenUp, Overflow, Busy, Failed, TooManyNodes, UnknownName, DuplicateName, BadColumn, WidthMismatch, NotArranged, KeyMismatch, BadWidth, BadKey, Stray, BadWorkers, NoThread, UnknownCommand, WrongWordCount, BadNumber, BadOrder, LineTooLong, NotUtf8, BadName}

-- the number that a command file prints for the refusal
abbrev pub code_of : Refusal → ℕ
code_of OutOfMemory = 1
code_of WrongWidth = 2
code_of ZeroWeight = 3
code_of WeightTooLarge = 4
code_of TimePassed = 5
code_of NotForward = 6
code_of InputFull = 7
code_of NotPassed = 8
code_of GivenUp = 9
code_of Overflow = 10
code_of Busy = 11
code_of Failed = 12
code_of TooManyNodes = 13
code_of UnknownName = 14
code_of DuplicateName = 15
code_of BadColumn = 16
code_of WidthMismatch = 17
code_of NotArranged = 18
code_of KeyMismatch = 19
code_of BadWidth = 20
code_of BadKey = 21
code_of Stray = 22
code_of BadWorkers = 23
code_of NoThread = 24
code_of UnknownCommand = 31
code_of WrongWordCount = 32
code_of BadNumber = 33
code_of BadOrder = 34
code_of LineTooLong = 35
code_of NotUtf8 = 36
code_of BadName = 37

-- the only error is want of memory
abbrev pub OnlyMemory : {A : Type 0} → Result A Refusal → Type 0
OnlyMemory result = IfErr result (λ refused. refused ≡ OutOfMemory)

-- out of memory, or an overflow that has this cause
abbrev pub IsMemoryOrOverflow : Type 0 → Refusal → Type 0
IsMemoryOrOverflow cause refusal = (refusal ≡ OutOfMemory) ⊎ ((refusal ≡ Overflow) × cause)

-- the fault if there is one; otherwise out of memory
abbrev pub IsRefusalBy : Option Refusal → Refusal → Type 0
IsRefusalBy (Some fault) refusal = refusal ≡ fault
IsRefusalBy None refusal = refusal ≡ OutOfMemory

-- the fault if there is one; otherwise out of memory, or an overflow that has this cause
abbrev pub IsRefusalOr : Type 0 → Option Refusal → Refusal → Type 0
IsRefusalOr cause (Some fault) refusal = refusal ≡ fault
IsRefusalOr cause None refusal = IsMemoryOrOverflow cause refusal

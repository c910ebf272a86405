-- The result of a parsing step: a value, or the refusal of the line.
use Rattle.std.specs.Prelude.{◌≡◌, Option, Some, None, Result, Ok, Err}
use Rattle.update.specs.declared.refusal.Refusal.{Refusal}
use Rattle.grammar.specs.declared.fault.LineError.{LineError}
use Rattle.grammar.specs.declared.fault.LineError.TheVariants as error

-- the first refused step refuses the line
infixl 10 ◌>>=◌
abbrev pub ◌>>=◌ : {A B : Type 0} → Result A Refusal → (A → Result B Refusal) → Result B Refusal
(Ok x) >>= f = f x
(Err refusal) >>= f = Err refusal

-- the value, or the refusal if there is none
abbrev pub or_refused : {A : Type 0} → Refusal → Option A → Result A Refusal
or_refused refusal None = Err refusal
or_refused refusal (Some x) = Ok x

-- the value, unless there is a refusal
abbrev pub unless : {A : Type 0} → Option Refusal → A → Result A Refusal
unless None x = Ok x
unless (Some refusal) x = Err refusal

-- the error is the refusal in this outcome, or memory ran out
abbrev pub Fails : {Y : Type 0} → LineError → Result Y Refusal → Type 0
Fails error.Memory outcome = Unit {0}
Fails (error.Refused refusal) outcome = outcome ≡ Err refusal

-- the function's result, seen through `view`, is this outcome, unless memory ran out
abbrev pub Gives : {X Y : Type 0} → (X → Y) → Result X LineError → Result Y Refusal → Type 0
Gives view (Ok x) outcome = outcome ≡ Ok (view x)
Gives view (Err e) outcome = Fails e outcome

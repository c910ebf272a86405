-- Causes of an engine's refusal.
use Rattle.std.proofs.Common.{◌≡◌, Option, Some, None, Result, Ok, Err, ◌⊎◌, inl, inr, refl, sym, ap, subst}
use Rattle.std.specs.Prelude.{IfErr, OnOk, OnErr}
use Rattle.update.specs.declared.refusal.Refusal.{Refusal}
use Rattle.update.specs.declared.refusal.Refusal.TheVariants.{OutOfMemory}
use Rattle.update.specs.Refusals.{IsMemoryOrOverflow, IsRefusalBy}
use Rattle.engines.specs.Engines.{IsTold}

-- weakens the cause of an engine's refusal
pub refusal_weaker : {A B : Type 0} → (A → B) → (r : Refusal) → IsMemoryOrOverflow A r → IsMemoryOrOverflow B r
refusal_weaker h r (inl memory) = inl memory
refusal_weaker h r (inr large) = inr (large.0, h large.1)

-- puts an answer together from the cases that the command was accepted and refused
pub answered : (o : Option Refusal) (A S : Type 0) (r : Result (Unit {0}) Refusal) → OnOk r A → OnOk r (o ≡ None) → IfErr r (IsRefusalBy o) → OnErr r S → IsTold o A S r
answered o A S (Ok x) a n e s = (n, a)
answered o A S (Err r) a n e s = by o e
  where
    by : (o : Option Refusal) → IsRefusalBy o r → ((o ≡ Some r) × S) ⊎ (r ≡ OutOfMemory)
    by (Some x) e = inl (ap Some (sym e), s)
    by None e = inr e

-- the refusal that a test gives, in the form that contracts use
pub refused_by : {A : Type 0} (o : Option Refusal) (r : Result A Refusal) → IfErr r (λ refusal. o ≡ Some refusal) → IfErr r (IsRefusalBy o)
refused_by o (Ok x) h = h
refused_by o (Err e) h = subst (λ (q : Option Refusal). IsRefusalBy q e) (sym h) refl

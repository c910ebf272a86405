-- Weakening what is known of a call's result.
use Rattle.std.proofs.Common.{Result, Ok, Err, ⊎_elim, inl, inr}
use Rattle.std.specs.Prelude.{IfOk, IfErr}
use Rattle.update.specs.Refusals.{IsMemoryOrOverflow}
use Rattle.update.specs.declared.refusal.Refusal.{Refusal}

-- weakens what is known of an Ok
pub ok_more : {X E : Type 0} (P Q : X → Type 0) → ((x : X) → P x → Q x) → (r : Result X E) → IfOk r P → IfOk r Q
ok_more P Q f (Ok x) h = f x h
ok_more P Q f (Err e) h = tt

-- weakens what is known of an Err
pub err_more : {X E : Type 0} (P Q : E → Type 0) → ((e : E) → P e → Q e) → (r : Result X E) → IfErr r P → IfErr r Q
err_more P Q f (Ok x) h = tt
err_more P Q f (Err e) h = f e h

-- joins two facts about an Ok into a third
pub ok_both : {X E : Type 0} (P Q R : X → Type 0) → ((x : X) → P x → Q x → R x) → (r : Result X E) → IfOk r P → IfOk r Q → IfOk r R
ok_both P Q R f (Ok x) h k = f x h k
ok_both P Q R f (Err e) h k = tt

-- weakens the cause of a refusal
pub refused_by : (A B : Type 0) (r : Refusal) → (A → B) → IsMemoryOrOverflow A r → IsMemoryOrOverflow B r
refused_by A B r f refused = ⊎_elim (λ m. inl m) (λ o. inr (o.0, f o.1)) refused

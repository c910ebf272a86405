-- What is known of an answer, when it is handed on.
use Rattle.std.proofs.Common.{◌≡◌, sym, refl, subst, inl, inr}
use Rattle.std.specs.Prelude.{Result, Ok, Err}
use Rattle.std.specs.Result.{IfErr, IfOk, OnErr, OnOk}
use Rattle.update.specs.Refusals.{IsMemoryOrOverflow}
use Rattle.update.specs.declared.refusal.Refusal.{Refusal}

-- what a `?` hands on, from what is known of the error
pub if_err_at : {A E : Type 0} (r : Result A E) (P : E → Type 0) (x y : E) → r ≡ Err y → y ≡ x → P x → IfErr r P
if_err_at r P x y e f h = subst (λ z. IfErr z P) (sym e) (subst P (sym f) h)

pub if_err_back : {A E : Type 0} (r : Result A E) (P : E → Type 0) (x : E) → r ≡ Err x → IfErr r P → P x
if_err_back r P x e h = subst (λ z. IfErr z P) e h

-- what an answer gives if there is one
pub on_ok_by : {A E P Q : Type 0} (r : Result A E) → (P → Q) → OnOk r P → OnOk r Q
on_ok_by (Ok y) f p = f p
on_ok_by (Err y) f p = tt

pub memory_or : {P Q : Type 0} {r : Refusal} → (P → Q) → IsMemoryOrOverflow P r → IsMemoryOrOverflow Q r
memory_or f (inl e) = inl e
memory_or f (inr (e, p)) = inr (e, f p)

-- what a result gives on each path
pub if_ok_from : {A E : Type 0} (r : Result A E) (Q : A → Type 0) → ((x : A) → r ≡ Ok x → Q x) → IfOk r Q
if_ok_from (Ok x) Q f = f x refl
if_ok_from (Err e) Q f = tt

pub if_ok_back : {A E : Type 0} (r : Result A E) (P : A → Type 0) (x : A) → r ≡ Ok x → IfOk r P → P x
if_ok_back r P x e h = subst (λ z. IfOk z P) e h

pub if_err_from : {A E : Type 0} (r : Result A E) (P Q : E → Type 0) → ((e : E) → P e → Q e) → IfErr r P → IfErr r Q
if_err_from (Ok x) P Q f h = tt
if_err_from (Err e) P Q f h = f e h

-- what an answer gives, from what is known of it
pub if_ok_by : {A E : Type 0} (r : Result A E) {P Q : A → Type 0} → ((x : A) → P x → Q x) → IfOk r P → IfOk r Q
if_ok_by (Ok x) f p = f x p
if_ok_by (Err e) f p = tt

pub on_ok_always : {A E P : Type 0} (r : Result A E) → P → OnOk r P
on_ok_always (Ok x) p = p
on_ok_always (Err e) p = tt

pub on_err_by : {A E P Q : Type 0} (r : Result A E) → (P → Q) → OnErr r P → OnErr r Q
on_err_by (Ok y) f p = tt
on_err_by (Err y) f p = f p

pub on_err_always : {A E P : Type 0} (r : Result A E) → P → OnErr r P
on_err_always (Ok x) p = tt
on_err_always (Err e) p = p

pub on_ok_back : {A E P : Type 0} (r : Result A E) (x : A) → r ≡ Ok x → OnOk r P → P
on_ok_back {P = P} r x e h = subst (λ z. OnOk z P) e h

-- what two clauses of an answer give together
pub on_ok_both : {A E P Q R : Type 0} (r : Result A E) → (P → Q → R) → OnOk r P → OnOk r Q → OnOk r R
on_ok_both (Ok y) f p q = f p q
on_ok_both (Err y) f p q = tt

pub on_ok_three : {A E P Q R S : Type 0} (r : Result A E) → (P → Q → R → S) → OnOk r P → OnOk r Q → OnOk r R → OnOk r S
on_ok_three (Ok y) f p q s = f p q s
on_ok_three (Err y) f p q s = tt

-- of an error nothing is known that holds of an answer
pub if_ok_err : {A E : Type 0} (r : Result A E) (P : A → Type 0) (x : E) → r ≡ Err x → IfOk r P
if_ok_err r P x e = subst (λ z. IfOk z P) (sym e) tt

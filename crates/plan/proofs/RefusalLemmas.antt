-- The order of two refusals.
use Rattle.std.proofs.Common.{◌≡◌, Bool, true, false, [], ◌∷◌, refl}
use Rattle.std.specs.Option.{option_or}
use Rattle.update.specs.declared.refusal.Refusal.{Refusal}
use Rattle.plan.specs.Rules.{first_refusal}

-- testing two faults one after the other gives the refusal of the first that is present
pub first_of_two : (a b : Bool) (r s : Refusal) → option_or (first_refusal ((a, r) ∷ [])) (first_refusal ((b, s) ∷ [])) ≡ first_refusal ((a, r) ∷ (b, s) ∷ [])
first_of_two true b r s = refl
first_of_two false b r s = refl

-- The list of updates that the last bundle of a cut emission has.
use Rattle.std.proofs.Common.{◌≡◌, ℕ, zero, suc, List, [], ◌∷◌, ◌++◌, length, get_or, sym, refl, ap, arith}
use Rattle.histories.specs.declared.event.Bundle.{Bundle}
use Rattle.accounts.specs.CutEmissions.{last_updates}

module _ {T : Type 0} where
  -- the bundle that was pushed last has the updates
  pub last_pushed : (bs : List (Bundle T)) (b : Bundle T) → last_updates (bs ++ b ∷ []) ≡ b.updates
  last_pushed [] b = refl
  last_pushed (c ∷ []) b = refl
  last_pushed (c ∷ (d ∷ bs)) b = last_pushed (d ∷ bs) b

  -- the bundle that is read at the last place has the updates
  pub last_read : (bs : List (Bundle T)) (n : ℕ) (b : Bundle T) → suc n ≡ length bs → b ≡ get_or bs n b → last_updates bs ≡ b.updates
  last_read [] n b l e = absurd (omega (arith, l))
  last_read (c ∷ []) zero b l e = ap (λ (x : Bundle T). x.updates) (sym e)
  last_read (c ∷ []) (suc n) b l e = absurd (omega (arith, l))
  last_read (c ∷ (d ∷ bs)) zero b l e = absurd (omega (arith, l))
  last_read (c ∷ (d ∷ bs)) (suc n) b l e = last_read (d ∷ bs) n b (omega (arith, l)) e

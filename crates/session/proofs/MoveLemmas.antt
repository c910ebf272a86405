-- Moves from a place on.
use Rattle.std.proofs.Common.{◌≡◌, ◌<◌, ℕ, zero, suc, List, [], ◌∷◌, length, drop, get_or, refl, arith}

pub drop_here : {A : Type 0} (xs : List A) (i : ℕ) (d : A) → i < length xs → drop i xs ≡ get_or xs i d ∷ drop (suc i) xs
drop_here [] i d l = absurd (omega (arith, l))
drop_here (x ∷ xs) zero d l = refl
drop_here (x ∷ xs) (suc i) d l = drop_here xs i d (omega (arith, l))

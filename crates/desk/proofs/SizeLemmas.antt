-- A list with a diff that is no 64-bit number is large.
use Rattle.std.proofs.Common.{◌<◌, ◌≤◌, ◌^◌, List, [], ◌∷◌, subst, arith, ⊎_elim, w64, FitsSigned}
use Rattle.std.specs.List.{AllByRecursion}
use Rattle.std.proofs.lemmas.Bool.{cases_lt}
use Rattle.std.proofs.lemmas.Int.{fits_signed_from_abs}
use Rattle.std.proofs.lemmas.List.Elements.{All-from_recursion}
use Rattle.update.specs.Updates.{size}
use Rattle.update.specs.declared.change.Update.{Update}
use Rattle.update.proofs.ConsolidatedLemmas.{summed_size, summed_size_is}
use Rattle.linear.specs.Applied.{HasLargeDiff}

module _ {T : Type 0} where
  -- in a list of size below 2^63 each diff is a 64-bit number
  small_fits : (us : List (Update T)) → summed_size us < 2 ^ 63 → AllByRecursion (λ u. FitsSigned w64 u.diff) us
  small_fits [] l = tt
  small_fits (u ∷ us) l = (fits_signed_from_abs w64 u.diff (omega (arith, l)), small_fits us (omega (arith, l)))

  pub large_diff : (us : List (Update T)) → HasLargeDiff us → 2 ^ 63 ≤ size us
  large_diff us large =
      let is = summed_size_is us in
      ⊎_elim
      (λ l. absurd (large.4 (subst (λ (u : Update T). FitsSigned w64 u.diff) large.3 (All-from_recursion (λ u. FitsSigned w64 u.diff) us (small_fits us l) large.0 large.1 large.2))))
      (λ l. omega (arith, l, is))
      (cases_lt (summed_size us) (2 ^ 63))

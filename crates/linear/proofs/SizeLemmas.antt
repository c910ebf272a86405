-- The output of a linear node is no larger than its input.
use Rattle.std.proofs.Common.{◌≡◌, ℕ, ◌+◌, ◌≤◌, ◌<◌, ◌^◌, Bool, true, false, cond, List, [], ◌∷◌, map, IsTrue, ⊎_elim, refl, ap, subst, ◌∙◌, arith, w64, FitsSigned}
use Rattle.std.specs.Prelude.{ℤ, neg_ℤ, unsigned_abs}
use Rattle.std.specs.List.{filter, list_all, AllByRecursion}
use Rattle.std.proofs.lemmas.Bool.{cases_lt, and_parts, and_from}
use Rattle.std.proofs.lemmas.Int.{ints, fits_signed_from_abs}
use Rattle.std.proofs.lemmas.List.Elements.{All-from_recursion}
use Rattle.row.specs.Filters.{passes}
use Rattle.row.specs.declared.projection.Item.{Item}
use Rattle.update.specs.Updates.{size}
use Rattle.update.specs.declared.change.Update.{Update}
use Rattle.update.proofs.ConsolidatedLemmas.{summed_size, summed_size_is}
use Rattle.plan.specs.declared.node.Node.{Node}
use Rattle.plan.specs.declared.node.Node.TheVariants.{Map, Filter, Negate}
use Rattle.linear.specs.Applied.{mapped_update, negated_update, linear_output, HasLargeDiff, Overflows}

-- a diff and its opposite have the same absolute value
pub abs_negated : (d : ℤ) → unsigned_abs (neg_ℤ d) ≡ unsigned_abs d
abs_negated d = omega (arith, ints)

module _ {T : Type 0} where
  summed_size_mapped : (items : List Item) (us : List (Update T)) → summed_size (map (mapped_update items) us) ≡ summed_size us
  summed_size_mapped items [] = refl
  summed_size_mapped items (u ∷ us) = ap (λ n. unsigned_abs u.diff + n) (summed_size_mapped items us)

  summed_size_negated : (us : List (Update T)) → summed_size (map negated_update us) ≡ summed_size us
  summed_size_negated [] = refl
  summed_size_negated (u ∷ us) = λ i. abs_negated u.diff i + summed_size_negated us i

  summed_size-filter : (p : Update T → Bool) (us : List (Update T)) → summed_size (filter p us) ≤ summed_size us
  summed_size-filter p [] = omega arith
  summed_size-filter p (u ∷ us) =
      let rest = summed_size-filter p us in
      elim (p u) as (λ b. summed_size (cond b (u ∷ filter p us) (filter p us)) ≤ unsigned_abs u.diff + summed_size us) [
        | true ↦ omega (arith, rest)
        | false ↦ omega (arith, rest)
      ]

  -- the output is no larger than the input, for the size by recursion, as sums over lists need it
  pub summed_size_applied : (node : Node) (us : List (Update T)) → summed_size (linear_output node us) ≤ summed_size us
  summed_size_applied (Map source items) us = let e = summed_size_mapped items us in omega (arith, e)
  summed_size_applied (Filter source test) us = summed_size-filter (λ u. passes test u.row) us
  summed_size_applied (Negate source) us = let e = summed_size_negated us in omega (arith, e)
  summed_size_applied node us = omega arith

  -- the output is no larger than the input
  pub size_applied : (node : Node) (us : List (Update T)) → size (linear_output node us) ≤ size us
  size_applied node us =
      let out = summed_size_is (linear_output node us) in
      let all = summed_size_is us in
      let less = summed_size_applied node us in
      omega (arith, out, all, less)

  -- in a list of size below 2^63 each diff is a 64-bit number
  small_fits : (us : List (Update T)) → summed_size us < 2 ^ 63 → AllByRecursion (λ u. FitsSigned w64 u.diff) us
  small_fits [] l = tt
  small_fits (u ∷ us) l = (fits_signed_from_abs w64 u.diff (omega (arith, l)), small_fits us (omega (arith, l)))

  large_size : (us : List (Update T)) → HasLargeDiff us → 2 ^ 63 ≤ summed_size us
  large_size us large =
      ⊎_elim
      (λ l. absurd (large.4 (subst (λ (u : Update T). FitsSigned w64 u.diff) large.3 (All-from_recursion (λ u. FitsSigned w64 u.diff) us (small_fits us l) large.0 large.1 large.2))))
      (λ l. l)
      (cases_lt (summed_size us) (2 ^ 63))

  -- if a diff of the output is no 64-bit number, then the input has size 2^63 or more
  pub large_applied : (node : Node) (us : List (Update T)) → Overflows node us → 2 ^ 63 ≤ size us
  large_applied (Negate source) us large =
      let out = large_size (map negated_update us) large in
      let same = summed_size_negated us in
      let all = summed_size_is us in
      omega (arith, out, same, all)
  large_applied node us large = absurd large

  -- only a negation overflows
  pub only_negation : (node : Node) (us : List (Update T)) → Overflows node us → (source : ℕ) × (node ≡ Negate source)
  only_negation (Negate source) us large = (source, refl)
  only_negation node us large = absurd large

  -- if a node overflows, then its output has a diff that is no 64-bit number
  pub overflow_large : (node : Node) (us : List (Update T)) → Overflows node us → HasLargeDiff (linear_output node us)
  overflow_large (Negate source) us large = large
  overflow_large node us large = absurd large

  -- a test that all updates pass is passed by all updates of a filtered list
  pub list_all-filter : (p q : Update T → Bool) (us : List (Update T)) → IsTrue (list_all p us) → IsTrue (list_all p (filter q us))
  list_all-filter p q [] h = refl
  list_all-filter p q (u ∷ us) h =
      let parts = and_parts (p u) (list_all p us) h in
      let rest = list_all-filter p q us parts.1 in
      elim (q u) as (λ b. IsTrue (list_all p (cond b (u ∷ filter q us) (filter q us)))) [
        | true ↦ and_from (p u) (list_all p (filter q us)) parts.0 rest
        | false ↦ rest
      ]

  list_all-map : (p : Update T → Bool) (f : Update T → Update T) (us : List (Update T)) → ((u : Update T) → p (f u) ≡ p u) → IsTrue (list_all p us) → IsTrue (list_all p (map f us))
  list_all-map p f [] e h = refl
  list_all-map p f (u ∷ us) e h =
      let parts = and_parts (p u) (list_all p us) h in
      and_from (p (f u)) (list_all p (map f us)) (e u ∙ parts.0) (list_all-map p f us e parts.1)

  -- a test of times that the input passes is passed by the output
  pub times_applied : (node : Node) (p : T → Bool) (us : List (Update T)) → IsTrue (list_all (λ u. p u.time) us) → IsTrue (list_all (λ u. p u.time) (linear_output node us))
  times_applied (Map source items) p us h = list_all-map (λ u. p u.time) (mapped_update items) us (λ u. refl) h
  times_applied (Filter source test) p us h = list_all-filter (λ u. p u.time) (λ u. passes test u.row) us h
  times_applied (Negate source) p us h = list_all-map (λ u. p u.time) negated_update us (λ u. refl) h
  times_applied node p us h = h

  -- a test that cannot tell a diff from its opposite, such as a limit on its size, is passed by the
  -- output if the input passes it
  pub diffs_applied : (node : Node) (p : ℤ → Bool) → ((d : ℤ) → p (neg_ℤ d) ≡ p d) → (us : List (Update T)) → IsTrue (list_all (λ u. p u.diff) us) → IsTrue (list_all (λ u. p u.diff) (linear_output node us))
  diffs_applied (Map source items) p e us h = list_all-map (λ u. p u.diff) (mapped_update items) us (λ u. refl) h
  diffs_applied (Filter source test) p e us h = list_all-filter (λ u. p u.diff) (λ u. passes test u.row) us h
  diffs_applied (Negate source) p e us h = list_all-map (λ u. p u.diff) negated_update us (λ u. e u.diff) h
  diffs_applied node p e us h = h

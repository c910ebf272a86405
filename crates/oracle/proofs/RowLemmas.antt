-- The rows of a bag, and the rows that have a count in a list.
use Rattle.std.proofs.Common.{◌≡◌, ◌≢◌, ℕ, ◌<◌, Bool, true, false, List, [], ◌∷◌, ℤ, length, get_or, IsTrue, refl, ap, sym, subst, ◌∙◌, w64, FitsSigned, arith}
use Rattle.std.specs.Prelude.{pos, ◌+ℤ◌}
use Rattle.std.specs.List.{list_all, AllByRecursion}
use Rattle.std.proofs.lemmas.Bool.{and_parts, true≢false}
use Rattle.std.proofs.lemmas.Int.{ints}
use Rattle.std.proofs.lemmas.List.Elements.{All-from_recursion}
use Rattle.std.proofs.lemmas.List.Sums.{list_all-from_AllPass}
use Rattle.update.specs.Bags.{Entry, Alike, IsBag, HasLargeCount, count_of, same_row}
use Rattle.update.proofs.BagLemmas.{count_absent, count_at}
use Rattle.plan.proofs.CountLemmas.{row_same}

-- 0 adds nothing on the left
pub zero_plus : (n : ℤ) → pos 0 +ℤ n ≡ n
zero_plus n = omega (arith, ints)

-- 0 adds nothing on the right
pub plus_zero : (n : ℤ) → n +ℤ pos 0 ≡ n
plus_zero n = omega (arith, ints)

-- whether some count is too large depends only on the bag
pub large_alike : (a b : List Entry) → Alike a b → HasLargeCount a → HasLargeCount b
large_alike a b alike large = (large.0, λ fits. large.1 (subst (FitsSigned w64) (sym (alike large.0)) fits))

-- if all rows pass a test, a row that does not pass has count 0
pub absent_row : (p : List ℤ → Bool) (es : List Entry) (row : List ℤ) → IsTrue (list_all (λ e. p e.row) es) → p row ≡ false → count_of es row ≡ pos 0
absent_row p es row h n = count_absent es row (others es h)
  where
    others : (es : List Entry) → IsTrue (list_all (λ e. p e.row) es) → AllByRecursion (λ e. same_row e.row row ≡ false) es
    others [] h = tt
    others (e ∷ es) h =
        let parts = and_parts (p e.row) (list_all (λ e. p e.row) es) h in
        (step (same_row e.row row) refl parts.0, others es parts.1)
      where
        step : (b : Bool) → same_row e.row row ≡ b → IsTrue (p e.row) → same_row e.row row ≡ false
        step false i t = i
        step true i t = absurd (true≢false (sym t ∙ (ap p (row_same e.row row i) ∙ n)))

-- the count of an entry in a bag is not 0
counts_at : (bag : List Entry) → IsBag bag → (i : ℕ) (d : Entry) → i < length bag → (get_or bag i d).count ≢ pos 0
counts_at bag is i d l = All-from_recursion (λ (e : Entry). e.count ≢ pos 0) bag is.nonzero i d l

-- if every row that does not pass has count 0, all rows of the bag pass
pub rows_by_counts : (p : List ℤ → Bool) (bag : List Entry) → IsBag bag → ((row : List ℤ) → p row ≡ false → count_of bag row ≡ pos 0) → IsTrue (list_all (λ e. p e.row) bag)
rows_by_counts p bag is none = list_all-from_AllPass (λ (e : Entry). p e.row) bag (λ i d l. step i d l (p (get_or bag i d).row) refl)
  where
    step : (i : ℕ) (d : Entry) → i < length bag → (b : Bool) → p (get_or bag i d).row ≡ b → p (get_or bag i d).row ≡ true
    step i d l true e = e
    step i d l false e = absurd (counts_at bag is i d l (sym (count_at bag i d l is.ascending) ∙ none (get_or bag i d).row e))

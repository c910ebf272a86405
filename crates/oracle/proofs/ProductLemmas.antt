-- If a product or an opposite of entries' counts is too large, so is one in terms of rows, which is
-- how the query sees it.
use Rattle.std.proofs.Common.{◌≡◌, ℕ, List, map, take, length, get_or, ap, sym, subst, ◌∙◌, w64, FitsSigned, ◌<◌}
use Rattle.std.specs.Prelude.{neg_ℤ, ◌*ℤ◌}
use Rattle.std.specs.List.{Any}
use Rattle.update.specs.Bags.{Entry, IsBag, HasLargeCount, count_of}
use Rattle.update.proofs.BagLemmas.{count_at}
use Rattle.plan.specs.Operators.{negated_entry}
use Rattle.plan.proofs.CountLemmas.{row_same, count_of-negated_entry}
use Rattle.oracle.specs.Evaluation.{HasLargeProductOf}
use Rattle.oracle.specs.Products.{HasLargePair}

-- an entry of a bag has the count of its row
entry_counts : (bag : List Entry) → IsBag bag → (i : ℕ) (e : Entry) → i < length bag → get_or bag i e ≡ e → count_of bag e.row ≡ e.count
entry_counts bag is i e l same =
    ap (λ (x : Entry). count_of bag x.row) (sym same) ∙ (count_at bag i e l is.ascending ∙ ap (λ (x : Entry). x.count) same)

-- if a count has no opposite, the negated bag has a count that is too large
pub negated_large : (bag : List Entry) → IsBag bag → Any (λ e. FitsSigned w64 (neg_ℤ e.count) → ⊥) bag → HasLargeCount (map negated_entry bag)
negated_large bag is any =
    let e = any.1 in
    (e.row, λ fits. any.4 (subst (FitsSigned w64) (count_of-negated_entry bag e.row ∙ ap neg_ℤ (entry_counts bag is any.0 e any.2 any.3)) fits))

-- if the product of two entries is too large, so is that of their rows
pub large_product : (k : ℕ) (left right : List Entry) → IsBag left → IsBag right → HasLargePair k left right → HasLargeProductOf k left right
large_product k left right one other any =
    let x = any.1 in
    let inner = any.4 in
    let y = inner.1 in
    let same : count_of left x.row *ℤ count_of right y.row ≡ x.count *ℤ y.count = λ j. entry_counts left one any.0 x any.2 any.3 j *ℤ entry_counts right other inner.0 y inner.2 inner.3 j in
    (x.row, y.row, sym (row_same (take k y.row) (take k x.row) inner.4.0), λ fits. inner.4.1 (subst (FitsSigned w64) same fits))

-- A distinct may go by whole rows. For rows of one width it answers the same by any number of their
-- columns: each row that counts more than 0 times, once.
use Rattle.std.proofs.Common.{◌≡◌, ◌≤◌, ◌<◌, ℕ, Bool, true, false, cond, eqb, List, take, length, refl, ap, sym, subst, ◌∙◌, arith}
use Rattle.std.specs.Prelude.{ℤ, pos, int_lt, nat_le}
use Rattle.std.specs.List.{filter, list_all}
use Rattle.std.proofs.lemmas.Bool.{false_from_ne_true, eqb-true, leb-false}
use Rattle.update.specs.Bags.{Entry, Alike, count_of, same_row}
use Rattle.plan.specs.Operators.{reduction_output}
use Rattle.plan.specs.Reductions.{has_key, reduction_answer}
use Rattle.plan.specs.Widths.{reduced_width}
use Rattle.plan.specs.declared.node.Kind.{Kind}
use Rattle.plan.specs.declared.node.Kind.TheVariants.{Count, Distinct, Min, Max}
use Rattle.plan.proofs.CountLemmas.{row_itself, count_of-filter}
use Rattle.plan.proofs.ReducerLemmas.{all_reduce, count_present}
use Rattle.plan.proofs.ReductionLemmas.{by_key_at}
use Rattle.correction.proofs.KeyedLemmas.{absent_row}
use Rattle.operator.specs.Reductions.{HasRoom, state_key}

-- 1 if the number is above 0, and otherwise 0
abbrev once : ℤ → ℤ
once n = cond (int_lt (pos 0) n) (pos 1) (pos 0)

-- a row with fewer columns than all entries is in none of them
none_narrower : (width : ℕ) (es : List Entry) (row : List ℤ) → list_all (λ (e : Entry). eqb (length e.row) width) es ≡ true → length row < width → count_of es row ≡ pos 0
none_narrower width es row wide less =
    absent_row (λ row. eqb (length row) width) es row wide (false_from_ne_true (eqb (length row) width) (λ e. let n = eqb-true (length row) width e in omega (arith, less, n)))

-- among the entries of its key a row counts as often as among all
own_count : (k : ℕ) (es : List Entry) (row : List ℤ) → count_of (filter (has_key k (take k row)) es) row ≡ count_of es row
own_count k es row =
    count_of-filter (λ other. same_row (take k other) (take k row)) es row
    ∙ ap (λ b. cond b (count_of es row) (pos 0)) (row_itself (take k row))

-- by any number of the columns that all rows have, distinct answers each row that counts more than
-- 0 times, once
distinct_at : (k width : ℕ) (es : List Entry) → k ≤ width → list_all (λ (e : Entry). eqb (length e.row) width) es ≡ true → (row : List ℤ)
    → count_of (reduction_output k (reduction_answer Distinct) es) row ≡ once (count_of es row)
distinct_at k width es within wide row =
    by_key_at k (reduction_answer Distinct) (all_reduce Distinct k) es row
    ∙ (ap (λ n. cond (nat_le k (length row)) n (pos 0)) (count_present (filter (has_key k (take k row)) es) row ∙ ap once (own_count k es row))
    ∙ step (nat_le k (length row)) refl)
  where
    step : (b : Bool) → nat_le k (length row) ≡ b → cond b (once (count_of es row)) (pos 0) ≡ once (count_of es row)
    step true e = refl
    step false e =
        let short = leb-false k (length row) e in
        sym (ap once (none_narrower width es row wide (omega (arith, short, within))))

-- for rows of one width distinct answers the same by any two numbers of their columns
pub distinct_by_any : (a b width : ℕ) (es : List Entry) → a ≤ width → b ≤ width → list_all (λ (e : Entry). eqb (length e.row) width) es ≡ true
    → Alike (reduction_output a (reduction_answer Distinct) es) (reduction_output b (reduction_answer Distinct) es)
distinct_by_any a b width es a_within b_within wide row = distinct_at a width es a_within wide row ∙ sym (distinct_at b width es b_within wide row)

-- ---- the key of the state and the key of the plan

-- for rows of one width a reduction answers the same by the key of its state and by the key of the
-- plan
pub by_state_key : (kind : Kind) (key width : ℕ) (es : List Entry) → key ≤ width → list_all (λ (e : Entry). eqb (length e.row) width) es ≡ true
    → Alike (reduction_output (state_key kind key width) (reduction_answer kind) es) (reduction_output key (reduction_answer kind) es)
by_state_key Count key width es within wide row = refl
by_state_key Distinct key width es within wide row = distinct_by_any width key width es (omega arith) within wide row
by_state_key Min key width es within wide row = refl
by_state_key Max key width es within wide row = refl

-- where a plan's key has room, so has the key of the state
pub state_has_room : (kind : Kind) (key width : ℕ) → HasRoom kind key width → HasRoom kind (state_key kind key width) width
state_has_room Count key width h = h
state_has_room Distinct key width h =
    let a = h.some in
    let b = h.within in
    record { some = omega (arith, a, b); within = omega arith; room = h.room }
state_has_room Min key width h = h
state_has_room Max key width h = h

-- the key of the state is part of the rows
pub state_within : (kind : Kind) (k key width : ℕ) → k ≡ state_key kind key width → HasRoom kind key width → k ≤ width
state_within kind k key width goes room = subst (λ n. n ≤ width) (sym goes) (state_has_room kind key width room).within

-- the rows of the answers have the same number of columns
pub same_output_width : (kind : Kind) (key width : ℕ) → reduced_width kind (state_key kind key width) width ≡ reduced_width kind key width
same_output_width Count key width = refl
same_output_width Distinct key width = refl
same_output_width Min key width = refl
same_output_width Max key width = refl

-- The lowest digits of a number, one by one.
use Rattle.std.proofs.Common.{◌≡◌, ℕ, zero, suc, ◌+◌, ◌-◌, ◌/◌, ◌%◌, ◌^◌, ◌<◌, ◌≤◌, List, [], ◌∷◌, ◌++◌, refl, sym, ap, ◌∙◌, append_assoc, arith}
use Rattle.std.proofs.lemmas.List.{append-nil}
use Rattle.dictionary.specs.Decimals.{lowest}

lowest_at : (k j n : ℕ) → k ≡ suc j → lowest k n ≡ (48 + n / 10 ^ j % 10) ∷ lowest j n
unfolding lowest
lowest_at k j n e = rw e refl

-- one digit more was pushed
pub digit_pushed : (text more whole : List ℕ) (k n : ℕ) → 0 < k → more ≡ text ++ ((48 + n / 10 ^ (k - 1) % 10) ∷ []) → text ++ lowest k n ≡ whole → more ++ lowest (k - 1) n ≡ whole
digit_pushed text more whole k n h e f =
    let one : k ≡ suc (k - 1) = omega arith in
    ap (λ t. t ++ lowest (k - 1) n) e
    ∙ append_assoc text ((48 + n / 10 ^ (k - 1) % 10) ∷ []) (lowest (k - 1) n)
    ∙ ap (λ ds. text ++ ds) (sym (lowest_at k (k - 1) n one)) ∙ f

-- all digits were pushed
pub all_pushed : (text whole : List ℕ) (k n : ℕ) → k ≤ 0 → text ++ lowest k n ≡ whole → text ≡ whole
unfolding lowest
all_pushed text whole zero n h e = sym (append-nil text) ∙ e
all_pushed text whole (suc k) n h e = absurd (omega arith)

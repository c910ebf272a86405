-- The laws of an output that appends the bytes that it takes. `MemoryOut` is one.
use Rattle.std.specs.Prelude.{◌≡◌, ℕ, List, [], ◌++◌}
use Rattle.std.proofs.Common.{sym, ◌∙◌, ap, append_assoc}
use Rattle.std.proofs.lemmas.List.{append-nil}

-- the law `at_once` of an output that appends
pub nothing_more : (bytes : List ℕ) → bytes ≡ bytes ++ []
nothing_more bytes = sym (append-nil bytes)

-- the law `in_turn` of an output that appends
pub more_and_more : (s t u xs ys : List ℕ) → t ≡ s ++ xs → u ≡ t ++ ys → u ≡ s ++ (xs ++ ys)
more_and_more s t u xs ys h k = k ∙ ap (λ bytes. bytes ++ ys) h ∙ append_assoc s xs ys

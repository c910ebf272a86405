-- How a file is cut into lines, and a line into words.
use Rattle.std.specs.Prelude.{ℕ, Bool, true, not, List, [], ◌∷◌, length, filter, ◌==◌, slice_index, if◌then◌else◌}
use Rattle.std.specs.List.{slice_split}

-- an empty piece at the end is not a line
abbrev pub without_empty_end : List (List ℕ) → List (List ℕ)
without_empty_end [] = []
without_empty_end (piece ∷ []) = if length piece == 0 then [] else piece ∷ []
without_empty_end (piece ∷ next ∷ pieces) = piece ∷ without_empty_end (next ∷ pieces)

-- the pieces between the newlines
abbrev pub lines_of : List ℕ → List (List ℕ)
lines_of bytes = without_empty_end (slice_split (λ b. b == 10) bytes)

-- the longest runs of bytes without a space
abbrev pub words_of : List ℕ → List (List ℕ)
words_of line = filter (λ w. not (length w == 0)) (slice_split (λ b. b == 32) line)

-- the word begins with #
abbrev pub opens_comment : List ℕ → Bool
opens_comment word = slice_index word 0 == 0x23

-- a line with these words is skipped: it has none, or the first begins with #
abbrev pub is_skipped : List (List ℕ) → Bool
is_skipped [] = true
is_skipped (first ∷ words) = opens_comment first

-- How lines are joined to a file, and words to a line.
use Rattle.std.specs.Prelude.{◌≢◌, ℕ, ◌<◌, List, [], ◌∷◌, ◌++◌, length}
use Rattle.std.specs.List.{All, flat_map}

-- the lines, each followed by a newline
abbrev pub joined_lines : List (List ℕ) → List ℕ
joined_lines lines = flat_map (λ line. line ++ 10 ∷ []) lines

-- the words, separated by single spaces
abbrev pub joined_words : List (List ℕ) → List ℕ
joined_words [] = []
joined_words (word ∷ []) = word
joined_words (word ∷ next ∷ words) = word ++ 32 ∷ joined_words (next ∷ words)

-- at least one byte, and no space
abbrev pub IsWord : List ℕ → Type 0
IsWord word = (0 < length word) × All (λ b. b ≢ 32) word

-- each of these can be a word of a line
abbrev pub AreWords : List (List ℕ) → Type 0
AreWords [] = Unit {0}
AreWords (word ∷ words) = IsWord word × AreWords words

-- no line contains a newline
abbrev pub AreLines : List (List ℕ) → Type 0
AreLines [] = Unit {0}
AreLines (line ∷ lines) = All (λ b. b ≢ 10) line × AreLines lines

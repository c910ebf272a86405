-- The words that are numbers.
use Rattle.std.specs.Prelude.{ℕ, ℤ, List, [], ◌∷◌, Option, Some, Result}
use Rattle.std.specs.Option.{option_map, option_and_then}
use Rattle.update.specs.declared.refusal.Refusal.{Refusal}
use Rattle.update.specs.declared.refusal.Refusal.TheVariants.{BadNumber}
use Rattle.lattice.specs.Pairs.{make_pair}
use Rattle.lattice.specs.declared.product.Pair.{Pair}
use Rattle.grammar.specs.Outcomes.{or_refused}
use Rattle.grammar.specs.Numbers.{whole_of, signed_of}

-- the value of each word, if every word has one
abbrev pub each : {A : Type 0} → (List ℕ → Option A) → List (List ℕ) → Option (List A)
each read [] = Some []
each read (word ∷ words) =
    option_and_then (λ x. option_map (λ xs. x ∷ xs) (each read words)) (read word)

-- the value that was read, or `BadNumber` if there is none
abbrev pub number : {A : Type 0} → Option A → Result A Refusal
number o = or_refused BadNumber o

-- a word that must be a whole number
unfoldable pub whole : List ℕ → Result ℕ Refusal
whole word = number (whole_of word)

-- a word that must be a signed number
unfoldable pub signed : List ℕ → Result ℤ Refusal
signed word = number (signed_of word)

-- words that must all be whole numbers
unfoldable pub wholes : List (List ℕ) → Result (List ℕ) Refusal
wholes words = number (each whole_of words)

-- words that must all be signed numbers
unfoldable pub columns : List (List ℕ) → Result (List ℤ) Refusal
columns words = number (each signed_of words)

-- the numbers in pairs; an odd last number is dropped
abbrev pub pairs_of : List ℕ → List (Pair ℕ ℕ)
pairs_of [] = []
pairs_of (v ∷ []) = []
pairs_of (v ∷ s ∷ more) = make_pair v s ∷ pairs_of more

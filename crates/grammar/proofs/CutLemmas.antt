-- Lines and words that are joined are cut again at the same places.
use Rattle.std.proofs.Common.{◌≡◌, ℕ, ◌<◌, Bool, true, false, not, cond, eqb, eq-eqb, ne_eqb, List, [], ◌∷◌, length, filter, refl, sym, ap, ◌∙◌, append_assoc, arith}
use Rattle.std.specs.Prelude.{◌≢◌}
use Rattle.std.specs.List.{slice_split, onto_first, All}
use Rattle.std.proofs.lemmas.List.Elements.{All-nil, All-cons, All-weaker}
use Rattle.std.proofs.lemmas.List.Splits.{slice_split_at, slice_split_none, length-slice_split}
use Rattle.grammar.specs.Text.{without_empty_end, lines_of, words_of}
use Rattle.grammar.specs.JoinedText.{joined_lines, joined_words, AreWords, AreLines}
use Rattle.grammar.proofs.TextLemmas.{at_newline, without_empty_end-cons}

abbrev at_space : ℕ → Bool
at_space b = eqb b 32

abbrev is_kept : List ℕ → Bool
is_kept word = not (eqb (length word) 0)

lacks : (byte : ℕ) (xs : List ℕ) → All (λ b. b ≢ byte) xs → All (λ b. eqb b byte ≡ false) xs
lacks byte xs h = All-weaker (λ b. b ≢ byte) (λ b. eqb b byte ≡ false) (λ b ne. ne_eqb b byte ne) xs h

-- answers the clause `lines` of joined_texts_are_cut_again
pub lines_joined : (lines : List (List ℕ)) → AreLines lines → lines_of (joined_lines lines) ≡ lines
lines_joined [] h = refl
lines_joined (line ∷ lines) h =
    ap lines_of (append_assoc line (10 ∷ []) (joined_lines lines))
    ∙ ap without_empty_end (slice_split_at at_newline line 10 (joined_lines lines) (lacks 10 line h.0) refl)
    ∙ without_empty_end-cons line (slice_split at_newline (joined_lines lines)) (omega (arith, length-slice_split at_newline (joined_lines lines)))
    ∙ ap (λ (ls : List (List ℕ)). line ∷ ls) (lines_joined lines h.1)

keep : (word : List ℕ) (words : List (List ℕ)) → 0 < length word → filter is_kept (word ∷ words) ≡ word ∷ filter is_kept words
keep word words l = ap (λ b. cond (not b) (word ∷ filter is_kept words) (filter is_kept words)) (ne_eqb (length word) 0 (λ z. omega arith))

-- answers the clause `words` of joined_texts_are_cut_again
pub words_spaced : (words : List (List ℕ)) → AreWords words → words_of (joined_words words) ≡ words
words_spaced [] h = refl
words_spaced (word ∷ []) h = ap (filter is_kept) (slice_split_none at_space word (lacks 32 word h.0.1)) ∙ keep word [] h.0.0
words_spaced (word ∷ next ∷ words) h =
    ap (filter is_kept) (slice_split_at at_space word 32 (joined_words (next ∷ words)) (lacks 32 word h.0.1) refl)
    ∙ keep word (slice_split at_space (joined_words (next ∷ words))) h.0.0
    ∙ ap (λ (ws : List (List ℕ)). word ∷ ws) (words_spaced (next ∷ words) h.1)

-- no piece contains a space
abbrev Clean : List (List ℕ) → Type 0
Clean [] = Unit {0}
Clean (piece ∷ pieces) = All (λ b. b ≢ 32) piece × Clean pieces

no_space : (b : ℕ) → eqb b 32 ≡ false → b ≢ 32
no_space b e same = let no : true ≡ false = sym (eq-eqb b 32 same) ∙ e in absurd cc

onto : (x : ℕ) (pieces : List (List ℕ)) (b : Bool) → eqb x 32 ≡ b → Clean pieces → Clean (cond b ([] ∷ pieces) (onto_first x pieces))
onto x pieces true e c = (All-nil (λ b. b ≢ 32), c)
onto x [] false e c = (All-cons (λ b. b ≢ 32) x [] (no_space x e) (All-nil (λ b. b ≢ 32)), tt)
onto x (piece ∷ pieces) false e c = (All-cons (λ b. b ≢ 32) x piece (no_space x e) c.0, c.1)

pieces_clean : (line : List ℕ) → Clean (slice_split at_space line)
pieces_clean [] = (All-nil (λ b. b ≢ 32), tt)
pieces_clean (x ∷ line) = onto x (slice_split at_space line) (eqb x 32) refl (pieces_clean line)

kept_piece : (piece : List ℕ) (words : List (List ℕ)) (b : Bool) → eqb (length piece) 0 ≡ b → All (λ b. b ≢ 32) piece → AreWords words → AreWords (cond (not b) (piece ∷ words) words)
kept_piece piece words true e c h = h
kept_piece [] words false e c h = absurd cc
kept_piece (x ∷ piece) words false e c h = ((omega arith, c), h)

kept_pieces : (pieces : List (List ℕ)) → Clean pieces → AreWords (filter is_kept pieces)
kept_pieces [] c = tt
kept_pieces (piece ∷ pieces) c = kept_piece piece (filter is_kept pieces) (eqb (length piece) 0) refl c.0 (kept_pieces pieces c.1)

-- the words of a line meet the condition of words_spaced
pub own_words : (line : List ℕ) → AreWords (words_of line)
own_words line = kept_pieces (slice_split at_space line) (pieces_clean line)

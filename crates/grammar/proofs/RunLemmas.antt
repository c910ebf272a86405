-- The loop over the lines of a file.
use Rattle.std.proofs.Common.{◌≡◌, ℕ, ◌+◌, true, false, cond, List, [], ◌∷◌, ◌++◌, length, Result, Ok, Err, refl, sym, ap, ◌∙◌, inl, inr, append_assoc, length-append, arith}
use Rattle.std.proofs.lemmas.List.{nil_from_length}
use Rattle.update.specs.declared.refusal.Refusal.{Refusal}
use Rattle.update.specs.declared.refusal.Refusal.TheVariants.{BadOrder}
use Rattle.grammar.specs.declared.fault.LineError.{LineError}
use Rattle.grammar.specs.declared.fault.LineError.TheVariants as error
use Rattle.grammar.specs.Faults.{error_code}
use Rattle.grammar.specs.Outcomes.{◌>>=◌, Fails}
use Rattle.grammar.specs.Text.{lines_of}
use Rattle.grammar.specs.ScriptModels.{ScriptModel}
use Rattle.grammar.specs.ParseStates.{ParseState}
use Rattle.grammar.specs.Lines.{line_of}
use Rattle.grammar.specs.Scripts.{model_of, on_line, lines_from, parse_lines, first_parse_state, IsFault, IsReached}

step : (n : ℕ) (k : ParseState) (line : List ℕ) (lines : List (List ℕ)) → lines_from n k (line ∷ lines) ≡ on_line n (line_of n k line) (λ k. lines_from (n + 1) k lines)
unfolding lines_from
step n k line lines = refl

-- keeps the clause `exact` of take_lines over a line that is accepted
pub line_taken : (n : ℕ) (k next : ParseState) (line : List ℕ) (all lines : List (List ℕ)) (total : Result ScriptModel (ℕ × Refusal)) → all ≡ line ∷ lines → line_of n k line ≡ Ok next → lines_from n k all ≡ total → lines_from (n + 1) next lines ≡ total
line_taken n k next line all lines total parts e so_far =
    sym (ap (lines_from n k) parts ∙ step n k line lines ∙ ap (λ r. on_line n r (λ k. lines_from (n + 1) k lines)) e) ∙ so_far

-- answers take_lines if it returns at a refused line
pub line_wrong : (e : LineError) (n : ℕ) (k : ParseState) (line : List ℕ) (all lines : List (List ℕ)) (total : Result ScriptModel (ℕ × Refusal)) → all ≡ line ∷ lines → Fails e (line_of n k line) → lines_from n k all ≡ total → IsFault n (error_code e) total
line_wrong error.Memory n k line all lines total parts h so_far = inl refl
line_wrong (error.Refused refusal) n k line all lines total parts h so_far =
    inr (refusal, refl, sym so_far ∙ ap (lines_from n k) parts ∙ step n k line lines ∙ ap (λ r. on_line n r (λ k. lines_from (n + 1) k lines)) h)

-- an empty file has no lines
pub no_line : (bytes : List ℕ) → length bytes ≡ 0 → lines_of bytes ≡ []
no_line bytes e = ap lines_of (nil_from_length bytes e)

-- answers take_lines at the end of a file with a `start` line
pub all_taken : (n : ℕ) (k : ParseState) (bytes : List ℕ) (total : Result ScriptModel (ℕ × Refusal)) → length bytes ≡ 0 → k.started ≡ true → lines_from n k (lines_of bytes) ≡ total → total ≡ Ok (model_of k)
unfolding lines_from
all_taken n k bytes total e s so_far = sym so_far ∙ ap (lines_from n k) (no_line bytes e) ∙ ap (λ b. cond b (Ok (model_of k)) (Err (n, BadOrder))) s

-- answers take_lines at the end of a file without a `start` line
pub no_start : (n : ℕ) (k : ParseState) (bytes : List ℕ) (total : Result ScriptModel (ℕ × Refusal)) → length bytes ≡ 0 → k.started ≡ false → lines_from n k (lines_of bytes) ≡ total → IsFault n 34 total
unfolding lines_from
no_start n k bytes total e s so_far = inr (BadOrder, refl, sym so_far ∙ ap (lines_from n k) (no_line bytes e) ∙ ap (λ b. cond b (Ok (model_of k)) (Err (n, BadOrder))) s)

-- the parse state after more lines at the end
pub parse_lines-append : (n : ℕ) (k : ParseState) (before more : List (List ℕ)) → parse_lines n k (before ++ more) ≡ (parse_lines n k before >>= λ k. parse_lines (n + length before) k more)
parse_lines-append n k [] more = ap (λ (m : ℕ). parse_lines m k more) (omega arith)
parse_lines-append n k (line ∷ before) more =
    elim (line_of n k line) as (λ r. (r >>= λ k. parse_lines (n + 1) k (before ++ more)) ≡ ((r >>= λ k. parse_lines (n + 1) k before) >>= λ k. parse_lines (n + length (line ∷ before)) k more)) [
      | Ok next ↦ parse_lines-append (n + 1) next before more ∙ ap (λ (m : ℕ). parse_lines (n + 1) next before >>= λ k. parse_lines m k more) (omega arith)
      | Err refusal ↦ refl
    ]

-- the lines so far are in order, and this is the parse state after them
pub record Taken (all : List (List ℕ)) (n : ℕ) (k : ParseState) (rest : List (List ℕ)) : Type 0 where
  pub before : List (List ℕ)
  pub parts : all ≡ before ++ rest
  pub counted : n ≡ length before + 1
  pub in_order : parse_lines 1 first_parse_state before ≡ Ok k

-- begins the invariant of take_lines
pub none_taken : (all : List (List ℕ)) (k : ParseState) → k ≡ first_parse_state → Taken all 1 k all
none_taken all k e = record { before = []; parts = refl; counted = refl; in_order = ap (λ k. Ok k) (sym e) }

-- keeps the invariant of take_lines
pub one_more : (all : List (List ℕ)) (n : ℕ) (k next : ParseState) (line : List ℕ) (rest lines : List (List ℕ)) → rest ≡ line ∷ lines → line_of n k line ≡ Ok next → Taken all n k rest → Taken all (n + 1) next lines
one_more all n k next line rest lines parts e t = record {
  before = t.before ++ line ∷ [];
  parts = t.parts ∙ ap (λ ls. t.before ++ ls) parts ∙ sym (append_assoc t.before (line ∷ []) lines);
  counted = omega (arith, t.counted, length-append t.before (line ∷ []));
  in_order =
      parse_lines-append 1 first_parse_state t.before (line ∷ [])
      ∙ ap (λ (r : Result ParseState Refusal). r >>= λ k. parse_lines (1 + length t.before) k (line ∷ [])) t.in_order
      ∙ ap (λ (m : ℕ). parse_lines m k (line ∷ [])) number
      ∙ ap (λ (r : Result ParseState Refusal). r >>= λ k. Ok k) e;
}
  where
    number : 1 + length t.before ≡ n
    number = omega (arith, t.counted)

-- answers the clause `reached` of take_lines
pub reached : (all : List (List ℕ)) (n : ℕ) (k : ParseState) (rest : List (List ℕ)) → Taken all n k rest → IsReached all n
reached all n k rest t = (t.before, rest, k, t.parts, t.counted, t.in_order)

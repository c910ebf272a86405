-- The fault of a file is its first one, and a script holds exactly what its lines have said.
use Rattle.std.proofs.Common.{◌≡◌, ℕ, ◌+◌, ◌<◌, ◌≤◌, Bool, true, false, cond, ◌⊎◌, inl, inr, List, [], ◌∷◌, ◌++◌, length, Result, Ok, Err, refl, sym, ap, ◌∙◌, arith}
use Rattle.std.proofs.lemmas.List.{append-nil}
use Rattle.update.specs.declared.refusal.Refusal.{Refusal}
use Rattle.update.specs.declared.refusal.Refusal.TheVariants.{BadOrder}
use Rattle.grammar.specs.Outcomes.{◌>>=◌}
use Rattle.grammar.specs.ParseStates.{ParseState}
use Rattle.grammar.specs.Lines.{line_of}
use Rattle.grammar.specs.ScriptModels.{ScriptModel}
use Rattle.grammar.proofs.StepLemmas.{accepted, refused, same_ok}
use Rattle.grammar.specs.Scripts.{model_of, on_line, lines_from, parse_lines, first_parse_state, IsScript, IsFirstFault}

-- a fault as a result, with its types written out
abbrev pub made : ℕ → Refusal → Result ScriptModel (ℕ × Refusal)
made n refusal = Err (n, refusal)

-- a script as a result, with its types written out
abbrev pub parsed_script : ScriptModel → Result ScriptModel (ℕ × Refusal)
parsed_script t = Ok t

abbrev at : ℕ → Refusal → ℕ × Refusal
at n refusal = (n, refusal)

same_fault : (m n : ℕ) (v w : Refusal) → made m v ≡ made n w → (m ≡ n) × (v ≡ w)
same_fault m n v w e = let p : at m v ≡ at n w = cc in (ap (λ (x : ℕ × Refusal). x.0) p, ap (λ (x : ℕ × Refusal). x.1) p)

-- splits a proof by whether a line is accepted
pub outcome : (r : Result ParseState Refusal) → ((k : ParseState) × (r ≡ Ok k)) ⊎ ((refusal : Refusal) × (r ≡ Err refusal))
outcome (Ok k) = inl (k, refl)
outcome (Err refusal) = inr (refusal, refl)

-- the step of `lines_from` over an accepted line
pub taken : (n : ℕ) (k next : ParseState) (line : List ℕ) (lines : List (List ℕ)) → line_of n k line ≡ Ok next → lines_from n k (line ∷ lines) ≡ lines_from (n + 1) next lines
unfolding lines_from
taken n k next line lines e = ap (λ r. on_line n r (λ k. lines_from (n + 1) k lines)) e

-- the step of `lines_from` over a refused line
pub stopped : (n : ℕ) (k : ParseState) (refusal : Refusal) (line : List ℕ) (lines : List (List ℕ)) → line_of n k line ≡ Err refusal → lines_from n k (line ∷ lines) ≡ made n refusal
unfolding lines_from
stopped n k refusal line lines e = ap (λ r. on_line n r (λ k. lines_from (n + 1) k lines)) e

-- the result of `lines_from` when no line is left
pub ended : (n : ℕ) (k : ParseState) → lines_from n k [] ≡ cond k.started (parsed_script (model_of k)) (made n BadOrder)
unfolding lines_from
ended n k = refl

-- if some lines are in order, the result is that of the lines after them
pub lines_from-parse_lines : (n : ℕ) (k next : ParseState) (before lines : List (List ℕ)) → parse_lines n k before ≡ Ok next → lines_from n k (before ++ lines) ≡ lines_from (n + length before) next lines
lines_from-parse_lines n k next [] lines e = let same = same_ok k next e in ap (λ k. lines_from n k lines) same ∙ ap (λ (m : ℕ). lines_from m next lines) (omega arith)
lines_from-parse_lines n k next (line ∷ before) lines e =
    elim (outcome (line_of n k line)) [
      | inl good ↦
          let more : parse_lines (n + 1) good.0 before ≡ Ok next = sym (ap (λ (r : Result ParseState Refusal). r >>= λ k. parse_lines (n + 1) k before) good.1) ∙ e in
          taken n k good.0 line (before ++ lines) good.1 ∙ lines_from-parse_lines (n + 1) good.0 next before lines more ∙ ap (λ (m : ℕ). lines_from m next lines) (omega arith)
      | inr bad ↦
          let no : refused bad.0 ≡ accepted next = sym (ap (λ (r : Result ParseState Refusal). r >>= λ k. parse_lines (n + 1) k before) bad.1) ∙ e in
          absurd cc
    ]

-- the script at the end of lines with a `start`
pub whole : (b : Bool) (k : ParseState) (n : ℕ) (t : ScriptModel) → cond b (parsed_script (model_of k)) (made n BadOrder) ≡ parsed_script t → (b ≡ true) × (model_of k ≡ t)
whole true k n t e = (refl, cc)
whole false k n t e = absurd cc

unstarted : (b : Bool) (k : ParseState) (m n : ℕ) (refusal : Refusal) → cond b (parsed_script (model_of k)) (made m BadOrder) ≡ made n refusal → (b ≡ false) × (m ≡ n) × (BadOrder ≡ refusal)
unstarted true k m n refusal e = absurd cc
unstarted false k m n refusal e = let p = same_fault m n BadOrder refusal e in (refl, p.0, p.1)

script_from : (m : ℕ) (k : ParseState) (lines : List (List ℕ)) (t : ScriptModel) → lines_from m k lines ≡ parsed_script t → (last : ParseState) × (parse_lines m k lines ≡ Ok last) × (last.started ≡ true) × (model_of last ≡ t)
script_from m k [] t e = let h = whole k.started k m t (sym (ended m k) ∙ e) in (k, refl, h.0, h.1)
script_from m k (line ∷ lines) t e =
    elim (outcome (line_of m k line)) [
      | inl good ↦
          let h = script_from (m + 1) good.0 lines t (sym (taken m k good.0 line lines good.1) ∙ e) in
          (h.0, ap (λ (r : Result ParseState Refusal). r >>= λ k. parse_lines (m + 1) k lines) good.1 ∙ h.1, h.2, h.3)
      | inr bad ↦ let no : made m bad.0 ≡ parsed_script t = sym (stopped m k bad.0 line lines bad.1) ∙ e in absurd cc
    ]

-- the first fault of lines, of which the first has number m
abbrev IsFaultFrom : ℕ → ParseState → List (List ℕ) → ℕ → Refusal → Type 0
IsFaultFrom m k lines n refusal =
    ((before : List (List ℕ)) × (line : List ℕ) × (rest : List (List ℕ)) × (last : ParseState) × (lines ≡ before ++ line ∷ rest) × (n ≡ m + length before) × (parse_lines m k before ≡ Ok last) × (line_of n last line ≡ Err refusal))
    ⊎ ((last : ParseState) × (n ≡ m + length lines) × (parse_lines m k lines ≡ Ok last) × (last.started ≡ false) × (refusal ≡ BadOrder))

fault_from : (m : ℕ) (k : ParseState) (lines : List (List ℕ)) (n : ℕ) (refusal : Refusal) → lines_from m k lines ≡ made n refusal → IsFaultFrom m k lines n refusal
fault_from m k [] n refusal e = let h = unstarted k.started k m n refusal (sym (ended m k) ∙ e) in inr (k, omega (arith, h.1), refl, h.0, sym h.2)
fault_from m k (line ∷ lines) n refusal e =
    elim (outcome (line_of m k line)) [
      | inl good ↦
          elim (fault_from (m + 1) good.0 lines n refusal (sym (taken m k good.0 line lines good.1) ∙ e)) [
            | inl h ↦ inl (line ∷ h.0, h.1, h.2, h.3, ap (λ (ls : List (List ℕ)). line ∷ ls) h.4, omega (arith, h.5), ap (λ (r : Result ParseState Refusal). r >>= λ k. parse_lines (m + 1) k h.0) good.1 ∙ h.6, h.7)
            | inr h ↦ inr (h.0, omega (arith, h.1), ap (λ (r : Result ParseState Refusal). r >>= λ k. parse_lines (m + 1) k lines) good.1 ∙ h.2, h.3, h.4)
          ]
      | inr bad ↦
          let p = same_fault m n bad.0 refusal (sym (stopped m k bad.0 line lines bad.1) ∙ e) in
          inl ([], line, lines, k, refl, omega (arith, p.0), refl, ap (λ (i : ℕ). line_of i k line) (sym p.0) ∙ bad.1 ∙ ap (λ (w : Refusal). Err w) p.1)
    ]

-- answers the clause `script` of first_faults_decide, from left to right
pub script_found : (lines : List (List ℕ)) (t : ScriptModel) → lines_from 1 first_parse_state lines ≡ Ok t → IsScript lines t
script_found lines t e = script_from 1 first_parse_state lines t e

-- answers the clause `script` of first_faults_decide, from right to left
pub script_again : (lines : List (List ℕ)) (t : ScriptModel) → IsScript lines t → lines_from 1 first_parse_state lines ≡ Ok t
script_again lines t s =
    ap (lines_from 1 first_parse_state) (sym (append-nil lines)) ∙ lines_from-parse_lines 1 first_parse_state s.0 lines [] s.1 ∙ ended (1 + length lines) s.0
    ∙ ap (λ b. cond b (parsed_script (model_of s.0)) (made (1 + length lines) BadOrder)) s.2 ∙ ap parsed_script s.3

-- answers the clause `fault` of first_faults_decide, from left to right
pub fault_found : (lines : List (List ℕ)) (n : ℕ) (refusal : Refusal) → lines_from 1 first_parse_state lines ≡ Err (n, refusal) → IsFirstFault lines n refusal
fault_found lines n refusal e =
    elim (fault_from 1 first_parse_state lines n refusal e) [
      | inl h ↦ inl (h.0, h.1, h.2, h.3, h.4, omega (arith, h.5), h.6, h.7)
      | inr h ↦ inr (h.0, omega (arith, h.1), h.2, h.3, h.4)
    ]

-- answers the clause `fault` of first_faults_decide, from right to left
pub fault_again : (lines : List (List ℕ)) (n : ℕ) (refusal : Refusal) → IsFirstFault lines n refusal → lines_from 1 first_parse_state lines ≡ Err (n, refusal)
fault_again lines n refusal (inl h) =
    let number : 1 + length h.0 ≡ n = omega (arith, h.5) in
    ap (lines_from 1 first_parse_state) h.4 ∙ lines_from-parse_lines 1 first_parse_state h.3 h.0 (h.1 ∷ h.2) h.6
    ∙ ap (λ (m : ℕ). lines_from m h.3 (h.1 ∷ h.2)) number ∙ stopped n h.3 refusal h.1 h.2 h.7
fault_again lines n refusal (inr h) =
    let number : 1 + length lines ≡ n = omega (arith, h.1) in
    ap (lines_from 1 first_parse_state) (sym (append-nil lines)) ∙ lines_from-parse_lines 1 first_parse_state h.0 lines [] h.2 ∙ ended (1 + length lines) h.0
    ∙ ap (λ b. cond b (parsed_script (model_of h.0)) (made (1 + length lines) BadOrder)) h.3
    ∙ ap (λ (m : ℕ). made m BadOrder) number ∙ ap (made n) (sym h.4)

-- a fault is not on a line before those that are read
no_earlier : (n : ℕ) (refusal : Refusal) (m : ℕ) (k : ParseState) (lines : List (List ℕ)) → lines_from m k lines ≡ made n refusal → m ≤ n
no_earlier n refusal m k lines h = elim (fault_from m k lines n refusal h) [ inl f ↦ omega (arith, f.5) | inr f ↦ omega (arith, f.1) ]

later : (more other : List (List ℕ)) (n : ℕ) (refusal : Refusal) (m : ℕ) (k : ParseState) (before : List (List ℕ)) → n < m + length before → lines_from m k (before ++ more) ≡ made n refusal → lines_from m k (before ++ other) ≡ made n refusal
later more other n refusal m k [] l h = absurd (let le = no_earlier n refusal m k more h in omega arith)
later more other n refusal m k (line ∷ before) l h =
    elim (outcome (line_of m k line)) [
      | inl good ↦ taken m k good.0 line (before ++ other) good.1 ∙ later more other n refusal (m + 1) good.0 before (omega (arith, l)) (sym (taken m k good.0 line (before ++ more) good.1) ∙ h)
      | inr bad ↦ stopped m k bad.0 line (before ++ other) bad.1 ∙ sym (stopped m k bad.0 line (before ++ more) bad.1) ∙ h
    ]

-- a fault in the first lines does not depend on the lines that follow
pub later_lines : (before more other : List (List ℕ)) (n : ℕ) (refusal : Refusal) → n ≤ length before → lines_from 1 first_parse_state (before ++ more) ≡ Err (n, refusal) → lines_from 1 first_parse_state (before ++ other) ≡ Err (n, refusal)
later_lines before more other n refusal l e = later more other n refusal 1 first_parse_state before (omega (arith, l)) e

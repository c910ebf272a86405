-- If the printed lines of a parse state are read, the same parse state comes out.
use Rattle.std.proofs.Common.{◌≡◌, ℕ, ◌+◌, Bool, true, false, not, cond, List, [], ◌∷◌, ◌++◌, map, Result, Ok, inl, inr, refl, sym, ap, ap₂, subst, ◌∙◌, codes, append_assoc}
use Rattle.std.proofs.lemmas.List.{append-nil, map-append}
use Rattle.update.specs.declared.refusal.Refusal.{Refusal}
use Rattle.update.specs.declared.refusal.Refusal.TheVariants.{BadOrder}
use Rattle.grammar.specs.declared.command.CommandLine.{CommandLine}
use Rattle.grammar.specs.declared.keyword.Keyword.{Keyword}
use Rattle.grammar.specs.declared.keyword.Keyword.TheVariants as keyword
use Rattle.grammar.specs.Outcomes.{◌>>=◌}
use Rattle.grammar.specs.Text.{lines_of, words_of, opens_comment}
use Rattle.grammar.specs.ScriptModels.{ScriptModel}
use Rattle.grammar.specs.ParseStates.{ParseState}
use Rattle.grammar.specs.Lines.{is_declaring, opening, keyword_line, words_line, line_of}
use Rattle.grammar.specs.Scripts.{model_of, lines_from, script_of, first_parse_state}
use Rattle.grammar.specs.Spelling.{node_words, command_words, plan_words, Declares, Starts, Asks, Says, script_lines, read_lines, IsReadAgain}
use Rattle.grammar.proofs.StepLemmas.{same_ok, bind_ok, opening_ok}
use Rattle.grammar.proofs.FaultLemmas.{made, parsed_script, outcome, taken, stopped, ended}
use Rattle.grammar.proofs.LineLemmas.{line_ok, words_say}
use Rattle.grammar.proofs.ScriptLemmas.{IsConsistent, nothing_stands, says_stands, plan_words-push}

abbrev Numbered : Type 0
Numbered = ℕ × List (List ℕ)

-- before `start`, the meaning of a line does not depend on its number
early_number : (n m : ℕ) (k : ParseState) (found : Keyword) (words : List (List ℕ)) → cond (is_declaring found) false true ≡ false → keyword_line n k found words ≡ keyword_line m k found words
early_number n m k keyword.Input words e = refl
early_number n m k keyword.Node words e = refl
early_number n m k keyword.View words e = refl
early_number n m k keyword.Start words e = refl
early_number n m k keyword.Change words e = absurd cc
early_number n m k keyword.Advance words e = absurd cc
early_number n m k keyword.Close words e = absurd cc
early_number n m k keyword.Allow words e = absurd cc
early_number n m k keyword.Read words e = absurd cc
early_number n m k keyword.Changes words e = absurd cc
early_number n m k keyword.Frontier words e = absurd cc

any_number : (n m : ℕ) (k next : ParseState) (words : List (List ℕ)) → k.started ≡ false → words_line n k words ≡ Ok next → words_line m k words ≡ Ok next
unfolding words_line
any_number n m k next [] early e = e
any_number n m k next (first ∷ words) early e = by (opens_comment first) e
  where
    by : (b : Bool) → cond b (Ok k) (opening k first >>= λ keyword. keyword_line n k keyword words) ≡ Ok next → cond b (Ok k) (opening k first >>= λ keyword. keyword_line m k keyword words) ≡ Ok next
    by true h = h
    by false h =
        let a = bind_ok (opening k first) (λ keyword. keyword_line n k keyword words) next h in
        let o = opening_ok k first a.0 a.1 in
        let is : cond (is_declaring a.0) false true ≡ false = subst (λ (s : Bool). cond (is_declaring a.0) s (not s) ≡ false) early o.1 in
        ap (λ (r : Result Keyword Refusal). r >>= λ keyword. keyword_line m k keyword words) a.1 ∙ sym (early_number n m k a.0 words is) ∙ a.2

-- reading one more line at the end
read_push : (k last next : ParseState) (lines : List Numbered) (n : ℕ) (words : List (List ℕ)) → read_lines k lines ≡ Ok last → words_line n last words ≡ Ok next → read_lines k (lines ++ (n, words) ∷ []) ≡ Ok next
read_push k last next [] n words e f =
    let same = same_ok k last e in
    ap (λ (k : ParseState). words_line n k words >>= λ k. Ok k) same ∙ ap (λ (r : Result ParseState Refusal). r >>= λ k. Ok k) f
read_push k last next (line ∷ lines) n words e f =
    let a = bind_ok (words_line line.0 k line.1) (λ k. read_lines k lines) last e in
    ap (λ (r : Result ParseState Refusal). r >>= λ k. read_lines k (lines ++ (n, words) ∷ [])) a.1 ∙ read_push a.0 last next lines n words a.2 f

module _ (any : ℕ) where
  abbrev early_line : List (List ℕ) → Numbered
  early_line words = (any, words)

  abbrev command_line : List (List ℕ) → CommandLine → Numbered
  command_line names line = (line.line, command_words names line.command)

  -- the printed lines of `start` and of the commands, if `start` has come
  abbrev late_lines : Bool → List (List ℕ) → List CommandLine → List Numbered
  late_lines false names commands = []
  late_lines true names commands = (any, codes "start" ∷ []) ∷ map (command_line names) commands

  abbrev known_lines : ParseState → List Numbered
  known_lines k = map early_line (plan_words [] k.names k.plan) ++ late_lines k.started k.names k.commands

  abbrev Again : ParseState → Type 0
  Again k = read_lines first_parse_state (known_lines k) ≡ Ok k

  before_start : (k : ParseState) → k.started ≡ false → known_lines k ≡ map early_line (plan_words [] k.names k.plan)
  before_start k early = ap (λ b. map early_line (plan_words [] k.names k.plan) ++ late_lines b k.names k.commands) early ∙ append-nil (map early_line (plan_words [] k.names k.plan))

  declared_lines : (k next : ParseState) (words : List (List ℕ)) → IsConsistent k → Declares k words next → known_lines k ++ (any, words) ∷ [] ≡ known_lines next
  declared_lines k next words s d =
      ap (λ (ls : List Numbered). ls ++ (any, words) ∷ []) (before_start k d.is_early)
      ∙ ap (λ (ws : List (List ℕ)). map early_line (plan_words [] k.names k.plan) ++ (any, ws) ∷ []) d.words_are
      ∙ sym (map-append early_line (plan_words [] k.names k.plan) (node_words k.names d.name d.node ∷ []))
      ∙ ap (map early_line) (sym (plan_words-push [] k.names k.plan d.name d.node s.named))
      ∙ sym (before_start (record { names = k.names ++ d.name ∷ []; plan = k.plan ++ d.node ∷ []; started = k.started; commands = k.commands }) d.is_early)
      ∙ ap known_lines (sym d.next_is)

  started_lines : (k next : ParseState) (words : List (List ℕ)) → IsConsistent k → Starts k words next → known_lines k ++ (any, words) ∷ [] ≡ known_lines next
  started_lines k next words s d =
      ap (λ (ls : List Numbered). ls ++ (any, words) ∷ []) (before_start k d.is_early)
      ∙ ap (λ (ws : List (List ℕ)). map early_line (plan_words [] k.names k.plan) ++ (any, ws) ∷ []) d.words_are
      ∙ ap (λ (commands : List CommandLine). map early_line (plan_words [] k.names k.plan) ++ late_lines true k.names commands) (sym (s.asked_late d.is_early))
      ∙ ap known_lines (sym d.next_is)

  asked_lines : (n : ℕ) (k next : ParseState) (words : List (List ℕ)) → Asks n k words next → known_lines k ++ (n, words) ∷ [] ≡ known_lines next
  asked_lines n k next words a =
      let line : CommandLine = record { line = n; command = a.command } in
      ap₂ (λ b (ws : List (List ℕ)). (map early_line (plan_words [] k.names k.plan) ++ late_lines b k.names k.commands) ++ (n, ws) ∷ []) a.is_late a.words_are
      ∙ append_assoc (map early_line (plan_words [] k.names k.plan)) (late_lines true k.names k.commands) (command_line k.names line ∷ [])
      ∙ ap (λ (ls : List Numbered). map early_line (plan_words [] k.names k.plan) ++ (any, codes "start" ∷ []) ∷ ls) (sym (map-append (command_line k.names) k.commands (line ∷ [])))
      ∙ ap (λ b. map early_line (plan_words [] k.names k.plan) ++ late_lines b k.names (k.commands ++ line ∷ [])) (sym a.is_late)
      ∙ ap known_lines (sym a.next_is)

  said_again : (n : ℕ) (k next : ParseState) (words : List (List ℕ)) → IsConsistent k → Again k → words_line n k words ≡ Ok next → Says n k words next → Again next
  said_again n k next words s again e (inl h) = subst Again (sym h.next_is) again
  said_again n k next words s again e (inr (inl h)) = ap (read_lines first_parse_state) (sym (declared_lines k next words s h)) ∙ read_push first_parse_state k next (known_lines k) any words again (any_number n any k next words h.is_early e)
  said_again n k next words s again e (inr (inr (inl h))) = ap (read_lines first_parse_state) (sym (started_lines k next words s h)) ∙ read_push first_parse_state k next (known_lines k) any words again (any_number n any k next words h.is_early e)
  said_again n k next words s again e (inr (inr (inr h))) = ap (read_lines first_parse_state) (sym (asked_lines n k next words h)) ∙ read_push first_parse_state k next (known_lines k) n words again e

  at_end : (n : ℕ) (k : ParseState) (t : ScriptModel) → Again k → cond k.started (parsed_script (model_of k)) (made n BadOrder) ≡ parsed_script t → IsReadAgain any t
  at_end n k t again e = by k.started refl e
    where
      same : parsed_script (model_of k) ≡ parsed_script t → model_of k ≡ t
      same h = cc

      by : (b : Bool) → k.started ≡ b → cond b (parsed_script (model_of k)) (made n BadOrder) ≡ parsed_script t → IsReadAgain any t
      by true started h =
          let printed : known_lines k ≡ script_lines any (model_of k) = ap (λ b. map early_line (plan_words [] k.names k.plan) ++ late_lines b k.names k.commands) started in
          (k, ap (read_lines first_parse_state) (ap (script_lines any) (sym (same h)) ∙ sym printed) ∙ again, started, same h)
      by false started h = absurd cc

  again_from : (n : ℕ) (k : ParseState) (lines : List (List ℕ)) (t : ScriptModel) → IsConsistent k → Again k → lines_from n k lines ≡ Ok t → IsReadAgain any t
  again_from n k [] t s again e = at_end n k t again (sym (ended n k) ∙ e)
  again_from n k (line ∷ lines) t s again e =
      elim (outcome (line_of n k line)) [
        | inl good ↦
            let words = (line_ok n k good.0 line good.1).1 in
            let says = words_say n k good.0 (words_of line) words in
            again_from (n + 1) good.0 lines t (says_stands n k good.0 (words_of line) s says) (said_again n k good.0 (words_of line) s again words says) (sym (taken n k good.0 line lines good.1) ∙ e)
        | inr bad ↦ let no : made n bad.0 ≡ parsed_script t = sym (stopped n k bad.0 line lines bad.1) ∙ e in absurd cc
      ]

-- answers the clause `again` of scripts_are_spelled
pub script_again : (bytes : List ℕ) (t : ScriptModel) (any : ℕ) → script_of bytes ≡ Ok t → IsReadAgain any t
script_again bytes t any e = again_from any 1 first_parse_state (lines_of bytes) t nothing_stands refl e

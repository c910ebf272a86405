-- What holds of every parsed script: each node has a name, each command is about a node of the kind
-- that it needs, and its printed words are those of its lines.
use Rattle.std.proofs.Common.{◌≡◌, ℕ, ◌+◌, ◌<◌, Bool, true, false, not, ◌&&◌, cond, ltb, ltb-true, lt-ltb, IsTrue, List, [], ◌∷◌, ◌++◌, length, map, Ok, inl, inr, refl, sym, ap, ap₂, subst, ◌∙◌, arith, codes, append_assoc, length-append}
use Rattle.std.specs.List.{All, filter}
use Rattle.std.proofs.lemmas.Bool.{and_parts, and_from}
use Rattle.std.proofs.lemmas.List.{append-nil, map-append}
use Rattle.std.proofs.lemmas.List.Elements.{All-nil, All-push, All-weaker}
use Rattle.update.specs.declared.refusal.Refusal.TheVariants.{BadOrder}
use Rattle.plan.specs.Nodes.{node_at, is_input, is_output}
use Rattle.plan.specs.declared.node.Node.{Node}
use Rattle.plan.proofs.PlanLemmas.{node_before_more}
use Rattle.grammar.specs.declared.command.Command.{Command}
use Rattle.grammar.specs.declared.command.Command.TheVariants as command
use Rattle.grammar.specs.declared.command.InputCommand.TheVariants.{Change, Advance, Close}
use Rattle.grammar.specs.declared.command.ViewCommand.TheVariants.{Read, Changes, Frontier}
use Rattle.grammar.specs.declared.command.CommandLine.{CommandLine}
use Rattle.grammar.specs.Commands.{IsAbout, changed_input, asked_view}
use Rattle.grammar.specs.Text.{lines_of, words_of, is_skipped}
use Rattle.grammar.specs.ScriptModels.{ScriptModel, IsWhole}
use Rattle.grammar.specs.ParseStates.{ParseState}
use Rattle.grammar.specs.Lines.{line_of}
use Rattle.grammar.specs.Scripts.{model_of, lines_from, script_of, first_parse_state}
use Rattle.grammar.specs.Spelling.{node_words, command_words, plan_words, script_words, kept_words, Declares, Starts, Asks, Says}
use Rattle.grammar.proofs.FaultLemmas.{made, parsed_script, outcome, taken, stopped, ended}
use Rattle.grammar.proofs.LineLemmas.{line_says}

-- if a plan grows, the nodes that it had stay the same
within_more : (test : Node → Bool) (p more : List Node) (n : ℕ) → IsTrue (ltb n (length p) && test (node_at p n)) → IsTrue (ltb n (length (p ++ more)) && test (node_at (p ++ more) n))
within_more test p more n h =
    let parts = and_parts _ _ h in
    let lt : n < length p = ltb-true _ _ parts.0 in
    and_from _ _ (lt-ltb _ _ (let s = length-append p more in omega arith)) (ap test (node_before_more p more n lt) ∙ parts.1)

about_more : (p more : List Node) (command : Command) → IsAbout p command → IsAbout (p ++ more) command
about_more p more (command.Input change) h = within_more is_input p more (changed_input change) h
about_more p more (command.Allow view ts) h = within_more is_output p more view h
about_more p more (command.View question) h = within_more is_output p more (asked_view question) h

-- what holds of the parse state after each line
pub record IsConsistent (k : ParseState) : Type 0 where
  pub named : length k.names ≡ length k.plan
  pub about : All (λ line. IsAbout k.plan line.command) k.commands
  pub asked_late : k.started ≡ false → k.commands ≡ []

-- begins the inductions over the lines of a script
pub nothing_stands : IsConsistent first_parse_state
nothing_stands = record { named = refl; about = All-nil (λ (line : CommandLine). IsAbout [] line.command); asked_late = λ e. refl }

declared_stands : (k next : ParseState) (words : List (List ℕ)) → IsConsistent k → Declares k words next → IsConsistent next
declared_stands k next words s d = subst IsConsistent (sym d.next_is) (record {
  named = (let a = length-append k.names (d.name ∷ []) in let b = length-append k.plan (d.node ∷ []) in let e = s.named in omega arith);
  about = All-weaker (λ (line : CommandLine). IsAbout k.plan line.command) (λ line. IsAbout (k.plan ++ d.node ∷ []) line.command) (λ line h. about_more k.plan (d.node ∷ []) line.command h) k.commands s.about;
  asked_late = s.asked_late;
})

asked_stands : (n : ℕ) (k next : ParseState) (words : List (List ℕ)) → IsConsistent k → Asks n k words next → IsConsistent next
asked_stands n k next words s a = subst IsConsistent (sym a.next_is) (record {
  named = s.named;
  about = All-push (λ (line : CommandLine). IsAbout k.plan line.command) k.commands (record { line = n; command = a.command }) s.about a.is_about;
  asked_late = λ e. (let no : true ≡ false = sym a.is_late ∙ e in absurd cc);
})

-- every accepted line keeps IsConsistent
pub says_stands : (n : ℕ) (k next : ParseState) (words : List (List ℕ)) → IsConsistent k → Says n k words next → IsConsistent next
says_stands n k next words s (inl h) = subst IsConsistent (sym h.next_is) s
says_stands n k next words s (inr (inl h)) = declared_stands k next words s h
says_stands n k next words s (inr (inr (inl h))) = subst IsConsistent (sym h.next_is) (record { named = s.named; about = s.about; asked_late = λ e. absurd (no e) })
  where
    no : true ≡ false → ⊥
    no e = absurd cc
says_stands n k next words s (inr (inr (inr h))) = asked_stands n k next words s h

-- the printed words of `start` and of the commands, if `start` has come
abbrev late_words : Bool → List (List ℕ) → List CommandLine → List (List (List ℕ))
late_words false names commands = []
late_words true names commands = (codes "start" ∷ []) ∷ map (λ (line : CommandLine). command_words names line.command) commands

abbrev known_words : ParseState → List (List (List ℕ))
known_words k = plan_words [] k.names k.plan ++ late_words k.started k.names k.commands

-- the printed words of the nodes, with one more node at the end
pub plan_words-push : (before names : List (List ℕ)) (nodes : List Node) (name : List ℕ) (node : Node) → length names ≡ length nodes
    → plan_words before (names ++ name ∷ []) (nodes ++ node ∷ []) ≡ plan_words before names nodes ++ node_words (before ++ names) name node ∷ []
plan_words-push before [] [] name node e = ap (λ (names : List (List ℕ)). node_words names name node ∷ []) (sym (append-nil before))
plan_words-push before [] (other ∷ nodes) name node e = absurd (omega (arith, e))
plan_words-push before (other ∷ names) [] name node e = absurd (omega (arith, e))
plan_words-push before (own ∷ names) (other ∷ nodes) name node e =
    ap (λ (ws : List (List (List ℕ))). node_words before own other ∷ ws)
    (plan_words-push (before ++ own ∷ []) names nodes name node (omega (arith, e))
    ∙ ap (λ (all : List (List ℕ)). plan_words (before ++ own ∷ []) names nodes ++ node_words all name node ∷ []) (append_assoc before (own ∷ []) names))

-- the words of one more line, or nothing if it is skipped
abbrev one : List (List ℕ) → List (List (List ℕ))
one words = filter (λ ws. not (is_skipped ws)) (words ∷ [])

kept_one : (words : List (List ℕ)) → is_skipped words ≡ false → one words ≡ words ∷ []
kept_one words e = ap (λ b. cond (not b) (words ∷ []) []) e

skipped_one : (words : List (List ℕ)) → IsTrue (is_skipped words) → one words ≡ []
skipped_one words e = ap (λ b. cond (not b) (words ∷ []) []) e

declared_words : (k next : ParseState) (words : List (List ℕ)) → IsConsistent k → Declares k words next → known_words k ++ one words ≡ known_words next
declared_words k next words s d =
    ap₂ (λ (late ws : List (List (List ℕ))). (plan_words [] k.names k.plan ++ late) ++ ws) (ap (λ b. late_words b k.names k.commands) d.is_early) (kept_one words d.is_kept ∙ ap (λ (ws : List (List ℕ)). ws ∷ []) d.words_are)
    ∙ ap (λ (ws : List (List (List ℕ))). ws ++ node_words k.names d.name d.node ∷ []) (append-nil (plan_words [] k.names k.plan))
    ∙ sym (plan_words-push [] k.names k.plan d.name d.node s.named)
    ∙ sym (append-nil (plan_words [] (k.names ++ d.name ∷ []) (k.plan ++ d.node ∷ [])))
    ∙ ap (λ b. plan_words [] (k.names ++ d.name ∷ []) (k.plan ++ d.node ∷ []) ++ late_words b (k.names ++ d.name ∷ []) k.commands) (sym d.is_early)
    ∙ ap known_words (sym d.next_is)

started_words : (k next : ParseState) (words : List (List ℕ)) → IsConsistent k → Starts k words next → known_words k ++ one words ≡ known_words next
started_words k next words s d =
    ap₂ (λ (late ws : List (List (List ℕ))). (plan_words [] k.names k.plan ++ late) ++ ws) (ap (λ b. late_words b k.names k.commands) d.is_early) (ap one d.words_are)
    ∙ ap (λ (ws : List (List (List ℕ))). ws ++ (codes "start" ∷ []) ∷ []) (append-nil (plan_words [] k.names k.plan))
    ∙ ap (λ (commands : List CommandLine). plan_words [] k.names k.plan ++ late_words true k.names commands) (sym (s.asked_late d.is_early))
    ∙ ap known_words (sym d.next_is)

is_command : (names : List (List ℕ)) (command : Command) → is_skipped (command_words names command) ≡ false
is_command names (command.Input (Change input time diff row)) = refl
is_command names (command.Input (Advance input ts)) = refl
is_command names (command.Input (Close input)) = refl
is_command names (command.Allow view ts) = refl
is_command names (command.View (Read view time)) = refl
is_command names (command.View (Changes view)) = refl
is_command names (command.View (Frontier view)) = refl

asked_words : (n : ℕ) (k next : ParseState) (words : List (List ℕ)) → Asks n k words next → known_words k ++ one words ≡ known_words next
asked_words n k next words a =
    let spelled = command_words k.names a.command in
    let line : CommandLine = record { line = n; command = a.command } in
    ap₂ (λ (late ws : List (List (List ℕ))). (plan_words [] k.names k.plan ++ late) ++ ws) (ap (λ b. late_words b k.names k.commands) a.is_late) (ap one a.words_are ∙ kept_one spelled (is_command k.names a.command))
    ∙ append_assoc (plan_words [] k.names k.plan) (late_words true k.names k.commands) (spelled ∷ [])
    ∙ ap (λ (ws : List (List (List ℕ))). plan_words [] k.names k.plan ++ (codes "start" ∷ []) ∷ ws) (sym (map-append (λ (line : CommandLine). command_words k.names line.command) k.commands (line ∷ [])))
    ∙ ap (λ b. plan_words [] k.names k.plan ++ late_words b k.names (k.commands ++ line ∷ [])) (sym a.is_late)
    ∙ ap known_words (sym a.next_is)

says_words : (n : ℕ) (k next : ParseState) (words : List (List ℕ)) → IsConsistent k → Says n k words next → known_words k ++ one words ≡ known_words next
says_words n k next words s (inl h) = ap (λ (ws : List (List (List ℕ))). known_words k ++ ws) (skipped_one words h.skipped) ∙ append-nil (known_words k) ∙ ap known_words (sym h.next_is)
says_words n k next words s (inr (inl h)) = declared_words k next words s h
says_words n k next words s (inr (inr (inl h))) = started_words k next words s h
says_words n k next words s (inr (inr (inr h))) = asked_words n k next words h

-- a script that was parsed from these lines, beginning in the parse state k
record Read_from (k : ParseState) (lines : List (List ℕ)) (t : ScriptModel) : Type 0 where
  whole : IsWhole t
  words : known_words k ++ kept_words lines ≡ script_words t

at_end : (n : ℕ) (k : ParseState) (t : ScriptModel) → IsConsistent k → cond k.started (parsed_script (model_of k)) (made n BadOrder) ≡ parsed_script t → Read_from k [] t
at_end n k t s e = by k.started refl e
  where
    same : parsed_script (model_of k) ≡ parsed_script t → model_of k ≡ t
    same h = cc

    by : (b : Bool) → k.started ≡ b → cond b (parsed_script (model_of k)) (made n BadOrder) ≡ parsed_script t → Read_from k [] t
    by true started h = record {
      whole = subst IsWhole (same h) (record { named = s.named; about = s.about });
      words = append-nil (known_words k) ∙ ap (λ b. plan_words [] k.names k.plan ++ late_words b k.names k.commands) started ∙ ap script_words (same h);
    }
    by false started h = absurd cc

kept_first : (line : List ℕ) (lines : List (List ℕ)) → kept_words (line ∷ lines) ≡ one (words_of line) ++ kept_words lines
kept_first line lines = by (is_skipped (words_of line))
  where
    by : (b : Bool) → cond (not b) (words_of line ∷ kept_words lines) (kept_words lines) ≡ cond (not b) (words_of line ∷ []) [] ++ kept_words lines
    by true = refl
    by false = refl

one_more : (n : ℕ) (k next : ParseState) (line : List ℕ) (lines : List (List ℕ)) (t : ScriptModel) → Says n k (words_of line) next → IsConsistent k → Read_from next lines t → Read_from k (line ∷ lines) t
one_more n k next line lines t says s rest = record {
  whole = rest.whole;
  words =
      ap (λ (ws : List (List (List ℕ))). known_words k ++ ws) (kept_first line lines)
      ∙ sym (append_assoc (known_words k) (one (words_of line)) (kept_words lines))
      ∙ ap (λ (ws : List (List (List ℕ))). ws ++ kept_words lines) (says_words n k next (words_of line) s says)
      ∙ rest.words;
}

read_from : (n : ℕ) (k : ParseState) (lines : List (List ℕ)) (t : ScriptModel) → IsConsistent k → lines_from n k lines ≡ Ok t → Read_from k lines t
read_from n k [] t s e = at_end n k t s (sym (ended n k) ∙ e)
read_from n k (line ∷ lines) t s e =
    elim (outcome (line_of n k line)) [
      | inl good ↦
          let says = line_says n k good.0 line good.1 in
          one_more n k good.0 line lines t says s (read_from (n + 1) good.0 lines t (says_stands n k good.0 (words_of line) s says) (sym (taken n k good.0 line lines good.1) ∙ e))
      | inr bad ↦ let no : made n bad.0 ≡ parsed_script t = sym (stopped n k bad.0 line lines bad.1) ∙ e in absurd cc
    ]

-- answers the clause `whole` of scripts_are_spelled
pub whole_script : (bytes : List ℕ) (t : ScriptModel) → script_of bytes ≡ Ok t → IsWhole t
whole_script bytes t e = (read_from 1 first_parse_state (lines_of bytes) t nothing_stands e).whole

-- answers the clause `words` of scripts_are_spelled
pub script_spelled : (bytes : List ℕ) (t : ScriptModel) → script_of bytes ≡ Ok t → kept_words (lines_of bytes) ≡ script_words t
script_spelled bytes t e = (read_from 1 first_parse_state (lines_of bytes) t nothing_stands e).words

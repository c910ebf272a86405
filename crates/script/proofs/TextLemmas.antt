-- What lines write and what session they leave, one line after another.
use Rattle.std.proofs.Common.{◌≡◌, ℕ, suc, ◌+◌, ◌<◌, List, [], ◌∷◌, ◌++◌, take, drop, length, get_or, refl, sym, ◌∙◌, ap, append_assoc, take-append-drop, drop-cons}
use Rattle.std.proofs.lemmas.List.{append-nil, take_more}
use Rattle.plan.specs.declared.node.Node.{Node}
use Rattle.grammar.specs.declared.command.CommandLine.{CommandLine}
use Rattle.grammar.specs.ScriptModels.{ScriptModel}
use Rattle.script.specs.Ends.{IsTextBefore}
use Rattle.output.specs.Outs.{IsBeginning}
use Rattle.engines.specs.Bitemporal.{BitemporalSession}
use Rattle.script.specs.Text.{after_command, piece, after_lines, lines_text}

module _ (p : List Node) where
  after_both : (s : BitemporalSession) (xs ys : List CommandLine) → after_lines p s (xs ++ ys) ≡ after_lines p (after_lines p s xs) ys
  after_both s [] ys = refl
  after_both s (x ∷ xs) ys = after_both (after_command p s x.command) xs ys

module _ (t : ScriptModel) where
  text_both : (s : BitemporalSession) (xs ys : List CommandLine) → lines_text t s (xs ++ ys) ≡ lines_text t s xs ++ lines_text t (after_lines t.plan s xs) ys
  text_both s [] ys = refl
  text_both s (x ∷ xs) ys =
      ap (λ text. piece t s x.line x.command ++ text) (text_both (after_command t.plan s x.command) xs ys)
      ∙ sym (append_assoc (piece t s x.line x.command) (lines_text t (after_command t.plan s x.command) xs) (lines_text t (after_lines t.plan (after_command t.plan s x.command) xs) ys))

-- the text of the first lines is a beginning of the whole text
pub before_begins : {Holds : BitemporalSession → Type 0} (t : ScriptModel) (s : BitemporalSession) (lines : List CommandLine) (part : List ℕ) → IsTextBefore Holds t s lines part → IsBeginning part (lines_text t s lines)
before_begins t s lines part b =
    let rest = lines_text t (after_lines t.plan s b.before) (b.line ∷ b.behind) in (
      rest,
      ap (λ text. text ++ rest) b.written ∙ sym (text_both t s b.before (b.line ∷ b.behind)) ∙ ap (lines_text t s) b.in_order,
    )

-- line number i, between those before it and those after it
module _ (lines : List CommandLine) (i : ℕ) (line : CommandLine) (h : i < length lines) (e : line ≡ get_or lines i line) where
  up_to : take (i + 1) lines ≡ take i lines ++ line ∷ []
  up_to = take_more lines i line h ∙ ap (λ (x : CommandLine). take i lines ++ x ∷ []) (sym e)

  -- answers `in_order` of IsTextBefore
  pub all_lines : lines ≡ take i lines ++ line ∷ drop (suc i) lines
  all_lines = sym (take-append-drop i lines) ∙ ap (λ (rest : List CommandLine). take i lines ++ rest) (drop-cons lines i line h ∙ ap (λ (x : CommandLine). x ∷ drop (suc i) lines) (sym e))

  -- moves the session of the loop on by one line
  pub after_more : (p : List Node) (s : BitemporalSession) → after_command p (after_lines p s (take i lines)) line.command ≡ after_lines p s (take (i + 1) lines)
  after_more p s = sym (ap (after_lines p s) up_to ∙ after_both p s (take i lines) (line ∷ []))

  module _ (t : ScriptModel) (s : BitemporalSession) where
    -- the session before the line
    abbrev pub before : BitemporalSession
    before = after_lines t.plan s (take i lines)

    -- extends the text of the loop by one line
    pub text_more : lines_text t s (take i lines) ++ piece t before line.line line.command ≡ lines_text t s (take (i + 1) lines)
    text_more = sym (ap (lines_text t s) up_to ∙ text_both t s (take i lines) (line ∷ []) ∙ ap (λ text. lines_text t s (take i lines) ++ text) (append-nil (piece t before line.line line.command)))

    -- a line at which the text breaks has broken the text of all lines
    pub text_all : (lines_text t s (take i lines) ++ piece t before line.line line.command) ++ lines_text t (after_command t.plan before line.command) (drop (suc i) lines) ≡ lines_text t s lines
    text_all =
        append_assoc (lines_text t s (take i lines)) (piece t before line.line line.command) (lines_text t (after_command t.plan before line.command) (drop (suc i) lines))
        ∙ sym (text_both t s (take i lines) (line ∷ drop (suc i) lines))
        ∙ ap (lines_text t s) (sym all_lines)

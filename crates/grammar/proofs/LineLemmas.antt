-- What an accepted line says: first each kind of line, then any line.
use Rattle.std.proofs.Common.{◌≡◌, ℕ, ◌%◌, Bool, true, false, not, ◌&&◌, cond, eqb, ltb, eqb-true, List, [], ◌∷◌, ◌++◌, length, Result, Ok, Err, inl, inr, refl, sym, ap, subst, ◌∙◌, codes}
use Rattle.std.specs.Fmt.{decimal}
use Rattle.std.specs.Str.{is_utf8}
use Rattle.std.proofs.lemmas.List.{length-map}
use Rattle.lattice.specs.Pairs.{make_pair}
use Rattle.update.specs.declared.refusal.Refusal.{Refusal}
use Rattle.update.specs.declared.refusal.Refusal.TheVariants.{WrongWordCount, LineTooLong, NotUtf8}
use Rattle.grammar.specs.declared.command.Command.{Command}
use Rattle.grammar.specs.declared.command.Command.TheVariants.{Allow, Input, View}
use Rattle.grammar.specs.declared.command.InputCommand.TheVariants.{Change, Advance, Close}
use Rattle.grammar.specs.declared.command.ViewCommand.TheVariants.{Read, Changes, Frontier}
use Rattle.grammar.specs.declared.keyword.Keyword.{Keyword}
use Rattle.grammar.specs.declared.keyword.Keyword.TheVariants as keyword
use Rattle.grammar.specs.Commands.{IsAbout}
use Rattle.grammar.specs.Outcomes.{◌>>=◌}
use Rattle.grammar.specs.ParseStates.{ParseState, input, view}
use Rattle.grammar.specs.Words.{whole, signed, wholes, columns, pairs_of}
use Rattle.grammar.specs.Text.{words_of, opens_comment}
use Rattle.grammar.specs.Lines.{start_line, change_line, advance_line, allow_line, close_line, read_line, changes_line, frontier_line, is_declaring, opening, with_command, keyword_line, words_line, text_of, line_of}
use Rattle.grammar.specs.Spelling.{command_words, Starts, Asks, Says}
use Rattle.grammar.proofs.WordLemmas.{whole_ok, signed_ok, wholes_ok, columns_ok, pairs_text}
use Rattle.grammar.proofs.NumberLemmas.{and-right}
use Rattle.grammar.proofs.StepLemmas.{accepted, same_ok, bind_ok, guard_ok, guard_not_ok, input_ok, view_ok, keyword_text, opening_ok}
use Rattle.grammar.proofs.DeclarationLemmas.{is_input_line, is_node_line, is_view_line}

is_start_line : (n : ℕ) (k next : ParseState) (words : List (List ℕ)) → k.started ≡ false → start_line k words ≡ Ok next → Starts k (codes "start" ∷ words) next
unfolding start_line
is_start_line n k next [] early e = record { words_are = refl; is_early = early; next_is = sym (same_ok (record k { started = true }) next e) }
is_start_line n k next (word ∷ words) early e = absurd cc

-- the line is the printed form of this command, which is about a node of the plan
record IsSpelled (k : ParseState) (words : List (List ℕ)) (command : Command) : Type 0 where
  words_are : words ≡ command_words k.names command
  is_about : IsAbout k.plan command

spelled_as : (k : ParseState) (made command : Command) (words : List (List ℕ)) → accepted made ≡ accepted command → words ≡ command_words k.names made → IsAbout k.plan made → IsSpelled k words command
spelled_as k made command words e w about =
    let same = same_ok made command e in
    record { words_are = w ∙ ap (command_words k.names) same; is_about = subst (IsAbout k.plan) same about }

change_spelled : (k : ParseState) (command : Command) (words : List (List ℕ)) → change_line k words ≡ Ok command → IsSpelled k (codes "change" ∷ words) command
unfolding change_line
change_spelled k command [] e = absurd cc
change_spelled k command (name ∷ []) e = absurd cc
change_spelled k command (name ∷ v ∷ []) e = absurd cc
change_spelled k command (name ∷ v ∷ s ∷ []) e = absurd cc
change_spelled k command (name ∷ v ∷ s ∷ diff ∷ row) e =
    let g = guard_ok (ltb 0 (length row) && ltb (length row) 9) (input k name >>= λ name. whole v >>= λ v. whole s >>= λ s. signed diff >>= λ diff. columns row >>= λ row. Ok (Input (Change name (make_pair v s) diff row))) WrongWordCount command e in
    let a = bind_ok (input k name) (λ name. whole v >>= λ v. whole s >>= λ s. signed diff >>= λ diff. columns row >>= λ row. Ok (Input (Change name (make_pair v s) diff row))) command g.1 in
    let b = bind_ok (whole v) (λ v. whole s >>= λ s. signed diff >>= λ diff. columns row >>= λ row. Ok (Input (Change a.0 (make_pair v s) diff row))) command a.2 in
    let c = bind_ok (whole s) (λ s. signed diff >>= λ diff. columns row >>= λ row. Ok (Input (Change a.0 (make_pair b.0 s) diff row))) command b.2 in
    let d = bind_ok (signed diff) (λ diff. columns row >>= λ row. Ok (Input (Change a.0 (make_pair b.0 c.0) diff row))) command c.2 in
    let f = bind_ok (columns row) (λ row. Ok (Input (Change a.0 (make_pair b.0 c.0) d.0 row))) command d.2 in
    let about = input_ok k name a.0 a.1 in
    spelled_as k (Input (Change a.0 (make_pair b.0 c.0) d.0 f.0)) command (codes "change" ∷ name ∷ v ∷ s ∷ diff ∷ row) f.2
    (five name v s diff row _ _ _ _ _ about.name_is (whole_ok v b.0 b.1) (whole_ok s c.0 c.1) (signed_ok diff d.0 d.1) (columns_ok row f.0 f.1))
    about.passes
  where
    five : (a b c d : List ℕ) (r : List (List ℕ)) (a' b' c' d' : List ℕ) (r' : List (List ℕ)) → a ≡ a' → b ≡ b' → c ≡ c' → d ≡ d' → r ≡ r' → (codes "change" ∷ a ∷ b ∷ c ∷ d ∷ r) ≡ (codes "change" ∷ a' ∷ b' ∷ c' ∷ d' ∷ r')
    five a b c d r a' b' c' d' r' e f g h i = cc

advance_spelled : (k : ParseState) (command : Command) (words : List (List ℕ)) → advance_line k words ≡ Ok command → IsSpelled k (codes "advance" ∷ words) command
unfolding advance_line
advance_spelled k command [] e = absurd cc
advance_spelled k command (name ∷ ts) e =
    let g = guard_ok (ltb 0 (length ts) && eqb (length ts % 2) 0) (input k name >>= λ name. wholes ts >>= λ ts. Ok (Input (Advance name (pairs_of ts)))) WrongWordCount command e in
    let a = bind_ok (input k name) (λ name. wholes ts >>= λ ts. Ok (Input (Advance name (pairs_of ts)))) command g.1 in
    let b = bind_ok (wholes ts) (λ ts. Ok (Input (Advance a.0 (pairs_of ts)))) command a.2 in
    let about = input_ok k name a.0 a.1 in
    let even : length ts % 2 ≡ 0 = eqb-true _ _ (and-right (ltb 0 (length ts)) (eqb (length ts % 2) 0) g.0) in
    let text = wholes_ok ts b.0 b.1 in
    let same : length ts ≡ length b.0 = ap length text ∙ length-map b.0 decimal in
    spelled_as k (Input (Advance a.0 (pairs_of b.0))) command (codes "advance" ∷ name ∷ ts) b.2
    (two name ts _ _ about.name_is (text ∙ pairs_text b.0 (sym (ap (λ (n : ℕ). n % 2) same) ∙ even)))
    about.passes
  where
    two : (a : List ℕ) (r : List (List ℕ)) (a' : List ℕ) (r' : List (List ℕ)) → a ≡ a' → r ≡ r' → (codes "advance" ∷ a ∷ r) ≡ (codes "advance" ∷ a' ∷ r')
    two a r a' r' e f = cc

allow_spelled : (k : ParseState) (command : Command) (words : List (List ℕ)) → allow_line k words ≡ Ok command → IsSpelled k (codes "allow" ∷ words) command
unfolding allow_line
allow_spelled k command [] e = absurd cc
allow_spelled k command (name ∷ ts) e =
    let g = guard_ok (ltb 0 (length ts) && eqb (length ts % 2) 0) (view k name >>= λ name. wholes ts >>= λ ts. Ok (Allow name (pairs_of ts))) WrongWordCount command e in
    let a = bind_ok (view k name) (λ name. wholes ts >>= λ ts. Ok (Allow name (pairs_of ts))) command g.1 in
    let b = bind_ok (wholes ts) (λ ts. Ok (Allow a.0 (pairs_of ts))) command a.2 in
    let about = view_ok k name a.0 a.1 in
    let even : length ts % 2 ≡ 0 = eqb-true _ _ (and-right (ltb 0 (length ts)) (eqb (length ts % 2) 0) g.0) in
    let text = wholes_ok ts b.0 b.1 in
    let same : length ts ≡ length b.0 = ap length text ∙ length-map b.0 decimal in
    spelled_as k (Allow a.0 (pairs_of b.0)) command (codes "allow" ∷ name ∷ ts) b.2
    (two name ts _ _ about.name_is (text ∙ pairs_text b.0 (sym (ap (λ (n : ℕ). n % 2) same) ∙ even)))
    about.passes
  where
    two : (a : List ℕ) (r : List (List ℕ)) (a' : List ℕ) (r' : List (List ℕ)) → a ≡ a' → r ≡ r' → (codes "allow" ∷ a ∷ r) ≡ (codes "allow" ∷ a' ∷ r')
    two a r a' r' e f = cc

close_spelled : (k : ParseState) (command : Command) (words : List (List ℕ)) → close_line k words ≡ Ok command → IsSpelled k (codes "close" ∷ words) command
unfolding close_line
close_spelled k command [] e = absurd cc
close_spelled k command (name ∷ []) e =
    let a = bind_ok (input k name) (λ name. Ok (Input (Close name))) command e in
    let about = input_ok k name a.0 a.1 in
    spelled_as k (Input (Close a.0)) command (codes "close" ∷ name ∷ []) a.2 (ap (λ (w : List ℕ). codes "close" ∷ w ∷ []) about.name_is) about.passes
close_spelled k command (name ∷ more ∷ words) e = absurd cc

read_spelled : (k : ParseState) (command : Command) (words : List (List ℕ)) → read_line k words ≡ Ok command → IsSpelled k (codes "read" ∷ words) command
unfolding read_line
read_spelled k command [] e = absurd cc
read_spelled k command (name ∷ []) e = absurd cc
read_spelled k command (name ∷ v ∷ []) e = absurd cc
read_spelled k command (name ∷ v ∷ s ∷ []) e =
    let a = bind_ok (view k name) (λ name. whole v >>= λ v. whole s >>= λ s. Ok (View (Read name (make_pair v s)))) command e in
    let b = bind_ok (whole v) (λ v. whole s >>= λ s. Ok (View (Read a.0 (make_pair v s)))) command a.2 in
    let c = bind_ok (whole s) (λ s. Ok (View (Read a.0 (make_pair b.0 s)))) command b.2 in
    let about = view_ok k name a.0 a.1 in
    spelled_as k (View (Read a.0 (make_pair b.0 c.0))) command (codes "read" ∷ name ∷ v ∷ s ∷ []) c.2
    (three name v s _ _ _ about.name_is (whole_ok v b.0 b.1) (whole_ok s c.0 c.1))
    about.passes
  where
    three : (a b c a' b' c' : List ℕ) → a ≡ a' → b ≡ b' → c ≡ c' → (codes "read" ∷ a ∷ b ∷ c ∷ []) ≡ (codes "read" ∷ a' ∷ b' ∷ c' ∷ [])
    three a b c a' b' c' e f g = cc
read_spelled k command (name ∷ v ∷ s ∷ more ∷ words) e = absurd cc

changes_spelled : (k : ParseState) (command : Command) (words : List (List ℕ)) → changes_line k words ≡ Ok command → IsSpelled k (codes "changes" ∷ words) command
unfolding changes_line
changes_spelled k command [] e = absurd cc
changes_spelled k command (name ∷ []) e =
    let a = bind_ok (view k name) (λ name. Ok (View (Changes name))) command e in
    let about = view_ok k name a.0 a.1 in
    spelled_as k (View (Changes a.0)) command (codes "changes" ∷ name ∷ []) a.2 (ap (λ (w : List ℕ). codes "changes" ∷ w ∷ []) about.name_is) about.passes
changes_spelled k command (name ∷ more ∷ words) e = absurd cc

frontier_spelled : (k : ParseState) (command : Command) (words : List (List ℕ)) → frontier_line k words ≡ Ok command → IsSpelled k (codes "frontier" ∷ words) command
unfolding frontier_line
frontier_spelled k command [] e = absurd cc
frontier_spelled k command (name ∷ []) e =
    let a = bind_ok (view k name) (λ name. Ok (View (Frontier name))) command e in
    let about = view_ok k name a.0 a.1 in
    spelled_as k (View (Frontier a.0)) command (codes "frontier" ∷ name ∷ []) a.2 (ap (λ (w : List ℕ). codes "frontier" ∷ w ∷ []) about.name_is) about.passes
frontier_spelled k command (name ∷ more ∷ words) e = absurd cc

asks : (n : ℕ) (k next : ParseState) (words : List (List ℕ)) (outcome : Result Command Refusal) → k.started ≡ true → with_command n k outcome ≡ Ok next
    → ((command : Command) → outcome ≡ Ok command → IsSpelled k words command) → Asks n k words next
asks n k next words (Err refusal) late e spelled = absurd cc
asks n k next words (Ok command) late e spelled =
    let s = spelled command refl in
    record { command = command; words_are = s.words_are; is_late = late; is_about = s.is_about; next_is = sym (same_ok (record k { commands = k.commands ++ record { line = n; command = command } ∷ [] }) next e) }

not_late : (b : Bool) → not b ≡ false → b ≡ true
not_late true h = refl
not_late false h = absurd cc

keyword_says : (n : ℕ) (k next : ParseState) (found : Keyword) (words : List (List ℕ)) → cond (is_declaring found) k.started (not k.started) ≡ false → keyword_line n k found words ≡ Ok next → Says n k (keyword_text found ∷ words) next
keyword_says n k next keyword.Input words o e = inr (inl (is_input_line k next words o e))
keyword_says n k next keyword.Node words o e = inr (inl (is_node_line k next words o e))
keyword_says n k next keyword.View words o e = inr (inl (is_view_line k next words o e))
keyword_says n k next keyword.Start words o e = inr (inr (inl (is_start_line n k next words o e)))
keyword_says n k next keyword.Change words o e = inr (inr (inr (asks n k next (codes "change" ∷ words) (change_line k words) (not_late k.started o) e (λ c. change_spelled k c words))))
keyword_says n k next keyword.Advance words o e = inr (inr (inr (asks n k next (codes "advance" ∷ words) (advance_line k words) (not_late k.started o) e (λ c. advance_spelled k c words))))
keyword_says n k next keyword.Close words o e = inr (inr (inr (asks n k next (codes "close" ∷ words) (close_line k words) (not_late k.started o) e (λ c. close_spelled k c words))))
keyword_says n k next keyword.Allow words o e = inr (inr (inr (asks n k next (codes "allow" ∷ words) (allow_line k words) (not_late k.started o) e (λ c. allow_spelled k c words))))
keyword_says n k next keyword.Read words o e = inr (inr (inr (asks n k next (codes "read" ∷ words) (read_line k words) (not_late k.started o) e (λ c. read_spelled k c words))))
keyword_says n k next keyword.Changes words o e = inr (inr (inr (asks n k next (codes "changes" ∷ words) (changes_line k words) (not_late k.started o) e (λ c. changes_spelled k c words))))
keyword_says n k next keyword.Frontier words o e = inr (inr (inr (asks n k next (codes "frontier" ∷ words) (frontier_line k words) (not_late k.started o) e (λ c. frontier_spelled k c words))))

-- splits an accepted line by what it says
pub words_say : (n : ℕ) (k next : ParseState) (words : List (List ℕ)) → words_line n k words ≡ Ok next → Says n k words next
unfolding words_line
words_say n k next [] e = inl (record { skipped = refl; next_is = sym (same_ok k next e) })
words_say n k next (first ∷ words) e = by (opens_comment first) refl e
  where
    by : (b : Bool) → opens_comment first ≡ b → cond b (Ok k) (opening k first >>= λ keyword. keyword_line n k keyword words) ≡ Ok next → Says n k (first ∷ words) next
    by true c h = inl (record { skipped = c; next_is = sym (same_ok k next h) })
    by false c h =
        let a = bind_ok (opening k first) (λ keyword. keyword_line n k keyword words) next h in
        let o = opening_ok k first a.0 a.1 in
        subst (λ (w : List ℕ). Says n k (w ∷ words) next) (sym o.0) (keyword_says n k next a.0 words o.1 a.2)

-- the text of an accepted line is the line itself, short enough and UTF-8
pub text_ok : (line text : List ℕ) → text_of line ≡ Ok text → (ltb 4096 (length line) ≡ false) × (is_utf8 line ≡ true) × (text ≡ line)
unfolding text_of
text_ok line text e =
    let short = guard_not_ok (ltb 4096 (length line)) (cond (is_utf8 line) (Ok line) (Err NotUtf8)) LineTooLong text e in
    let utf8 = guard_ok (is_utf8 line) (Ok line) NotUtf8 text short.1 in
    (short.0, utf8.0, sym (same_ok line text utf8.1))

-- leads from the bytes of an accepted line to its words
pub line_ok : (n : ℕ) (k next : ParseState) (line : List ℕ) → line_of n k line ≡ Ok next → (text_of line ≡ Ok line) × (words_line n k (words_of line) ≡ Ok next)
unfolding line_of
line_ok n k next line e =
    let a = bind_ok (text_of line) (λ text. words_line n k (words_of text)) next e in
    let t = text_ok line a.0 a.1 in
    (a.1 ∙ ap (λ (w : List ℕ). Ok w) t.2, ap (λ w. words_line n k (words_of w)) (sym t.2) ∙ a.2)

-- answers lines_are_spelled
pub line_says : (n : ℕ) (k next : ParseState) (line : List ℕ) → line_of n k line ≡ Ok next → Says n k (words_of line) next
line_says n k next line e = words_say n k next (words_of line) (line_ok n k next line e).1

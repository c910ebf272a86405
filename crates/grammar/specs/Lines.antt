-- The meaning of each line, or the refusal of the first test that fails. The order of the steps is
-- the order of the tests. If a line has another number of words than in the patterns here, it has
-- too few or too many.
use Rattle.std.specs.Prelude.{ℕ, ◌%◌, Bool, true, false, not, ◌&&◌, List, [], ◌∷◌, ◌++◌, length, Option, Some, None, Result, Ok, Err, nat_lt, ◌==◌, codes, if◌then◌else◌}
use Rattle.std.specs.Str.{bytes_eq, is_utf8}
use Rattle.update.specs.declared.refusal.Refusal.{Refusal}
use Rattle.update.specs.declared.refusal.Refusal.TheVariants.{UnknownCommand, WrongWordCount, BadOrder, LineTooLong, NotUtf8}
use Rattle.lattice.specs.Pairs.{make_pair}
use Rattle.grammar.specs.declared.command.Command.{Command}
use Rattle.grammar.specs.declared.command.Command.TheVariants.{Allow, Input, View}
use Rattle.grammar.specs.declared.command.InputCommand.TheVariants.{Change, Advance, Close}
use Rattle.grammar.specs.declared.command.ViewCommand.TheVariants.{Read, Changes, Frontier}
use Rattle.grammar.specs.declared.keyword.Keyword.{Keyword}
use Rattle.grammar.specs.declared.keyword.Keyword.TheVariants as keyword
use Rattle.grammar.specs.Outcomes.{◌>>=◌, or_refused}
use Rattle.grammar.specs.Text.{words_of, opens_comment}
use Rattle.grammar.specs.ParseStates.{ParseState, input, view}
use Rattle.grammar.specs.Words.{whole, signed, wholes, columns, pairs_of}
use Rattle.grammar.specs.Declarations.{input_line, node_line, view_line}

-- start
unfoldable pub start_line : ParseState → List (List ℕ) → Result ParseState Refusal
start_line k [] = Ok (record k { started = true })
start_line k _ = Err WrongWordCount

-- change INPUT V S DIFF C .., with 1 to 8 columns
unfoldable pub change_line : ParseState → List (List ℕ) → Result Command Refusal
change_line k (name ∷ v ∷ s ∷ diff ∷ row) = if nat_lt 0 (length row) && nat_lt (length row) 9 then (do
  name ← input k name
  v ← whole v
  s ← whole s
  diff ← signed diff
  row ← columns row
  Ok (Input (Change name (make_pair v s) diff row))) else Err WrongWordCount
change_line k _ = Err WrongWordCount

-- advance INPUT V S .., with one pair or more
unfoldable pub advance_line : ParseState → List (List ℕ) → Result Command Refusal
advance_line k (name ∷ ts) = if nat_lt 0 (length ts) && (length ts % 2 == 0) then (do
  name ← input k name
  ts ← wholes ts
  Ok (Input (Advance name (pairs_of ts)))) else Err WrongWordCount
advance_line k _ = Err WrongWordCount

-- close INPUT
unfoldable pub close_line : ParseState → List (List ℕ) → Result Command Refusal
close_line k (name ∷ []) = do
  name ← input k name
  Ok (Input (Close name))
close_line k _ = Err WrongWordCount

-- allow VIEW V S .., with one pair or more
unfoldable pub allow_line : ParseState → List (List ℕ) → Result Command Refusal
allow_line k (name ∷ ts) = if nat_lt 0 (length ts) && (length ts % 2 == 0) then (do
  name ← view k name
  ts ← wholes ts
  Ok (Allow name (pairs_of ts))) else Err WrongWordCount
allow_line k _ = Err WrongWordCount

-- read VIEW V S
unfoldable pub read_line : ParseState → List (List ℕ) → Result Command Refusal
read_line k (name ∷ v ∷ s ∷ []) = do
  name ← view k name
  v ← whole v
  s ← whole s
  Ok (View (Read name (make_pair v s)))
read_line k _ = Err WrongWordCount

-- changes VIEW
unfoldable pub changes_line : ParseState → List (List ℕ) → Result Command Refusal
changes_line k (name ∷ []) = do
  name ← view k name
  Ok (View (Changes name))
changes_line k _ = Err WrongWordCount

-- frontier VIEW
unfoldable pub frontier_line : ParseState → List (List ℕ) → Result Command Refusal
frontier_line k (name ∷ []) = do
  name ← view k name
  Ok (View (Frontier name))
frontier_line k _ = Err WrongWordCount

-- the keyword that a word spells
abbrev pub keyword_of : List ℕ → Option Keyword
keyword_of word = if bytes_eq word (codes "input") then Some keyword.Input
    else if bytes_eq word (codes "node") then Some keyword.Node
    else if bytes_eq word (codes "view") then Some keyword.View
    else if bytes_eq word (codes "start") then Some keyword.Start
    else if bytes_eq word (codes "change") then Some keyword.Change
    else if bytes_eq word (codes "advance") then Some keyword.Advance
    else if bytes_eq word (codes "close") then Some keyword.Close
    else if bytes_eq word (codes "allow") then Some keyword.Allow
    else if bytes_eq word (codes "read") then Some keyword.Read
    else if bytes_eq word (codes "changes") then Some keyword.Changes
    else if bytes_eq word (codes "frontier") then Some keyword.Frontier else None

-- such a line belongs before `start`, or is `start`
abbrev pub is_declaring : Keyword → Bool
is_declaring keyword.Input = true
is_declaring keyword.Node = true
is_declaring keyword.View = true
is_declaring keyword.Start = true
is_declaring keyword.Change = false
is_declaring keyword.Advance = false
is_declaring keyword.Close = false
is_declaring keyword.Allow = false
is_declaring keyword.Read = false
is_declaring keyword.Changes = false
is_declaring keyword.Frontier = false

-- the keyword of a line with this first word, if such a line may stand here
unfoldable pub opening : ParseState → List ℕ → Result Keyword Refusal
opening k word = or_refused UnknownCommand (keyword_of word)
    >>= λ keyword. if (if is_declaring keyword then k.started else not k.started) then Err BadOrder
    else Ok keyword

-- the command is added, with the number of its line
abbrev pub with_command : ℕ → ParseState → Result Command Refusal → Result ParseState Refusal
with_command n k outcome = outcome
    >>= λ command. Ok (record k { commands = k.commands ++ record { line = n; command = command } ∷ [] })

-- the parse state after line n; these words come after its keyword
abbrev pub keyword_line : ℕ → ParseState → Keyword → List (List ℕ) → Result ParseState Refusal
keyword_line n k keyword.Input words = input_line k words
keyword_line n k keyword.Node words = node_line k words
keyword_line n k keyword.View words = view_line k words
keyword_line n k keyword.Start words = start_line k words
keyword_line n k keyword.Change words = with_command n k (change_line k words)
keyword_line n k keyword.Advance words = with_command n k (advance_line k words)
keyword_line n k keyword.Close words = with_command n k (close_line k words)
keyword_line n k keyword.Allow words = with_command n k (allow_line k words)
keyword_line n k keyword.Read words = with_command n k (read_line k words)
keyword_line n k keyword.Changes words = with_command n k (changes_line k words)
keyword_line n k keyword.Frontier words = with_command n k (frontier_line k words)

-- a line without words is skipped, and so is a line whose first word begins with #
unfoldable pub words_line : ℕ → ParseState → List (List ℕ) → Result ParseState Refusal
words_line n k [] = Ok k
words_line n k (first ∷ words) = if opens_comment first then Ok k else (do
  keyword ← opening k first
  keyword_line n k keyword words)

-- the bytes of the line, if it is UTF-8 text and not too long
unfoldable pub text_of : List ℕ → Result (List ℕ) Refusal
text_of line = if nat_lt 4096 (length line) then Err LineTooLong else if is_utf8 line then Ok line
    else Err NotUtf8

-- the parse state after line n
unfoldable pub line_of : ℕ → ParseState → List ℕ → Result ParseState Refusal
line_of n k line = do
  text ← text_of line
  words_line n k (words_of text)

use Rattle.std.proofs.Common.{◌≡◌, true, false, rules}
use Rattle.std.specs.Str.{is_utf8}
use Rattle.std.proofs.lemmas.Bool.{false_from_ne_true}
use Rattle.std.proofs.lemmas.Str.{is_utf8-from_IsUtf8, IsUtf8-from_is_utf8}
use Rattle.grammar.specs.Lines.{text_of}
use Rattle.grammar.proofs.text.text.Goals as goal

pub returns-in-Ok : goal.returns-in-Ok
unfolding text_of
returns-in-Ok c =
    let e : is_utf8 c.args.line.now ≡ true = is_utf8-from_IsUtf8 c.args.line.now c.in-Ok.ensures.cases.1 in search rules

pub returns-in-Err : goal.returns-in-Err
unfolding text_of
returns-in-Err c =
    let e : is_utf8 c.args.line.now ≡ false = false_from_ne_true _ (λ k. c.in-Err.ensures.cases.0 (IsUtf8-from_is_utf8 c.args.line.now k)) in search rules

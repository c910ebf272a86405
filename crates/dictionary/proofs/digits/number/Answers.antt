use Rattle.std.proofs.Common.{◌≡◌, ◌∙◌, true, false, sym}
use Rattle.dictionary.specs.Digits.{is_whole}
use Rattle.dictionary.proofs.NumberLemmas.{whole_parsed, not_whole, digits_are_text}
use Rattle.dictionary.proofs.digits.number.Goals as goal

pub returns-then-not-is_whole : goal.returns-then-not-is_whole
returns-then-not-is_whole c =
    let e : is_whole c.args.digits.now ≡ false = cc in
    sym (not_whole c.args.digits.now e)

pub returns-in-Ok : goal.returns-in-Ok
returns-in-Ok c =
    let e : is_whole c.args.digits.now ≡ true = cc in
    let p = rw c.in-Ok.ensures.cases.0 at c.parse.ensures.value.0 in
    c.ok.ensures.value ∙ whole_parsed c.args.digits.now c.parse.result e p

pub returns-in-Err : goal.returns-in-Err
returns-in-Err c =
    let e : is_whole c.args.digits.now ≡ true = cc in
    absurd (c.in-Err.ensures.cases.0 (digits_are_text c.args.digits.now e))

use Rattle.std.proofs.Common.{◌≡◌, ◌∙◌, true}
use Rattle.grammar.specs.Numbers.{is_signed_numeral}
use Rattle.grammar.proofs.NumberLemmas.{signed_parsed}
use Rattle.grammar.proofs.numbers.signed_number.Goals as goal

pub returns-then-is_signed_numeral : goal.returns-then-is_signed_numeral
returns-then-is_signed_numeral c =
    let e : is_signed_numeral c.args.word.now ≡ true = cc in
    c.ok.ensures.value ∙ signed_parsed c.args.word.now c.parse.result e c.parse.ensures.value.0

use Rattle.std.proofs.Common.{◌≡◌, ◌∙◌, true}
use Rattle.grammar.specs.Numbers.{is_numeral}
use Rattle.grammar.proofs.NumberLemmas.{whole_parsed}
use Rattle.grammar.proofs.numbers.whole_number.Goals as goal

pub returns-then-is_numeral : goal.returns-then-is_numeral
returns-then-is_numeral c =
    let e : is_numeral c.args.word.now ≡ true = cc in
    c.ok.ensures.value ∙ whole_parsed c.args.word.now c.parse.result e c.parse.ensures.value.0

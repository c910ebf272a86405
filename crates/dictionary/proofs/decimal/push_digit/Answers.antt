use Rattle.std.proofs.Common.{arith}
use Rattle.std.proofs.lemmas.Grind.{common_steps}
use Rattle.std.proofs.lemmas.Fmt.{decimal_digit}
use Rattle.dictionary.proofs.decimal.push_digit.Goals as goal

pub returns : goal.returns
returns c = let e = decimal_digit c.args.digit c.requires in grind (arith, common_steps, e)

use Rattle.std.proofs.Common.{arith}
use Rattle.dictionary.proofs.Powers.{ten_power-positive}
use Rattle.dictionary.proofs.decimal.unit.Goals as goal

pub returns-clause-some : goal.returns-clause-some
returns-clause-some c = let h = ten_power-positive c.args.places in grind (arith, ten_power-positive)

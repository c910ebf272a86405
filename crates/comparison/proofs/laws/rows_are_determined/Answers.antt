use Rattle.comparison.proofs.RowLemmas.{one_list}
use Rattle.comparison.proofs.laws.rows_are_determined.Goals as goal

pub returns : goal.returns
returns c = one_list

use Rattle.grammar.proofs.LineLemmas.{line_says}
use Rattle.grammar.proofs.laws.lines_are_spelled.Goals as goal

pub returns : goal.returns
returns c = line_says

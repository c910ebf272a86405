use Rattle.shared_board.proofs.board.SharedBoard.find_nothing.Goals as goal

pub returns-clause-taken : goal.returns-clause-taken
returns-clause-taken g c es a pick = (c.requires.none es a, c.is_quiet-quiet.ensures.looked, c.is_quiet-quiet.ensures.quiet es a)

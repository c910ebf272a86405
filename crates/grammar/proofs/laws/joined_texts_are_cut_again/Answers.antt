use Rattle.grammar.proofs.CutLemmas.{lines_joined, words_spaced, own_words}
use Rattle.grammar.proofs.laws.joined_texts_are_cut_again.Goals as goal

pub returns : goal.returns
returns c = record { lines = lines_joined; words = words_spaced; own = own_words }

use Rattle.grammar.proofs.DecimalLemmas.{whole_text, whole_again, signed_text, signed_again}
use Rattle.grammar.proofs.laws.numbers_have_one_form.Goals as goal

pub returns : goal.returns
returns c = record { whole = whole_text; whole_again = whole_again; signed = signed_text; signed_again = signed_again }

use Rattle.grammar.proofs.ScriptLemmas.{whole_script, script_spelled}
use Rattle.grammar.proofs.RoundTripLemmas.{script_again}
use Rattle.grammar.proofs.laws.scripts_are_spelled.Goals as goal

pub returns : goal.returns
returns c = record { words = script_spelled; again = script_again; whole = whole_script }

use Rattle.std.proofs.Common.{◌∙◌, sym, rules}
use Rattle.grammar.proofs.TextLemmas.{found_line, only_line}
use Rattle.grammar.proofs.text.first_line.Goals as goal

pub returns-in-Some-clause-line : goal.returns-in-Some-clause-line
returns-in-Some-clause-line c = let e = found_line c.args.bytes.now c.in-Some.end (sym c.newline.ensures ∙ c.in-Some.is) in search rules

pub returns-in-None-clause-line : goal.returns-in-None-clause-line
returns-in-None-clause-line c = only_line c.args.bytes.now c.requires (sym c.newline.ensures ∙ c.in-None.is)

use Rattle.grammar.specs.ParseStates.{parse_state}
use Rattle.grammar.specs.Scripts.{model_of}
use Rattle.grammar.proofs.ScriptLemmas.{whole_script}
use Rattle.grammar.proofs.parser.parse.Goals as goal

pub of-requires : goal.of-requires
of-requires c = whole_script c.args.bytes.now (model_of (parse_state c.take_lines.new.draft)) c.in_ok-take_lines.ensures.exact

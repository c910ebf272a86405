use Rattle.std.proofs.Common.{◌∙◌, ap, map, string_bytes}
use Rattle.grammar.specs.ParseStates.{parse_state}
use Rattle.grammar.proofs.PlaceLemmas.{added_name, node_added}
use Rattle.grammar.proofs.draft.Draft.add.Goals as goal

pub returns : goal.returns
returns c = node_added (parse_state c.args.self.now) (string_bytes c.args.name) c.args.node c.push_node.new.plan (map string_bytes c.insert.new.self.keys) c.in_ok-push_node.ensures (ap (map string_bytes) c.in_ok-insert.ensures.keys ∙ added_name c.args.self.now.names.keys c.args.name c.requires)

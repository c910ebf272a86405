use Rattle.std.proofs.Common.{◌∙◌, sym, string_bytes}
use Rattle.std.specs.Str.{bytes_eq}
use Rattle.grammar.proofs.PlaceLemmas.{position-map}
use Rattle.grammar.proofs.draft.place.Goals as goal

pub returns : goal.returns
returns c = c.get_index_of.ensures.index ∙ sym (position-map string_bytes (bytes_eq c.args.word.now) c.args.names.now.keys)

use Rattle.std.proofs.Common.{◌∙◌, ap, sym, string_bytes}
use Rattle.std.specs.Str.{bytes_eq}
use Rattle.dictionary.specs.Names.{number_in}
use Rattle.dictionary.proofs.NameLemmas.{position-map}
use Rattle.dictionary.proofs.names.Names.find.Goals as goal

pub returns-clause-value : goal.returns-clause-value
returns-clause-value c =
    c.get_index_of.ensures.index
    ∙ sym (position-map string_bytes (bytes_eq c.args.name.now) c.self.inside.set.keys)
    ∙ ap (λ ns. number_in ns c.args.name.now) c.self.view_is

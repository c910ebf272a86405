use Rattle.std.proofs.Common.{◌≡◌, ◌∙◌, ◌++◌, ◌∷◌, [], ap, map, string_bytes, None, rules}
use Rattle.std.specs.List.{position}
use Rattle.std.specs.Str.{bytes_eq}
use Rattle.dictionary.specs.Names.{number_in}
use Rattle.dictionary.proofs.NameLemmas.{added_name}
use Rattle.dictionary.proofs.names.Names.add.Goals as goal

pub returns-clause-added : goal.returns-clause-added
returns-clause-added c =
    let text : string_bytes c.in_ok-from_str.field-0 ≡ c.args.name.now = search rules in
    let keys = c.self.inside.set.keys in
    let none : position (bytes_eq c.args.name.now) (map string_bytes keys) ≡ None =
    ap (λ ns. number_in ns c.args.name.now) c.self.view_is ∙ c.requires in
    let free : position (bytes_eq (string_bytes c.in_ok-from_str.field-0)) (map string_bytes keys) ≡ None =
    ap (λ t. position (bytes_eq t) (map string_bytes keys)) text ∙ none in
    ap (map string_bytes) c.in_ok-insert.ensures.keys
    ∙ added_name keys c.in_ok-from_str.field-0 free
    ∙ ap (λ t. map string_bytes keys ++ t ∷ []) text
    ∙ ap (λ ns. ns ++ c.args.name.now ∷ []) c.self.view_is

use Rattle.std.proofs.Common.{◌∙◌, ◌++◌, ◌∷◌, [], ap, sym}
use Rattle.std.specs.List.{slice_get}
use Rattle.dictionary.proofs.NameLemmas.{numbered, last_number}
use Rattle.dictionary.proofs.names.Names.number_of.Goals as goal

pub returns-in-Some-clause-number : goal.returns-in-Some-clause-number
returns-in-Some-clause-number c = numbered c.args.self.now c.args.name.now c.in-Some.number (sym c.in-Some.ensures.value)

pub returns-clause-number : goal.returns-clause-number
returns-clause-number c =
    ap (λ ns. slice_get ns c.len-next.result) c.in_ok-add.ensures.added
    ∙ ap (λ n. slice_get (c.args.self.now ++ c.args.name.now ∷ []) n) c.len-next.ensures.value
    ∙ last_number c.args.self.now c.args.name.now

use Rattle.std.proofs.Common.{◌++◌, sym, ap, ◌∙◌}
use Rattle.std.specs.Prelude.{option_to_list}
use Rattle.histories.specs.declared.event.Bundle.{Bundle}
use Rattle.accounts.specs.CutEmissions.{last_updates}
use Rattle.accounts.proofs.CutEmissionLemmas.{last_pushed}
use Rattle.accounts.proofs.cut_emission.last_list.Goals as goal

pub returns : goal.returns
returns g c =
    ap (λ (b : Bundle g.row.T.Denot). b.updates) (sym c.in-Some.field-0-is)
    ∙ sym (last_pushed c.pop.new.self.items c.in-Some.field-0)
    ∙ sym (ap last_updates (c.pop.ensures.items ∙ ap (λ o. c.pop.new.self.items ++ option_to_list o) c.in-Some.is))

use Rattle.std.proofs.Common.{ap, ◌∙◌}
use Rattle.accounts.specs.CutEmissions.{last_updates}
use Rattle.accounts.proofs.CutEmissionLemmas.{last_pushed}
use Rattle.accounts.proofs.cut_emission.CutEmission.sent_to.Goals as goal

pub returns-clause-given : goal.returns-clause-given
returns-clause-given g c =
    ap (λ us. record { node = c.args.emission.node; worker = c.args.emission.worker; updates = us })
    (ap last_updates (c.into-3.ensures ∙ c.push_reserved.ensures.items) ∙ last_pushed c.reserve.new.self.items _)

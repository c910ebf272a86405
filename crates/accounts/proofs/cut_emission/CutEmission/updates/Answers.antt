use Rattle.std.proofs.Common.{◌<◌, ◌-◌, length, subst, sym, ap, ◌∙◌, arith}
use Rattle.histories.specs.declared.event.Bundle.{Bundle}
use Rattle.accounts.specs.CutEmissions.{CutState, HasUpdates, last_updates, updates_in}
use Rattle.accounts.proofs.CutEmissionLemmas.{last_read}
use Rattle.accounts.proofs.cut_emission.CutEmission.updates.Goals as goal

pub returns-in-None : goal.returns-in-None
returns-in-None g c =
    let sent = c.as_slice-sent.result.now in
    let some : 0 < length sent = subst (λ bs. 0 < length bs) (sym c.as_slice-sent.ensures) (subst (λ o. HasUpdates o c.self.inside.sent) c.in-None.is c.self.invariant) in
    sym (ap (λ (b : Bundle g.row.T.Denot). b.updates) c.index-sent-sent.is)
    ∙ sym (last_read sent (length sent - 1) c.index-sent-sent.result (omega (arith, some)) c.index-sent-sent.is)
    ∙ ap last_updates c.as_slice-sent.ensures
    ∙ ap (λ o. updates_in o c.self.inside.sent) (sym c.in-None.is)
    ∙ ap (λ (x : CutState g.row.T.Denot). x.given.updates) c.self.view_is

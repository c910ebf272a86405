use Rattle.std.proofs.Common.{not, [], ◌∷◌, ap, ap₂, sym, ◌∙◌, length}
use Rattle.row.specs.Projection.{are_within}
use Rattle.update.specs.declared.refusal.Refusal.TheVariants.{BadWidth, BadColumn}
use Rattle.plan.specs.Rules.{node_faults, first_refusal, is_width}
use Rattle.plan.proofs.plan.Plan.fault_of.Goals as goal

pub returns-in-Map : goal.returns-in-Map
returns-in-Map c =
    c.items_fault.ensures
    ∙ ap₂ (λ items width. first_refusal ((not (is_width (length items)), BadWidth) ∷ (not (are_within items width), BadColumn) ∷ [])) c.as_slice.ensures c.width.ensures.width
    ∙ ap (λ node. first_refusal (node_faults c.args.self.now node)) (sym c.in-Map.is)

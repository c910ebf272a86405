use Rattle.std.proofs.Common.{◌<◌, length, get_or, IsTrue, subst, sym, ap, ap₂, ◌∙◌, arith}
use Rattle.std.proofs.lemmas.List.{length-map}
use Rattle.std.proofs.lemmas.Option.{slice_get-get_or}
use Rattle.plan.specs.declared.plan.Stage.{Stage}
use Rattle.plan.specs.Widths.{width_of}
use Rattle.plan.specs.Rules.{is_width, IsPlan}
use Rattle.plan.proofs.WidthLemmas.{width_bounds}
use Rattle.plan.proofs.plan.Plan.width.Goals as goal

pub returns-clause-width : goal.returns-clause-width
returns-clause-width c =
    let within : c.number.result < length c.self.inside.stages.items =
    (let l = c.requires in
    let all = length-map c.self.inside.stages.items (λ (s : Stage). s.node) in
    let same = ap length c.self.view_is in
    let number = c.number.ensures in
    omega arith) in
    ap (λ (s : Stage). s.width) c.index.ensures
    ∙ c.self.invariant.widths c.number.result (get_or c.self.inside.stages.items c.number.result c.index.result.now) (slice_get-get_or c.self.inside.stages.items c.number.result c.index.result.now within)
    ∙ ap₂ width_of c.self.view_is c.number.ensures

pub returns-clause-few : goal.returns-clause-few
returns-clause-few c =
    subst (λ w. IsTrue (is_width w)) (sym (returns-clause-width c)) (width_bounds c.args.self.now (subst IsPlan c.self.view_is c.self.invariant.plan) c.args.id c.requires)

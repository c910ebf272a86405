use Rattle.std.proofs.Common.{◌≡◌, sym, subst, ◌∙◌}
use Rattle.desk_laws.specs.Own.{IsHandOn}
use Rattle.desk_laws.specs.declared.hand.Hand.TheVariants.{Sealed}
use Rattle.steps.specs.Steps.{IsPutDown}
use Rattle.steps.proofs.give.put_down.Goals as goal

pub returns-in-Sealed-clause-down : goal.returns-in-Sealed-clause-down
returns-in-Sealed-clause-down g c p on =
    let times = g.T.PartialOrder.times in
    let is : c.args.hand.now ≡ Sealed c.in-Sealed.node c.in-Sealed.batch = sym c.replace-done.ensures.value ∙ c.in-Sealed.is in
    subst (λ h. IsPutDown times p h c.args.desk.now c.put_away.new.self) (sym is)
    (c.put_away.ensures.away p (subst (λ h. IsHandOn times p c.args.desk.now h) is on))

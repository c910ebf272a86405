use Rattle.std.proofs.Common.{length, sym, subst}
use Rattle.progress.specs.Kept.{AreAsked, HaveChanged, IsForgotten}
use Rattle.progress.proofs.AskedLemmas.{changed_at_all, forgotten_still}
use Rattle.progress.proofs.table.Table.forget.Goals as goal

pub returns : goal.returns
returns g c =
    let times = g.T.PartialOrder.times in
    let R = IsForgotten times c.args.graph.now c.args.place.now c.args.t.now in
    let asked = c.deref.result.now in
    let known = subst (λ xs. AreAsked xs c.self.inside.kept.items) (sym c.deref.ensures.value) c.self.invariant in
    subst (λ old. HaveChanged R old c.forget_in_each.new.kept.items (length old)) c.self.view_is
    (changed_at_all R (forgotten_still c.args.graph.now c.args.place.now times c.args.t.now) asked c.self.inside.kept.items c.forget_in_each.new.kept.items known c.forget_in_each.ensures)

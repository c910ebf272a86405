use Rattle.std.proofs.Common.{length, sym, subst}
use Rattle.progress.specs.Kept.{AreAsked, HaveChanged, IsInserted}
use Rattle.progress.proofs.AskedLemmas.{changed_at_all, inserted_still}
use Rattle.progress.proofs.table.Table.insert.Goals as goal

pub returns-clause-inserted : goal.returns-clause-inserted
returns-clause-inserted g c =
    let times = g.T.PartialOrder.times in
    let R = IsInserted times c.args.graph.now c.args.place.now c.args.t in
    let asked = c.deref.result.now in
    let known = subst (λ xs. AreAsked xs c.self.inside.kept.items) (sym c.deref.ensures.value) c.self.invariant in
    subst (λ old. HaveChanged R old c.insert_in_each.new.kept.items (length old)) c.self.view_is
    (changed_at_all R (inserted_still c.args.graph.now c.args.place.now times c.args.t) asked c.self.inside.kept.items c.insert_in_each.new.kept.items known c.in_ok-insert_in_each.ensures.inserted)

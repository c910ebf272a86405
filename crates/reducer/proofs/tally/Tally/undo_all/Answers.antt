use Rattle.std.proofs.Common.{◌∙◌, ap, sym, rules, FitsSigned, w64}
use Rattle.std.proofs.lemmas.Int.{to_z-of_z}
use Rattle.reducer.specs.Tallies.{set_count, undone}
use Rattle.reducer.proofs.TallyLemmas.{undone_last}
use Rattle.reducer.proofs.tally.Tally.undo_all.Goals as goal

pub loop-last-preserved : goal.loop-last-preserved
loop-last-preserved c =
    let left = c.pop.new.self.items in
    let last = c.in-Some.last in
    let now = c.loop-last.self in
    let fits : FitsSigned w64 last.count = search rules in
    ap (undone left) (c.set.ensures ∙ ap (λ n. set_count last.place n now) (to_z-of_z w64 last.count fits))
    ∙ (sym (ap (λ us. undone us now) c.in-Some.ensures.items ∙ undone_last left last now)
    ∙ c.loop-last.invariant)

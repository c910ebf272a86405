use Rattle.std.proofs.Common.{◌≡◌, ◌+◌, false, ◌∷◌, ◌||◌, drop, ap, sym, ◌∙◌, arith}
use Rattle.std.proofs.lemmas.Grind.{common_steps}
use Rattle.lattice.specs.Frontiers.{is_beyond}
use Rattle.progress.specs.CountLists.{listed}
use Rattle.progress.proofs.CountListLemmas.{listed_first}
use Rattle.progress.proofs.scan.is_any_entry.Goals as goal

pub loop-entry-preserved : goal.loop-entry-preserved
loop-entry-preserved g c =
    let times = g.T.PartialOrder.times in
    let t = c.args.t.now in
    let x = c.entry-item.result in
    let rest = drop (c.loop-entry.entry-index + 1) c.args.few.now in
    let left : drop c.loop-entry.entry-index c.args.few.now ≡ x ∷ rest = grind (arith, common_steps) in
    let none : times.below x.0 t ≡ false = sym c.less_equal.ensures ∙ c.if-less_equal.false in
    sym (ap (λ es. is_beyond times (listed es) t) left ∙ (listed_first times x.0 x.1 (listed rest) t ∙ ap (λ b. b || is_beyond times (listed rest) t) none))
    ∙ c.loop-entry.invariant

use Rattle.std.proofs.Common.{◌≡◌, sym, ap, ◌∙◌, subst, IsTrue, arith}
use Rattle.std.proofs.lemmas.Grind.{common_steps}
use Rattle.lattice.specs.Representatives.{representative_of}
use Rattle.lattice.proofs.RepresentativeLemmas.{representative_keeps, representative_later, representative_stays}
use Rattle.lattice.proofs.compaction.representative.Goals as goal

pub returns-after-loop-f-clause-keeps : goal.returns-after-loop-f-clause-keeps
returns-after-loop-f-clause-keeps g c s h =
    let m = g.T.PartialOrder.times in
    let value : c.loop-f.met ≡ representative_of m c.args.frontier.now c.args.t = grind (arith, common_steps) in
    representative_keeps g.met.T.PartialOrder.order g.met.T.Lattice.bounds c.args.frontier.now c.args.t s h
    ∙ sym (ap (λ r. g.T.PartialOrder.times.below r s) value)

pub returns-after-loop-f-clause-later : goal.returns-after-loop-f-clause-later
returns-after-loop-f-clause-later g c =
    let m = g.T.PartialOrder.times in
    let value : c.loop-f.met ≡ representative_of m c.args.frontier.now c.args.t = grind (arith, common_steps) in
    subst (λ r. IsTrue (g.T.PartialOrder.times.below c.args.t r)) (sym value)
    (representative_later g.met.T.PartialOrder.order g.met.T.Lattice.bounds c.args.frontier.now c.args.t)

pub returns-after-loop-f-clause-stays : goal.returns-after-loop-f-clause-stays
returns-after-loop-f-clause-stays g c h =
    let m = g.T.PartialOrder.times in
    let value : c.loop-f.met ≡ representative_of m c.args.frontier.now c.args.t = grind (arith, common_steps) in
    value ∙ representative_stays g.met.T.PartialOrder.order g.met.T.Lattice.bounds c.args.frontier.now c.args.t h

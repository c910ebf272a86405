use Rattle.std.proofs.Common.{◌++◌, ◌∙◌, subst}
use Rattle.progress.specs.Several.{items_at}
use Rattle.progress.specs.Tallies.{SameCounts}
use Rattle.progress.specs.declared.place.Place.TheVariants.{Input}
use Rattle.outstanding.specs.Inputs.{front_at}
use Rattle.accounts.proofs.LoopLemmas.{one_more_input}
use Rattle.accounts.proofs.accounts.count_inputs.Goals as goal

pub loop-n-preserved : goal.loop-n-preserved
loop-n-preserved g c =
    let mid = c.loop-n.tally.items in
    let new = c.add_all.new.self.items in
    let here = subst (λ ts. SameCounts new (items_at (Input c.new-input.result) ts ++ mid)) c.of.ensures c.in_ok-add_all.ensures.counted in
    let added = subst (λ k. SameCounts new (items_at (Input k) (front_at k c.args.inputs.now) ++ mid)) c.new-input.ensures here in
    (one_more_input c.args.inputs.now c.loop-n.n mid new c.loop-n.invariant.0 added, (c.add_all.ensures.nodes ∙ c.loop-n.invariant.1))

use Rattle.std.proofs.Common.{◌≡◌, ◌∙◌}
use Rattle.update.proofs.CopyLemmas.{copied_more, copied_all}
use Rattle.update.proofs.bag.BagClone.clone.Goals as goal

pub loop-update-preserved : goal.loop-update-preserved
loop-update-preserved c =
    copied_more c.deref-update-items.result.now c.loop-update.update-index _ _ _ _ c.loop-update-test.true c.loop-update.invariant c.update-item.is c.copy.ensures c.in_ok-push.ensures.items

pub invariant_of-result : goal.invariant_of-result
invariant_of-result c =
    let all : c.loop-update.entries.items ≡ c.self.inside.entries.items = copied_all _ _ _ c.loop-update-test.false c.loop-update.invariant ∙ c.deref-update-items.ensures.value in
    rw all c.self.invariant

pub returns : goal.returns
returns c =
    let all : c.loop-update.entries.items ≡ c.self.inside.entries.items = copied_all _ _ _ c.loop-update-test.false c.loop-update.invariant ∙ c.deref-update-items.ensures.value in
    record { cases = rw all c.self.view_is }

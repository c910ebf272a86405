use Rattle.std.proofs.Common.{◌≡◌, ◌∙◌}
use Rattle.update.proofs.CopyLemmas.{put_more, copied_all}
use Rattle.plan.proofs.items.ItemsClone.clone.Goals as goal

pub loop-item-preserved : goal.loop-item-preserved
loop-item-preserved c =
    put_more c.deref-item-items.result.now c.loop-item.item-index _ _ _ c.loop-item-test.true c.loop-item.invariant c.in_ok-push.ensures.items

pub returns : goal.returns
returns c =
    let all : c.loop-item.items.items ≡ c.self.inside.items.items = copied_all _ _ _ c.loop-item-test.false c.loop-item.invariant ∙ c.deref-item-items.ensures.value in
    record { cases = all ∙ c.self.view_is }

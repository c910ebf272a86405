use Rattle.std.proofs.Common.{◌∙◌}
use Rattle.update.proofs.CopyLemmas.{copied_more, copied_all}
use Rattle.update.proofs.lists.Updates.copy.Goals as goal

pub loop-update-preserved : goal.loop-update-preserved
loop-update-preserved g c =
    let i = c.loop-update in
    copied_more c.as_slice-update-items.result.now i.update-index i.items.items c.push.new.self.items c.update-item.result c.copy.result c.loop-update-test.true i.invariant c.update-item.is c.copy.ensures c.in_ok-push.ensures.items

pub returns-clause-copied : goal.returns-clause-copied
returns-clause-copied g c =
    let i = c.loop-update in
    copied_all c.as_slice-update-items.result.now i.update-index i.items.items c.loop-update-test.false i.invariant ∙ c.as_slice-update-items.ensures

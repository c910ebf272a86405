use Rattle.std.proofs.Common.{◌≡◌, take}
use Rattle.plan.proofs.items.ItemsClone.clone.Given as goal

-- the items so far are copied
abbrev pub invariant-loop-item : goal.invariant-loop-item
invariant-loop-item l = l.items.items ≡ take l.item-index l.item-items

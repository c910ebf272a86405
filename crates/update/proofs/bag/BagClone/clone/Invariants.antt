use Rattle.std.proofs.Common.{◌≡◌, take}
use Rattle.update.proofs.bag.BagClone.clone.Given as goal

-- the entries so far are copied
abbrev pub invariant-loop-update : goal.invariant-loop-update
invariant-loop-update l = l.entries.items ≡ take l.update-index l.update-items

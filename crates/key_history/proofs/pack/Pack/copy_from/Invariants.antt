use Rattle.std.proofs.Common.{◌≡◌, ◌++◌, take, drop}
use Rattle.key_history.specs.Packs.{columns_before}
use Rattle.key_history.proofs.pack.Pack.copy_from.Given as goal

-- the updates so far are copied, and the next row begins at the place
abbrev pub invariant-loop-i : goal.invariant-loop-i
invariant-loop-i g l = record {
  copied : l.list.items ≡ l.fn.list.items ++ drop l.from (take l.i l.self);
  place : l.place ≡ columns_before l.i l.self;
}

use Rattle.std.proofs.Common.{◌≡◌, ◌++◌, take, Bool, List, ℤ, IsTrue}
use Rattle.std.specs.List.{list_all}
use Rattle.update.specs.Bags.{Alike, Entry}
use Rattle.update.specs.Updates.{as_of}
use Rattle.reducer.specs.Tallies.{undone}
use Rattle.correction.proofs.tallied.add_near.Given as goal

-- the updates so far were taken and noted
abbrev pub invariant-loop-update : goal.invariant-loop-update
invariant-loop-update g l = record {
  added : Alike l.base (l.initial.base ++ as_of g.T.PartialOrder.times l.time (take l.update-index l.near));
  undone_is : undone l.noted.items l.base ≡ undone l.initial.noted.items l.initial.base;
  among : (p : List ℤ → Bool) → IsTrue (list_all (λ (e : Entry). p e.row) l.initial.base) → IsTrue (list_all (λ (e : Entry). p e.row) l.base);
}

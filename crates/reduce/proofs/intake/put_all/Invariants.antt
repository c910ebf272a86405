use Rattle.std.proofs.Common.{◌≡◌, ◌≤◌, ◌++◌, ℕ, ℤ, List, length, map, slice_get}
use Rattle.std.specs.Option.{IsSomeAnd}
use Rattle.std.specs.Vec.Iter.{into_iter_items, into_iter_len}
use Rattle.reduce.specs.Histories.{AreHistories, IsWaiting, history_of}
use Rattle.reduce.specs.Intake.{made_from, or_else}
use Rattle.reduce.proofs.intake.put_all.Given as goal

-- the new times so far are put, and there is room for the others
abbrev pub invariant-loop-renewal : goal.invariant-loop-renewal
invariant-loop-renewal g l = record {
  whole : l.fn.made.items ≡ l.yielded ++ into_iter_items l.renewal-iterator;
  left : into_iter_len l.renewal-iterator ≡ length (into_iter_items l.renewal-iterator);
  room : length (into_iter_items l.renewal-iterator) ≤ l.histories.spare;
  places : length (into_iter_items l.renewal-iterator) ≤ l.waiting.spare;
  waiting : IsWaiting l.histories.items l.waiting.items;
  found : (key : List ℤ) → history_of key l.histories.items ≡ or_else (history_of key (map (made_from l.fn.histories.items) l.yielded)) (history_of key l.fn.histories.items);
  known : (k : ℕ) → AreHistories g.T.Ord.cmp k l.fn.histories.items → AreHistories g.T.Ord.cmp k (map (made_from l.fn.histories.items) l.yielded) → AreHistories g.T.Ord.cmp k l.histories.items;
  kept : (i : ℕ) (key : List ℤ) → IsSomeAnd (slice_get l.fn.histories.items i) (λ h. h.key ≡ key) → IsSomeAnd (slice_get l.histories.items i) (λ h. h.key ≡ key);
}

use Rattle.std.proofs.Common.{◌≡◌, ◌≤◌, ◌-◌, true, false, length}
use Rattle.std.specs.List.{AllWithin}
use Rattle.oracle.specs.Keys.{is_before_key}
use Rattle.oracle.proofs.keys.before_key.Given as goal

-- the entries below `low` are before the key, and those from `high` on are not
abbrev pub invariant-loop-low : goal.invariant-loop-low
invariant-loop-low l = record {
  order : l.low ≤ l.high;
  inside : l.high ≤ length l.bag;
  before : AllWithin (λ e. is_before_key l.equal l.key e ≡ true) l.bag 0 l.low;
  behind : AllWithin (λ e. is_before_key l.equal l.key e ≡ false) l.bag l.high (length l.bag);
}

abbrev pub decreases-loop-low : goal.decreases-loop-low
decreases-loop-low l = l.high - l.low

use Rattle.std.proofs.Common.{◌≡◌, ◌≤◌, ◌++◌}
use Rattle.std.specs.Prelude.{string_bytes}
use Rattle.dictionary.specs.Decimals.{lowest}
use Rattle.dictionary.proofs.decimal.push_digits.Given as goal

abbrev pub invariant-loop-left : goal.invariant-loop-left
invariant-loop-left l = record {
  few : l.left ≤ l.count;
  pushed : string_bytes l.text ++ lowest l.left l.number ≡ string_bytes l.fn.text ++ lowest l.count l.number;
}

abbrev pub decreases-loop-left : goal.decreases-loop-left
decreases-loop-left l = l.left

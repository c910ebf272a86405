use Rattle.std.proofs.Common.{◌≡◌}
use Rattle.std.specs.List.{filter, flat_map}
use Rattle.plan.specs.Ancestors.{feeds, numbers_below}
use Rattle.oracle.specs.Evaluation.{list_of}
use Rattle.oracle.proofs.difference.open_for.Given as goal

-- the elements so far
abbrev pub invariant-loop-n : goal.invariant-loop-n
invariant-loop-n g l = l.times.items ≡ flat_map (list_of l.plan l.frontiers) (filter (λ m. feeds l.plan m l.view) (numbers_below l.n))

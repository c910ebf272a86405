use Rattle.std.proofs.Common.{◌≡◌}
use Rattle.std.specs.List.{filter, flat_map}
use Rattle.plan.specs.Ancestors.{feeds, numbers_below}
use Rattle.outstanding.specs.Inputs.{front_at}
use Rattle.engines.proofs.oracle_engine.open_for.Given as goal

-- the elements so far
abbrev pub invariant-loop-n : goal.invariant-loop-n
invariant-loop-n l = l.times.items ≡ flat_map (λ i. front_at i l.inputs) (filter (λ m. feeds l.plan m l.view) (numbers_below l.n))

-- When an engine may refuse because a number is too large: the changes that it accepted give some
-- node a bound that does not fit in 64 bits.
use Rattle.std.specs.Prelude.{List}
use Rattle.std.proofs.Common.{inl, inr}
use Rattle.update.specs.declared.refusal.Refusal.{Refusal}
use Rattle.plan.specs.Bounds.{HasLargeBound}
use Rattle.plan.specs.declared.node.Node.{Node}
use Rattle.histories.specs.Histories.States.{fed_to}
use Rattle.update.specs.Refusals.{IsMemoryOrOverflow}
use Rattle.lattice.specs.Bitimes.{bitime_times, bitime_cmp}
use Rattle.engines.specs.Engines.{EndsRun}
use Rattle.engines.specs.Bitemporal.{BitemporalSession}

-- the changes that the session accepted give some node a bound of 2^63 or more
abbrev pub IsLarge : List Node → BitemporalSession → Type 0
IsLarge p s = HasLargeBound bitime_times bitime_cmp p (λ i. fed_to i s.fed)

-- a refusal that ends a run without threads: memory was refused, or a number is too large and the
-- session is large
abbrev pub EndsByBound : List Node → BitemporalSession → Refusal → Type 0
EndsByBound p s refusal = IsMemoryOrOverflow (IsLarge p s) refusal

-- both engines keep the law `ending` by this
pub ends_by_bound : (p : List Node) (s : BitemporalSession) (refusal : Refusal)
    → EndsByBound p s refusal → EndsRun refusal
ends_by_bound p s refusal (inl memory) = inl memory
ends_by_bound p s refusal (inr large) = inr (inl large.0)

-- What a contract sees of a view, and what a view keeps of its last read.
use Rattle.std.specs.Prelude.{◌≡◌, ℕ, ◌≤◌, Bool, not, List, length, take, drop}
use Rattle.std.specs.List.{filter, list_any}
use Rattle.update.specs.Bags.{Entry, Alike, HasLargeCount}
use Rattle.update.specs.Updates.{as_of}
use Rattle.update.specs.declared.change.Update.{Update}
use Rattle.update.specs.declared.refusal.Refusal.{Refusal}
use Rattle.plan.specs.Ancestors.{numbers_below}
use Rattle.update.specs.Refusals.{IsMemoryOrOverflow}
use Rattle.lattice.specs.Times.{Times}

-- a view: the frontier beyond which it may be read, and what it captured
pub record ViewState (T : Type 0) : Type 0 where
  pub since : List T
  pub captured : List (Update T)

-- the update at a position, as a list; empty if the position is past the end
abbrev pub update_at : {T : Type 0} → List (Update T) → ℕ → List (Update T)
update_at us k = take 1 (drop k us)

module _ {T : Type 0} (times : Times T) where
  -- summed to a time, some row of the updates has a count that does not fit in 64 bits
  abbrev pub HasLargeSum : List (Update T) → T → Type 0
  HasLargeSum us t = HasLargeCount (as_of times t us)

  -- how the sum of updates at a time may be refused
  abbrev pub IsSumRefusal : List (Update T) → T → Refusal → Type 0
  IsSumRefusal us t refusal = IsMemoryOrOverflow (HasLargeSum us t) refusal

  -- the update at a position is not at or before t
  abbrev pub is_later_at : T → List (Update T) → ℕ → Bool
  is_later_at t us k = list_any (λ u. not (times.below u.time t)) (update_at us k)

  -- the positions below n of the updates that are not at or before t
  abbrev pub later_below : T → List (Update T) → ℕ → List ℕ
  later_below t us n = filter (is_later_at t us) (numbers_below n)

  -- a read at a time: its bag is the sum of the first `known` captured updates to that time, and
  -- `later` are the positions of those of them that are not at or before it
  pub record IsReadOf (captured : List (Update T)) (time : T) (bag : List Entry) (known : ℕ) (later : List ℕ) : Type 0 where
    pub within : known ≤ length captured
    pub sum : Alike bag (as_of times time (take known captured))
    pub rest : later ≡ later_below time captured known

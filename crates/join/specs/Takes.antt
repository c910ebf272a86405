-- What a join answers if one of its sides takes a new batch. The definitions serve either side: us
-- are updates of the side itself, and vs, stored and got are updates of the other one.
use Rattle.std.specs.Prelude.{◌≡◌, ◌≤◌, ℕ, ◌+◌, ◌-◌, ◌*◌, ◌^◌, Bool, List, ℤ, IsTrue}
use Rattle.std.specs.List.{list_all}
use Rattle.std.specs.declared.cmp.Ordering.{Ordering}
use Rattle.lattice.specs.Times.{Times}
use Rattle.update.specs.Bags.{Alike}
use Rattle.update.specs.Refusals.{IsMemoryOrOverflow}
use Rattle.update.specs.Updates.{as_of, size, total_where, HasLargeTotal, IsConsolidated}
use Rattle.update.specs.declared.change.Update.{Update}
use Rattle.update.specs.declared.refusal.Refusal.{Refusal}
use Rattle.update.specs.declared.refusal.Refusal.TheVariants.{Overflow}
use Rattle.batch.specs.Intervals.{all_times_beyond}
use Rattle.join.specs.declared.side.Side.{Side}
use Rattle.join.specs.declared.side.Side.TheVariants.{Left, Right}
use Rattle.join.specs.Pairs.{pairs, pairs_fit, is_wide}
use Rattle.join.specs.Parts.{HasLargePart}
use Rattle.join.specs.Sides.{all_rows_have, keys_among}

-- the width of a pair, if rows of the side have w columns and those of the other side v
abbrev pub side_width : Side → ℕ → ℕ → ℕ → ℕ
side_width Left k w v = w + (v - k)
side_width Right k w v = v + (w - k)

module _ {T : Type 0} where
  -- the pairs of a side's updates with those of the other side; the left row is always the first
  abbrev pub side_pairs : Side → Times T → ℕ → List (Update T) → List (Update T) → List (Update T)
  side_pairs Left times k us vs = pairs times k us vs
  side_pairs Right times k us vs = pairs times k vs us

  -- the rows of all these pairs have at most 8 columns
  abbrev pub side_pairs_fit : Side → ℕ → List (Update T) → List (Update T) → Bool
  side_pairs_fit Left k us vs = pairs_fit k us vs
  side_pairs_fit Right k us vs = pairs_fit k vs us

  -- a side may take the updates us, if the other trace stores vs and has this since: no time is
  -- before the since, and the rows have the key and fit
  pub record CanTake (side : Side) (times : Times T) (k : ℕ) (us : List (Update T)) (since : List T) (vs : List (Update T)) : Type 0 where
    pub later : IsTrue (all_times_beyond times since us)
    pub wide : IsTrue (list_all (λ u. is_wide k u.row) us)
    pub narrow : IsTrue (side_pairs_fit side k us vs)

  -- out has the sums and totals of the pairs of us with got; it is no larger than the product of
  -- both sizes, and no total of the pairs is too large
  pub record HasPairs (side : Side) (times : Times T) (k : ℕ) (us got out : List (Update T)) : Type 0 where
    pub sums : (t : T) → Alike (as_of times t out) (as_of times t (side_pairs side times k us got))
    pub totals : (p : List ℤ → T → Bool) → total_where p out ≡ total_where p (side_pairs side times k us got)
    pub load : size out ≤ size us * size got
    pub exact : HasLargeTotal times (side_pairs side times k us got) → ⊥

  -- out answers the take of us: it is consolidated and has the pairs of us with all that was
  -- inserted on the other side. Its times are beyond each frontier that those of us are beyond, and
  -- its rows have the width of pairs and keys of us
  pub record IsTakeAnswer (side : Side) (times : Times T) (cmp : T → T → Ordering) (k : ℕ) (us vs : List (Update T)) (WasInserted : List (Update T) → Type 0) (out : List (Update T)) : Type 0 where
    pub consolidated : IsConsolidated cmp out
    pub joined : (got : List (Update T)) → WasInserted got → HasPairs side times k us got out
    pub beyond : (G : List T) → IsTrue (all_times_beyond times G us) → IsTrue (all_times_beyond times G out)
    pub width : (w v : ℕ) → IsTrue (all_rows_have w us) → IsTrue (all_rows_have v vs) → IsTrue (all_rows_have (side_width side k w v) out)
    pub rows : IsTrue (keys_among k us out)

  -- the take of us is refused: for want of memory, or since some pairs with what is stored have too
  -- large a total. An overflow comes only if both sizes multiplied are at least 2^63
  pub record IsTakeRefusal (side : Side) (times : Times T) (k : ℕ) (us stored : List (Update T)) (WasInserted : List (Update T) → Type 0) (refused : Refusal) : Type 0 where
    pub cause : IsMemoryOrOverflow (HasLargePart times (side_pairs side times k us stored)) refused
    pub large : refused ≡ Overflow → (got : List (Update T)) → WasInserted got → 2 ^ 63 ≤ size us * size got

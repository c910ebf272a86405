-- Reading a part of a batch, one update after the other.
use Rattle.std.proofs.Common.{◌≡◌, ℕ, ℤ, true, ◌+◌, ◌≤◌, ◌<◌, List, [], ◌∷◌, ◌++◌, map, length, slice_get, IsSomeAnd, refl, ◌∙◌, ap, append_assoc}
use Rattle.std.specs.Prelude.{slice_range}
use Rattle.update.specs.declared.change.Update.{Update}
use Rattle.reduce.specs.Seen.{as_seen}
use Rattle.reduce.proofs.RunLemmas.{range_mapped}

-- the image of one more element of a part is pushed
pub range_pushed : {X Y : Type 0} (f : X → Y) (xs : List X) (before old : List Y) (y : Y) (a i : ℕ) → a ≤ i → i < length xs → IsSomeAnd (slice_get xs i) (λ x. y ≡ f x)
    → old ≡ before ++ map f (slice_range xs a i) → old ++ y ∷ [] ≡ before ++ map f (slice_range xs a (i + 1))
range_pushed f xs before old y a i from within h e =
    let read = map f (slice_range xs a i) in
    ap (λ ys. ys ++ y ∷ []) e
    ∙ (append_assoc before read (y ∷ []) ∙ ap (λ ys. before ++ ys) (range_mapped f xs a i read (read ++ y ∷ []) y from within h refl refl))

-- a reducer that sees rows is given the updates as they are
pub all_seen : {T : Type 0} (key : List ℤ) (us : List (Update T)) → map (as_seen true key) us ≡ us
all_seen key [] = refl
all_seen key (u ∷ us) = ap (λ vs. u ∷ vs) (all_seen key us)

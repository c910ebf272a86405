-- Histories: lists of entries, the newest first.
use Rattle.std.specs.Prelude.{◌≡◌, ◌≢◌, ℕ, eqb, List, [], ◌∷◌, ◌++◌}
use Rattle.std.specs.List.{filter}
use Rattle.hub.specs.declared.view.Entry.{Entry}

-- the event, made by the pass of this number
abbrev pub entry : {E : Type 0} → ℕ → E → Entry E
entry by event = record { by = by; event = event }

module _ {E : Type 0} where
  -- none of these entries is by the pass of this number
  abbrev pub NoneBy : ℕ → List (Entry E) → Type 0
  NoneBy n [] = Unit {0}
  NoneBy n (e ∷ es) = (e.by ≢ n) × NoneBy n es

  -- each of these entries is by the pass of this number
  abbrev pub AllBy : ℕ → List (Entry E) → Type 0
  AllBy n [] = Unit {0}
  AllBy n (e ∷ es) = (e.by ≡ n) × AllBy n es

  -- of these entries, those by the pass of this number
  abbrev pub by_pass : ℕ → List (Entry E) → List (Entry E)
  by_pass n es = filter (λ e. eqb e.by n) es

  -- the later history is the earlier one with more entries on top
  abbrev pub EndsIn : List (Entry E) → List (Entry E) → Type 0
  EndsIn later earlier = (more : List (Entry E)) × (later ≡ more ++ earlier)

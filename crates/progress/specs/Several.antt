-- Several items that are counted together.
use Rattle.std.specs.Prelude.{List, ◌++◌, map}
use Rattle.progress.specs.declared.place.Place.{Place}
use Rattle.progress.specs.declared.counted.Counted.{Counted}
use Rattle.progress.specs.Tallies.{SameCounts}

-- these times at a place
abbrev pub items_at : {T : Type 0} → Place → List T → List (Counted T)
items_at place ts = map (λ t. record { place = place; time = t }) ts

-- these items are counted, each at least as often as it occurs among them
pub record AreCounted {T : Type 0} (items counted : List (Counted T)) : Type 0 where
  pub rest : List (Counted T)
  pub counts : SameCounts items (counted ++ rest)

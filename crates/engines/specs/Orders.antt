-- Lists of times in order.
use Rattle.std.specs.Prelude.{List, [], ◌∷◌}
use Rattle.std.specs.BTreeSet.{insert_key}
use Rattle.std.specs.declared.cmp.Ordering.{Ordering}

-- the times in order, each once
abbrev pub in_order : {T : Type 0} → (T → T → Ordering) → List T → List T
in_order cmp [] = []
in_order cmp (t ∷ ts) = insert_key cmp (in_order cmp ts) t

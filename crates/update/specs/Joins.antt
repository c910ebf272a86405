-- The times at which two changes or more are first seen together.
use Rattle.std.specs.Prelude.{List, [], ◌∷◌, ◌++◌, map}
use Rattle.lattice.specs.Times.{Times}

-- the joins of all non-empty subsets of these times
abbrev pub joins_of : {T : Type 0} → Times T → List T → List T
joins_of times [] = []
joins_of times (t ∷ ts) = (joins_of times ts ++ map (λ s. times.joined s t) (joins_of times ts)) ++ t ∷ []

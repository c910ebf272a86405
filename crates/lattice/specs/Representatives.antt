-- The representative of a time as of a frontier: compaction may replace the time by it (McSherry et
-- al., Shared Arrangements, VLDB 2020).
use Rattle.std.specs.Prelude.{◌≡◌, List, [], ◌∷◌, IsTrue, map}
use Rattle.std.specs.List.{fold}
use Rattle.lattice.specs.Times.{Times}
use Rattle.lattice.specs.Frontiers.{is_beyond}

-- no time beyond the frontier tells t and u apart
abbrev pub Indistinguishable : {T : Type 0} → Times T → List T → T → T → Type 0
Indistinguishable {T} times frontier t u = (s : T) → IsTrue (is_beyond times frontier s) → times.below t s ≡ times.below u s

-- the meet, over the elements of the frontier, of the join of t with each; t itself if the frontier
-- is empty
abbrev pub representative_of : {T : Type 0} → Times T → List T → T → T
representative_of times [] t = t
representative_of times (f ∷ fs) t = fold times.met (times.joined t f) (map (times.joined t) fs)

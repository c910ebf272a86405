use Rattle.std.proofs.Common.{◌≡◌, ◌++◌, drop}
use Rattle.std.specs.List.{list_all}
use Rattle.outstanding.specs.Loads.{is_none}
use Rattle.outstanding.specs.Stations.{lot}
use Rattle.outstanding.proofs.stations.Row.is_empty.Given as goal

-- the stations that are left give the answer
abbrev pub invariant-loop-station : goal.invariant-loop-station
invariant-loop-station g l = list_all (λ s. is_none ((lot s).left ++ (lot s).right)) (drop l.station-index l.station-items) ≡ list_all (λ s. is_none ((lot s).left ++ (lot s).right)) l.station-items

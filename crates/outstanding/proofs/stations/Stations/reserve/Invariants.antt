use Rattle.std.proofs.Common.{◌≡◌, take}
use Rattle.outstanding.specs.Stations.{lots, HasRoomFor}
use Rattle.outstanding.proofs.stations.Stations.reserve.Given as goal

-- room is reserved for the bundles read so far
abbrev pub invariant-loop-bundle : goal.invariant-loop-bundle
invariant-loop-bundle g l = record {
  same : lots l.self ≡ lots l.fn.self;
  room : HasRoomFor (take l.bundle-index l.sent) l.self;
}

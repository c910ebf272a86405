use Rattle.std.proofs.Common.{◌≡◌, take}
use Rattle.std.specs.List.{All}
use Rattle.outstanding.specs.Stations.{lots, HasReleased}
use Rattle.outstanding.proofs.stations.Stations.release.Given as goal

-- no room is reserved at the places of the bundles read so far
abbrev pub invariant-loop-bundle : goal.invariant-loop-bundle
invariant-loop-bundle g l = record {
  same : lots l.self ≡ lots l.fn.self;
  none : All (λ b. HasReleased l.self b.place) (take l.bundle-index l.sent);
}

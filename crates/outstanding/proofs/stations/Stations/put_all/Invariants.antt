use Rattle.std.proofs.Common.{◌≡◌, length}
use Rattle.std.specs.Vec.Iter.{into_iter_items, into_iter_len}
use Rattle.outstanding.specs.Loads.{put_all}
use Rattle.outstanding.specs.Stations.{lots, HasRoomFor}
use Rattle.outstanding.proofs.stations.Stations.put_all.Given as goal

-- putting the bundles that are left, from here on, gives what putting all of them gives, and each
-- of them has room at its place
abbrev pub invariant-loop-bundle : goal.invariant-loop-bundle
invariant-loop-bundle g l = record {
  put : put_all (into_iter_items l.bundle-iterator) (lots l.self) ≡ put_all (into_iter_items l.initial.bundle-iterator) (lots l.fn.self);
  room : HasRoomFor (into_iter_items l.bundle-iterator) l.self;
  left : into_iter_len l.bundle-iterator ≡ length (into_iter_items l.bundle-iterator);
}

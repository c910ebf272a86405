use Rattle.std.proofs.Common.{◌≡◌, ◌++◌}
use Rattle.std.specs.List.{AllByRecursion}
use Rattle.session.specs.Openings.{IsFresh, IsInOrder, actors_of}
use Rattle.session.proofs.opening.seat_all.Given as goal

-- who has a seat, and who has none yet, are all actors in their order
abbrev pub invariant-loop-actor : goal.invariant-loop-actor
invariant-loop-actor g l = record {
  whole : actors_of l.crew.items l.seats.items ++ l.actor-iterator.rest.items ≡ l.fn.actors.items;
  order : IsInOrder l.workers l.crew.items l.seats.items;
  fresh : AllByRecursion IsFresh l.crew.items;
}

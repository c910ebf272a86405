use Rattle.std.proofs.lemmas.List.Filters.{FiltersInPlace}
use Rattle.row.specs.Filters.{passes}
use Rattle.linear.proofs.application.keep_passing.Given as goal

-- the updates so far that pass are at the front, and the others are unchanged from `next` on
abbrev pub invariant-loop-next : goal.invariant-loop-next
invariant-loop-next g l = FiltersInPlace (λ u. passes l.test u.row) l.initial.updates.items l.updates.items l.kept l.next

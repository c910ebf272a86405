use Rattle.std.proofs.Common.{map, take}
use Rattle.plan.specs.Changes.{query_at}
use Rattle.oracle.specs.Evaluation.{list_of}
use Rattle.oracle.specs.Listing.{IsListed}
use Rattle.oracle.proofs.difference.along.Given as goal

-- the list is finished for the times so far
abbrev pub invariant-loop-t : goal.invariant-loop-t
invariant-loop-t g l = IsListed g.T.PartialOrder.times g.T.Ord.cmp l.frontier (query_at g.T.PartialOrder.times l.plan (list_of l.plan (map (λ v. v.items) l.changes)) l.view) (take l.t-index l.t-items) l.listed.items

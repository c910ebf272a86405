use Rattle.std.proofs.Common.{map}
use Rattle.oracle.specs.Evaluation.{list_of}
use Rattle.oracle.specs.JoinClosures.{HavePassed}
use Rattle.oracle.proofs.JoinClosureLemmas.{CoversBelow}
use Rattle.oracle.proofs.join_closure.occurring.Given as goal

-- the passed times of the inputs so far that feed the view
abbrev pub invariant-loop-n : goal.invariant-loop-n
invariant-loop-n g l = record {
  covers : CoversBelow g.T.PartialOrder.times l.frontier l.plan (list_of l.plan (map (λ v. v.items) l.changes)) l.view l.n l.times.items;
  passed : HavePassed g.T.PartialOrder.times l.frontier l.times.items;
}

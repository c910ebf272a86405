use Rattle.std.proofs.Common.{subst}
use Rattle.std.specs.List.{Contains}
use Rattle.std.proofs.lemmas.List.Filters.{dedup_is}
use Rattle.std.proofs.lemmas.List.Kept.{Contains-dedup, Contains-from_dedup, IsStrictlySortedBy-dedup}
use Rattle.std.proofs.lemmas.List.Sorted.{Contains-permutation, IsPermutation-sym}
use Rattle.oracle.proofs.JoinClosureLemmas.{equal_from_eq}
use Rattle.oracle.proofs.join_closure.keep_once.Goals as goal

pub returns-clause-ascending : goal.returns-clause-ascending
returns-clause-ascending g c =
    rw (dedup_is _ _ _ c.dedup.ensures.filtered) (IsStrictlySortedBy-dedup g.met.T.Ord.total g.met.T.Ord.matches_eq _ c.sort_unstable.ensures.sorted)

pub returns-clause-kept : goal.returns-clause-kept
returns-clause-kept g c t h =
    let same = equal_from_eq g.T.PartialEq.eq g.met.T.Ord.matches_eq g.met.T.Lattice.extends.exact in
    rw (dedup_is _ _ _ c.dedup.ensures.filtered) (Contains-dedup g.met.T.Eq.laws same _ t (Contains-permutation _ _ t c.sort_unstable.ensures.permutation h))

pub returns-clause-among : goal.returns-clause-among
returns-clause-among g c t h =
    let among = Contains-from_dedup g.T.PartialEq.eq c.sort_unstable.new.self.items t (subst (λ xs. Contains xs t) (dedup_is _ _ _ c.dedup.ensures.filtered) h) in
    Contains-permutation _ _ t (IsPermutation-sym _ _ c.sort_unstable.ensures.permutation) among

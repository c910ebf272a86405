use Rattle.std.proofs.Common.{subst}
use Rattle.std.specs.List.{Contains}
use Rattle.std.proofs.lemmas.List.Filters.{dedup_is}
use Rattle.std.proofs.lemmas.List.Kept.{Contains-dedup, Contains-from_dedup, IsStrictlySortedBy-dedup}
use Rattle.std.proofs.lemmas.List.Sorted.{Contains-permutation, IsPermutation-sym}
use Rattle.joined_times.proofs.MemberLemmas.{same_from_contains}
use Rattle.joined_times.proofs.OrderLemmas.{equal_from_eq}
use Rattle.joined_times.proofs.times.keep_once.Goals as goal

pub returns-clause-ascending : goal.returns-clause-ascending
returns-clause-ascending g c =
    rw (dedup_is _ _ _ c.dedup.ensures.filtered) (IsStrictlySortedBy-dedup g.met.T.Ord.total g.met.T.Ord.matches_eq _ c.sort_unstable.ensures.sorted)

pub returns-clause-members : goal.returns-clause-members
returns-clause-members g c =
    let sorted = c.sort_unstable.new.self.items in
    let kept = dedup_is _ _ _ c.dedup.ensures.filtered in
    let same = equal_from_eq g.T.PartialEq.eq g.met.T.Ord.matches_eq g.met.T.Lattice.extends.exact in
    same_from_contains c.args.times.now.items c.dedup.new.self.items
    (λ t h. rw kept (Contains-dedup g.met.T.Eq.laws same sorted t (Contains-permutation _ _ t c.sort_unstable.ensures.permutation h)))
    (λ t h. Contains-permutation _ _ t (IsPermutation-sym _ _ c.sort_unstable.ensures.permutation)
    (Contains-from_dedup g.T.PartialEq.eq sorted t (subst (λ xs. Contains xs t) kept h)))

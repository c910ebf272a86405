-- In batches that are as of the since, nothing is left to be added up.
use Rattle.std.proofs.Common.{◌≡◌, ◌≢◌, List, [], ◌∷◌, IsTrue, subst}
use Rattle.std.specs.List.{AllByRecursion}
use Rattle.std.specs.Cmp.{IsTotalOrder}
use Rattle.std.specs.declared.cmp.Ordering.{Ordering}
use Rattle.lattice.specs.Times.{Times}
use Rattle.lattice.specs.Order.{PartialOrderLaws, LatticeLaws}
use Rattle.antichain.proofs.Lists.{among_contains}
use Rattle.batch.specs.Batches.{IsSealed}
use Rattle.batch.specs.Compaction.{are_compacted}
use Rattle.batch.specs.Descriptions.{BatchState}
use Rattle.batch.proofs.DeterminedLemmas.{compacted_apart}
use Rattle.spine.specs.Spines.{IsFolded}

module _ {T : Type 0} {times : Times T} {cmp : T → T → Ordering} (o : PartialOrderLaws times) (l : LatticeLaws times) (total : IsTotalOrder cmp) where
  pub all_folded : (since : List T) (bs : List (BatchState T)) → since ≢ [] → AllByRecursion (λ b. IsSealed cmp b.updates × IsTrue (are_compacted times b.description.since b.updates)) bs → AllByRecursion (λ b. b.description.since ≡ since) bs → AllByRecursion (IsFolded times since) bs
  all_folded since [] some known same = tt
  all_folded since (b ∷ bs) some known same = (
    λ u v m n row apart.
        compacted_apart o l total since b.updates u v some known.0.0 (subst (λ F. IsTrue (are_compacted times F b.updates)) same.0 known.0.1) (among_contains u b.updates m) (among_contains v b.updates n) row apart,
    all_folded since bs some known.1 same.1,
  )

-- Two intervals of which the second begins where the first ends make one interval.
use Rattle.std.proofs.Common.{◌≡◌, false, not, List, [], ◌∷◌, IsTrue, refl, sym, subst}
use Rattle.std.specs.Cmp.{IsTotalOrder}
use Rattle.std.specs.List.{list_all}
use Rattle.std.specs.declared.cmp.Ordering.{Ordering}
use Rattle.std.proofs.lemmas.Bool.{and_parts}
use Rattle.lattice.specs.Times.{Times}
use Rattle.lattice.specs.Order.{PartialOrderLaws}
use Rattle.lattice.specs.Frontiers.{is_beyond, all_beyond}
use Rattle.lattice.proofs.FrontierLemmas.{beyond_later, all_beyond_later}
use Rattle.antichain.specs.Antichains.{IsFrontier}
use Rattle.lattice.proofs.BoundLemmas.{same_test}
use Rattle.antichain.proofs.AntichainLemmas.{not_true, frontier_by_beyond}
use Rattle.update.specs.declared.change.Update.{Update}
use Rattle.batch.specs.Descriptions.{IsInterval}
use Rattle.batch.specs.Intervals.{is_between, all_between}

module _ {T : Type 0} {times : Times T} (o : PartialOrderLaws times) where
  -- a merged batch covers the interval of both batches
  pub whole_interval : {cmp : T → T → Ordering} (A B C D S : List T) → IsFrontier times cmp A → IsFrontier times cmp D → IsFrontier times cmp S → IsTrue (all_beyond times A B) → IsTrue (all_beyond times C D) → B ≡ C → IsInterval times cmp A D S
  whole_interval A B C D S a d s f g e = record {
    lower_frontier = a;
    upper_frontier = d;
    since_frontier = s;
    forward = all_beyond_later o A B D f (subst (λ E. IsTrue (all_beyond times E D)) (sym e) g);
  }

module _ {T : Type 0} where
  -- no time is between a frontier and itself
  pub nothing_between : (times : Times T) (F G : List T) → F ≡ G → (us : List (Update T)) → IsTrue (all_between times F G us) → us ≡ []
  nothing_between times F G e [] h = refl
  nothing_between times F G e (u ∷ us) h =
      let here = (and_parts (is_between times F G u.time) (all_between times F G us) h).0 in
      let parts = and_parts (is_beyond times F u.time) (not (is_beyond times G u.time)) here in
      absurd (not_true (is_beyond times G u.time) parts.1 (subst (λ E. IsTrue (is_beyond times E u.time)) e parts.0))

  -- no update passes a test that none passes
  pub none_left : (us : List (Update T)) → IsTrue (list_all (λ u. false) us) → us ≡ []
  none_left [] h = refl
  none_left (u ∷ us) h = cc

module _ {T : Type 0} {times : Times T} {cmp : T → T → Ordering} (o : PartialOrderLaws times) (total : IsTotalOrder cmp) where
  -- frontiers that are beyond each other are equal
  pub same_frontier : (F G : List T) → IsFrontier times cmp F → IsFrontier times cmp G → IsTrue (all_beyond times F G) → IsTrue (all_beyond times G F) → F ≡ G
  same_frontier F G f g there back =
      frontier_by_beyond o total F G f g
      (λ t. same_test (is_beyond times F t) (is_beyond times G t) (beyond_later o G F t back) (beyond_later o F G t there))

  -- if two neighbouring intervals make an empty one, then both are empty
  pub both_still : (A B C D : List T) → IsFrontier times cmp A → IsFrontier times cmp B → IsFrontier times cmp C → IsFrontier times cmp D → IsTrue (all_beyond times A B) → IsTrue (all_beyond times C D) → B ≡ C → A ≡ D → (A ≡ B) × (C ≡ D)
  both_still A B C D a b c d f g e h = (
    same_frontier A B a b f (subst (λ E. IsTrue (all_beyond times B E)) (sym h) (subst (λ E. IsTrue (all_beyond times E D)) (sym e) g)),
    same_frontier C D c d g (subst (λ E. IsTrue (all_beyond times D E)) e (subst (λ E. IsTrue (all_beyond times E B)) h f)),
  )

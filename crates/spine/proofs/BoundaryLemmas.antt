-- Which boundaries stay: those at which a hold stands.
use Rattle.std.proofs.Common.{◌≡◌, ℕ, Bool, List, [], ◌∷◌, ◌++◌, map, IsTrue, inl, inr, ⊎_elim, sym, ◌∙◌, ap, subst}
use Rattle.std.specs.List.{list_any, Contains}
use Rattle.std.proofs.lemmas.Bool.{or_left, or_right}
use Rattle.lattice.specs.Times.{Times}
use Rattle.lattice.specs.Order.{PartialOrderLaws}
use Rattle.lattice.specs.Frontiers.{all_beyond}
use Rattle.lattice.proofs.FrontierLemmas.{beyond_itself}
use Rattle.antichain.proofs.Lists.{Among, among_contains, contains_among}
use Rattle.batch.specs.Descriptions.{BatchState}
use Rattle.trace.specs.Holds.{HoldState}
use Rattle.spine.specs.HoldRules.{forbids}
use Rattle.spine.specs.Spines.{SpineState, IsWorked, boundaries}

any_among : {X : Type 0} (p : X → Bool) (x : X) (xs : List X) → Among x xs → IsTrue (p x) → IsTrue (list_any p xs)
any_among p x [] m h = absurd m
any_among p x (y ∷ xs) m h =
    ⊎_elim
    (λ e. or_left (p y) (list_any p xs) (ap p e ∙ h))
    (λ k. or_right (p y) (list_any p xs) (any_among p x xs k h))
    m

module _ {T : Type 0} where
  among_more : (u : List T) (bs : List (BatchState T)) (b : BatchState T) → Among u (map (λ (b : BatchState T). b.description.upper) bs) → Among u (map (λ (b : BatchState T). b.description.upper) (bs ++ b ∷ []))
  among_more u [] b m = absurd m
  among_more u (c ∷ bs) b m = ⊎_elim (λ e. inl e) (λ k. inr (among_more u bs b k)) m

  -- an insertion takes no boundary away
  pub boundary_inserted : (old new : SpineState T) (b : BatchState T) (u : List T) → new.list.start ≡ old.list.start → new.list.batches ≡ old.list.batches ++ b ∷ [] → Contains (boundaries old) u → Contains (boundaries new) u
  boundary_inserted old new b u start batches there =
      contains_among u (boundaries new)
      (subst (λ (bs : List (BatchState T)). Among u (new.list.start ∷ map (λ (b : BatchState T). b.description.upper) bs)) (sym batches)
      (⊎_elim
      (λ e. inl (start ∙ e))
      (λ k. inr (among_more u old.list.batches b k))
      (among_contains u (boundaries old) there)))

  module _ {times : Times T} (o : PartialOrderLaws times) where
    -- a hold forbids its own boundary
    pub own_forbidden : (hold : HoldState T) (holds : List (HoldState T)) → Contains holds hold → IsTrue (forbids times holds hold.physical)
    own_forbidden hold holds there =
        any_among (λ (k : HoldState T). all_beyond times k.physical hold.physical) hold holds (among_contains hold holds there) (beyond_itself o hold.physical)

    -- so work leaves it
    pub own_left : (spent lost : ℕ) (old new : SpineState T) (hold : HoldState T) → IsWorked times spent lost old new → Contains old.holds hold → Contains (boundaries old) hold.physical → Contains new.holds hold × Contains (boundaries new) hold.physical
    own_left spent lost old new hold worked held there = (
      subst (λ hs. Contains hs hold) (sym (ap (λ (s : SpineState T). s.holds) worked.kept)) held,
      worked.kept_open hold.physical there (own_forbidden hold old.holds held),
    )

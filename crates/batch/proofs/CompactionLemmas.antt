-- Moving each time to its representative changes nothing that a reader sees, and a second time it
-- changes nothing.
use Rattle.std.proofs.Common.{◌≡◌, Bool, cond, ◌&&◌, List, [], ◌∷◌, IsTrue, refl, sym, ◌∙◌, ap, subst, arith}
use Rattle.std.specs.Prelude.{ℤ, pos, unsigned_abs, ◌+◌, ◌≤◌}
use Rattle.std.specs.List.{list_all}
use Rattle.std.proofs.lemmas.Bool.{and_parts, and_from}
use Rattle.lattice.specs.Times.{Times}
use Rattle.lattice.specs.Order.{PartialOrderLaws, LatticeLaws}
use Rattle.lattice.specs.Frontiers.{is_beyond}
use Rattle.lattice.specs.Representatives.{representative_of}
use Rattle.lattice.proofs.RepresentativeLemmas.{representative_keeps, representative_later, representative_in_steps}
use Rattle.lattice.proofs.FrontierLemmas.{beyond_itself}
use Rattle.update.specs.Bags.{same_row, Alike}
use Rattle.update.specs.Updates.{as_of, size}
use Rattle.update.specs.declared.change.Update.{Update}
use Rattle.update.proofs.ConsolidatedLemmas.{summed_size, summed_size_is}
use Rattle.update.proofs.SumLemmas.{total_by-map, total_by-same}
use Rattle.update.proofs.UniqueLemmas.{count_as_of}
use Rattle.batch.specs.Compaction.{at_representative, compacted, are_compacted, StandFor, IsUpward}
use Rattle.batch.proofs.SumsLemmas.{sums_from_totals}

module _ {T : Type 0} (times : Times T) (F : List T) where
  summed_size_moved : (us : List (Update T)) → summed_size (compacted times F us) ≡ summed_size us
  summed_size_moved [] = refl
  summed_size_moved (u ∷ us) = ap (λ n. unsigned_abs u.diff + n) (summed_size_moved us)

  -- compaction keeps the size
  pub compacted_size : (us : List (Update T)) → size (compacted times F us) ≡ size us
  compacted_size us = sym (summed_size_is (compacted times F us)) ∙ summed_size_moved us ∙ summed_size_is us

module _ {T : Type 0} {times : Times T} (o : PartialOrderLaws times) (l : LatticeLaws times) where
  -- the representative of a representative is itself
  representative_twice : (F : List T) (t : T) → representative_of times F (representative_of times F t) ≡ representative_of times F t
  representative_twice [] t = refl
  representative_twice (f ∷ F) t = representative_in_steps o l (f ∷ F) (f ∷ F) t (λ e. cc) (beyond_itself o (f ∷ F))

  -- after compaction each time is its own representative
  pub compacted_once : (F : List T) (us : List (Update T)) → IsTrue (are_compacted times F (compacted times F us))
  compacted_once F [] = refl
  compacted_once F (u ∷ us) =
      let t = representative_of times F u.time in
      and_from (times.below (representative_of times F t) t) (are_compacted times F (compacted times F us))
      (subst (λ s. IsTrue (times.below s t)) (sym (representative_twice F u.time)) (o.reflexive t))
      (compacted_once F us)

  pub stand_once : (F : List T) (us vs : List (Update T)) → StandFor us (compacted times F vs) → IsTrue (are_compacted times F us)
  stand_once F us vs s = s.among (λ _ t. times.below (representative_of times F t) t) (compacted_once F vs)

  -- at times beyond the frontier a compacted list has the old sums
  pub compacted_sums : (F : List T) (us : List (Update T)) (t : T) → IsTrue (is_beyond times F t) → Alike (as_of times t (compacted times F us)) (as_of times t us)
  compacted_sums F us t h row =
      count_as_of times row t (compacted times F us)
      ∙ total_by-map adds (at_representative times F) us
      ∙ total_by-same (λ u. adds (at_representative times F u)) adds us (λ u. ap (λ b. cond (same_row u.row row && b) u.diff (pos 0)) (sym (representative_keeps o l F u.time t h)))
      ∙ sym (count_as_of times row t us)
    where
      adds : Update T → ℤ
      adds u = cond (same_row u.row row && times.below u.time t) u.diff (pos 0)

  -- so has what stands for it
  pub stand_sums : (F : List T) (us vs : List (Update T)) → StandFor us (compacted times F vs) → (t : T) → IsTrue (is_beyond times F t) → Alike (as_of times t us) (as_of times t vs)
  stand_sums F us vs s t h row = sums_from_totals times us (compacted times F vs) s.totals t row ∙ compacted_sums F vs t h row

  -- a test that later times pass too is passed after compaction
  pub compacted_upward : (F : List T) (p : List ℤ → T → Bool) → IsUpward times p → (us : List (Update T)) → IsTrue (list_all (λ u. p u.row u.time) us) → IsTrue (list_all (λ u. p u.row u.time) (compacted times F us))
  compacted_upward F p up [] h = refl
  compacted_upward F p up (u ∷ us) h =
      let parts = and_parts (p u.row u.time) (list_all (λ u. p u.row u.time) us) h in
      and_from (p u.row (representative_of times F u.time)) (list_all (λ u. p u.row u.time) (compacted times F us))
      (up u.row u.time (representative_of times F u.time) (representative_later o l F u.time) parts.0)
      (compacted_upward F p up us parts.1)

  pub stand_upward : (F : List T) (us vs : List (Update T)) → StandFor us (compacted times F vs) → (p : List ℤ → T → Bool) → IsUpward times p → IsTrue (list_all (λ u. p u.row u.time) vs) → IsTrue (list_all (λ u. p u.row u.time) us)
  stand_upward F us vs s p up h = s.among p (compacted_upward F p up vs h)

  pub stand_size : (F : List T) (us vs : List (Update T)) → StandFor us (compacted times F vs) → size us ≤ size vs
  stand_size F us vs s = let a = s.smaller in let e = compacted_size times F vs in omega (arith, a, e)

  -- times at or after one time are their own representatives as of it
  pub from_compacted : (f : T) (us : List (Update T)) → IsTrue (list_all (λ u. times.below f u.time) us) → IsTrue (are_compacted times (f ∷ []) us)
  from_compacted f [] h = refl
  from_compacted f (u ∷ us) h =
      let parts = and_parts (times.below f u.time) (list_all (λ u. times.below f u.time) us) h in
      and_from (times.below (times.joined u.time f) u.time) (are_compacted times (f ∷ []) us)
      (l.join_least u.time f u.time (o.reflexive u.time) parts.0)
      (from_compacted f us parts.1)

-- Sizes, which are sums of absolute diffs, added up over the workers. The bounds are proved with
-- these.
use Rattle.update.proofs.ConsolidatedLemmas.{summed_size, summed_size-append}
use Rattle.std.proofs.Common.{◌≡◌, ℕ, zero, suc, ◌+◌, ◌*◌, ◌<◌, ◌≤◌, Bool, true, false, cond, ◌&&◌, List, [], ◌∷◌, take, sym, refl, ◌∙◌, Option, Some, None, eqb, arith, unsigned_abs}
use Rattle.std.specs.List.{flat_map, filter}
use Rattle.std.proofs.lemmas.Bool.{eqb-true, eqb-false, ne_eqb}
use Rattle.std.proofs.Math.IntN.{ℤ, pos}
use Rattle.update.specs.Bags.{total_by}
use Rattle.update.specs.declared.change.Update.{Update}
use Rattle.histories.specs.declared.event.Fed.{Fed}
use Rattle.histories.specs.declared.event.Emission.{Emission}
use Rattle.histories.specs.Histories.Dataflows.{Dataflow, route}
use Rattle.histories.specs.Histories.States.{place, emitted_by, emitted_at, fed_to}
use Rattle.histories.specs.Histories.Shares.{part, share_from, share_fed}
use Rattle.histories.proofs.HistoryLemmas.KeptLemmas.{AreWorkers}

-- what an update adds to the size of its list
abbrev pub absolute : {T : Type 0} → Update T → ℤ
absolute u = pos (unsigned_abs u.diff)

-- a size as a total, so that lemmas of totals serve it
pub size_is : {T : Type 0} (us : List (Update T)) → total_by absolute us ≡ pos (summed_size us)
size_is [] = refl
size_is (u ∷ us) = rw (size_is us) refl

-- the sum of a function over the numbers below n
abbrev pub all : ℕ → (ℕ → ℕ) → ℕ
all zero f = 0
all (suc n) f = f n + all n f

-- a sum over the workers grows with each of its parts
pub all-le : (n : ℕ) (f g : ℕ → ℕ) → ((k : ℕ) → f k ≤ g k) → all n f ≤ all n g
all-le zero f g h = omega arith
all-le (suc n) f g h = let x = h n in let y = all-le n f g h in omega arith

-- the sum over the workers of sums is the sum of the sums
pub all-sum : (n : ℕ) (f g : ℕ → ℕ) → all n (λ k. f k + g k) ≡ all n f + all n g
all-sum zero f g = refl
all-sum (suc n) f g = let h = all-sum n f g in omega arith

-- a sum of products is no more than the product of the sums
pub all-product : (n : ℕ) (f g : ℕ → ℕ) → all n (λ k. f k * g k) ≤ all n f * all n g
all-product zero f g = omega arith
all-product (suc n) f g = step (f n) (g n) (all n f) (all n g) (all n (λ k. f k * g k)) (all-product n f g)
  where
    step : (a b x y s : ℕ) → s ≤ x * y → a * b + s ≤ (a + x) * (b + y)
    step a b x y s h = grind arith

all-zero : (n : ℕ) → all n (λ k. 0) ≡ 0
all-zero zero = refl
all-zero (suc n) = let h = all-zero n in omega arith

all-past : (n j x : ℕ) → n ≤ j → all n (λ k. cond (eqb j k) x 0) ≡ 0
all-past zero j x h = refl
all-past (suc n) j x h = rw (ne_eqb j n (λ e. absurd (omega arith))) (let z = all-past n j x (omega arith) in omega arith)

all-one : (n j x : ℕ) → j < n → all n (λ k. cond (eqb j k) x 0) ≡ x
all-one zero j x h = absurd (omega arith)
all-one (suc n) j x h = step (eqb j n) refl (all-one n j x)
  where
    step : (b : Bool) → eqb j n ≡ b → (j < n → all n (λ k. cond (eqb j k) x 0) ≡ x) → cond b x 0 + all n (λ k. cond (eqb j k) x 0) ≡ x
    step true e ih = let q = eqb-true j n e in let z = all-past n j x (omega arith) in omega arith
    step false e ih = let z = ih (below (eqb-false j n e)) in omega arith
      where
        below : (j ≡ n → ⊥) → j < n
        below d = omega arith

-- a sum in which at most one worker has something is at most that
pub all-at : (n j x : ℕ) → all n (λ k. cond (eqb j k) x 0) ≤ x
all-at zero j x = omega arith
all-at (suc n) j x = step (eqb j n) refl (all-at n j x)
  where
    step : (b : Bool) → eqb j n ≡ b → all n (λ k. cond (eqb j k) x 0) ≤ x → cond b x 0 + all n (λ k. cond (eqb j k) x 0) ≤ x
    step true e ih = let q = eqb-true j n e in let z = all-past n j x (omega arith) in omega arith
    step false e ih = omega arith

all-same : (n : ℕ) (f g : ℕ → ℕ) → ((k : ℕ) → f k ≡ g k) → all n f ≡ all n g
all-same zero f g h = refl
all-same (suc n) f g h = let x = h n in let y = all-same n f g h in omega arith

module _ {T : Type 0} where
  size-cond : (b : Bool) (us : List (Update T)) → summed_size (cond b us []) ≡ cond b (summed_size us) 0
  size-cond true us = refl
  size-cond false us = refl

  all-chosen : (b : Bool) (n j : ℕ) (us : List (Update T)) → j < n → all n (λ i. summed_size (cond (b && eqb j i) us [])) ≡ summed_size (cond b us [])
  all-chosen true n j us l = all-same n (λ i. summed_size (cond (eqb j i) us [])) (λ i. cond (eqb j i) (summed_size us) 0) (λ i. size-cond (eqb j i) us) ∙ all-one n j (summed_size us) l
  all-chosen false n j us l = all-zero n

  -- what the workers gave at a node adds up to what the node gave
  pub all-emitted : (n k : ℕ) (gs : List (Emission T)) → AreWorkers k gs → all k (λ j. summed_size (emitted_by n j gs)) ≡ summed_size (emitted_at n gs)
  all-emitted n k [] a = all-zero k
  all-emitted n k (g ∷ gs) a =
      all-same k (λ j. summed_size (emitted_by n j (g ∷ gs))) (λ j. summed_size (cond (eqb g.node n && eqb g.worker j) g.updates []) + summed_size (emitted_by n j gs))
      (λ j. summed_size-append (cond (eqb g.node n && eqb g.worker j) g.updates []) (emitted_by n j gs))
      ∙ (all-sum k (λ j. summed_size (cond (eqb g.node n && eqb g.worker j) g.updates [])) (λ j. summed_size (emitted_by n j gs))
      ∙ (rw (all-emitted n k gs a.1, all-chosen (eqb g.node n) k g.worker g.updates a.0) (sym (summed_size-append (cond (eqb g.node n) g.updates []) (emitted_at n gs)))))

  -- updates that are sent by key add up to no more than there were, over the workers
  pub all-routed : (n : ℕ) (to : List ℤ → ℕ) (us : List (Update T)) → all n (λ k. summed_size (filter (λ u. eqb (to u.row) k) us)) ≤ summed_size us
  all-routed n to [] = let z = all-zero n in omega arith
  all-routed n to (u ∷ us) =
      let a = all-same n (λ k. summed_size (filter (λ v. eqb (to v.row) k) (u ∷ us))) (λ k. cond (eqb (to u.row) k) (unsigned_abs u.diff) 0 + summed_size (filter (λ v. eqb (to v.row) k) us)) (λ k. one k (eqb (to u.row) k)) in
      let b = all-sum n (λ k. cond (eqb (to u.row) k) (unsigned_abs u.diff) 0) (λ k. summed_size (filter (λ v. eqb (to v.row) k) us)) in
      let c = all-at n (to u.row) (unsigned_abs u.diff) in
      let d = all-routed n to us in
      omega arith
    where
      one : (k : ℕ) (b : Bool) → summed_size (cond b (u ∷ filter (λ v. eqb (to v.row) k) us) (filter (λ v. eqb (to v.row) k) us)) ≡ cond b (unsigned_abs u.diff) 0 + summed_size (filter (λ v. eqb (to v.row) k) us)
      one k true = refl
      one k false = omega arith

  -- what the workers get along an edge adds up to no more than its source gave
  pub all-shared : (p : Dataflow) (s n : ℕ) (c : Option ℕ) (gs : List (Emission T)) → all n (λ k. summed_size (flat_map (share_from p (Some s) c k) gs)) ≤ summed_size (emitted_at s gs)
  all-shared p s n c [] = let z = all-zero n in omega arith
  all-shared p s n c (g ∷ gs) =
      let a = all-same n (λ k. summed_size (flat_map (share_from p (Some s) c k) (g ∷ gs))) (λ k. summed_size (share_from p (Some s) c k g) + summed_size (flat_map (share_from p (Some s) c k) gs)) (λ k. summed_size-append (share_from p (Some s) c k g) (flat_map (share_from p (Some s) c k) gs)) in
      let b = all-sum n (λ k. summed_size (share_from p (Some s) c k g)) (λ k. summed_size (flat_map (share_from p (Some s) c k) gs)) in
      let d = all-shared p s n c gs in
      let e = summed_size-append (cond (eqb g.node s) g.updates []) (emitted_at s gs) in
      let f = one (eqb g.node s) c in
      omega arith
    where
      one : (b : Bool) (c : Option ℕ) → all n (λ k. summed_size (cond b (part p c g.worker k g.updates) [])) ≤ summed_size (cond b g.updates [])
      one false c = let z = all-zero n in omega arith
      one true None =
          let a = all-same n (λ k. summed_size (cond (eqb g.worker k) g.updates [])) (λ k. cond (eqb g.worker k) (summed_size g.updates) 0) (λ k. size-cond (eqb g.worker k) g.updates) in
          let b = all-at n g.worker (summed_size g.updates) in
          omega arith
      one true (Some x) = all-routed n (λ r. route p (take x r)) g.updates

  -- what the workers get of the changes of an input adds up to no more than was fed
  pub all-fed : (p : Dataflow) (n j : ℕ) (fs : List (Fed T)) → all j (λ k. summed_size (flat_map (share_fed p (place n 0 k)) fs)) ≤ summed_size (fed_to n fs)
  all-fed p n j [] = let z = all-zero j in omega arith
  all-fed p n j (f ∷ fs) =
      let a = all-same j (λ k. summed_size (flat_map (share_fed p (place n 0 k)) (f ∷ fs))) (λ k. summed_size (cond (eqb f.input n && eqb (route p f.update.row) k) (f.update ∷ []) []) + summed_size (flat_map (share_fed p (place n 0 k)) fs))
      (λ k. summed_size-append (cond (eqb f.input n && eqb (route p f.update.row) k) (f.update ∷ []) []) (flat_map (share_fed p (place n 0 k)) fs)) in
      let b = all-sum j (λ k. summed_size (cond (eqb f.input n && eqb (route p f.update.row) k) (f.update ∷ []) [])) (λ k. summed_size (flat_map (share_fed p (place n 0 k)) fs)) in
      let d = all-fed p n j fs in
      let e = summed_size-append (cond (eqb f.input n) (f.update ∷ []) []) (fed_to n fs) in
      let g = one (eqb f.input n) in
      omega arith
    where
      one : (b : Bool) → all j (λ k. summed_size (cond (b && eqb (route p f.update.row) k) (f.update ∷ []) [])) ≤ summed_size (cond b (f.update ∷ []) [])
      one false = let z = all-zero j in omega arith
      one true =
          let a = all-same j (λ k. summed_size (cond (eqb (route p f.update.row) k) (f.update ∷ []) [])) (λ k. cond (eqb (route p f.update.row) k) (summed_size (f.update ∷ [])) 0) (λ k. size-cond (eqb (route p f.update.row) k) (f.update ∷ [])) in
          let b = all-at j (route p f.update.row) (summed_size (f.update ∷ [])) in
          omega arith

-- What one event changes: the sums at a time of the updates at a place, and of those that were to
-- come there.
use Rattle.std.proofs.Common.{◌≡◌, ℕ, zero, suc, Bool, true, false, cond, not, ◌&&◌, List, [], ◌∷◌, ◌++◌, map, sym, refl, ap, ◌∙◌, Some, eqb, arith, inl, inr, ⊎_elim}
use Rattle.std.specs.List.{filter, slice_get}
use Rattle.std.proofs.lemmas.Int.{ints}
use Rattle.std.proofs.lemmas.Bool.{and_parts, eqb-true, false≢true}
use Rattle.std.proofs.lemmas.Option.{same_Some}
use Rattle.std.proofs.lemmas.List.Concat.{flat_map-append}
use Rattle.std.proofs.Math.IntN.{ℤ, pos, ◌+ℤ◌, +ℤ_idl}
use Rattle.antichain.proofs.Lists.{Among}
use Rattle.update.specs.Bags.{count_of, same_row, total_by}
use Rattle.update.specs.Updates.{as_of, entry}
use Rattle.update.specs.declared.change.Update.{Update}
use Rattle.histories.specs.declared.event.Site.{Site}
use Rattle.histories.specs.declared.event.Bundle.{Bundle}
use Rattle.histories.specs.Histories.States.{same_place, updates_at, queue}
use Rattle.histories.specs.Histories.{without}
use Rattle.update.proofs.SumLemmas.{total_by-append}
use Rattle.plan.proofs.CountLemmas.{count_of-append}
use Rattle.lattice.specs.Times.{Times}

-- places that the test calls the same are equal
pub place_same : (a b : Site) → same_place a b ≡ true → a ≡ b
place_same a b h =
    let p = and_parts (eqb a.node b.node) (eqb a.port b.port && eqb a.worker b.worker) h in
    let q = and_parts (eqb a.port b.port) (eqb a.worker b.worker) p.1 in
    made (eqb-true a.node b.node p.0) (eqb-true a.port b.port q.0) (eqb-true a.worker b.worker q.1)
  where
    made : a.node ≡ b.node → a.port ≡ b.port → a.worker ≡ b.worker → a ≡ b
    made x y z = λ i. record { node = x i; port = y i; worker = z i }

module _ {T : Type 0} (times : Times T) (t : T) where
  -- how often a row is in the sum at t
  abbrev pub sum_at : List (Update T) → List ℤ → ℤ
  sum_at us r = count_of (as_of times t us) r

  abbrev counts : Update T → Bool
  counts u = times.below u.time t

  -- the sum of two lists at a time is the sum of each
  pub as_of-append : (xs ys : List (Update T)) → as_of times t (xs ++ ys) ≡ as_of times t xs ++ as_of times t ys
  as_of-append [] ys = refl
  as_of-append (u ∷ xs) ys = step (times.below u.time t) (as_of-append xs ys)
    where
      step : (b : Bool) → as_of times t (xs ++ ys) ≡ as_of times t xs ++ as_of times t ys → map entry (cond b (u ∷ filter counts (xs ++ ys)) (filter counts (xs ++ ys))) ≡ map entry (cond b (u ∷ filter counts xs) (filter counts xs)) ++ as_of times t ys
      step true h = ap (λ z. entry u ∷ z) h
      step false h = h

  -- the count of a row in two lists is the sum of its counts in each
  pub sum_at-append : (xs ys : List (Update T)) (r : List ℤ) → sum_at (xs ++ ys) r ≡ sum_at xs r +ℤ sum_at ys r
  sum_at-append xs ys r = rw (as_of-append xs ys) (count_of-append (as_of times t xs) (as_of times t ys) r)

-- what an update adds to a row
abbrev pub value : {T : Type 0} → List ℤ → Update T → ℤ
value r u = cond (same_row u.row r) u.diff (pos 0)

-- a sum at a time as a total over the updates, so that lemmas of totals serve it
pub through_is : {T : Type 0} (times : Times T) (r : List ℤ) (t : T) (us : List (Update T)) → count_of (as_of times t us) r ≡ total_by (λ u. cond (times.below u.time t) (value r u) (pos 0)) us
through_is times r t [] = refl
through_is {T} times r t (u ∷ us) = step (times.below u.time t) (through_is times r t us)
  where
    step : (b : Bool) → count_of (as_of times t us) r ≡ total_by (λ u. cond (times.below u.time t) (value r u) (pos 0)) us → count_of (map entry (cond b (u ∷ filter (λ (u : Update T). times.below u.time t) us) (filter (λ (u : Update T). times.below u.time t) us))) r ≡ cond b (value r u) (pos 0) +ℤ total_by (λ u. cond (times.below u.time t) (value r u) (pos 0)) us
    step true h = ap (λ z. value r u +ℤ z) h
    step false h = h ∙ sym (+ℤ_idl (total_by (λ u. cond (times.below u.time t) (value r u) (pos 0)) us))

module _ {T : Type 0} (f : Update T → ℤ) where
  -- the total at a place over two lists of bundles is the sum over each
  pub measure_place-append : (site : Site) (xs ys : List (Bundle T)) → total_by f (updates_at site (xs ++ ys)) ≡ total_by f (updates_at site xs) +ℤ total_by f (updates_at site ys)
  measure_place-append site xs ys = rw (flat_map-append (λ (q : Bundle T). cond (same_place q.place site) q.updates []) xs ys) (total_by-append f (updates_at site xs) (updates_at site ys))

  past : (x a c : List (Update T)) (b : ℤ) → total_by f a ≡ b +ℤ total_by f c → total_by f (x ++ a) ≡ b +ℤ total_by f (x ++ c)
  past x a c b h = rw (total_by-append f x a, total_by-append f x c, h) (swap_first (total_by f x) b (total_by f c))
    where
      swap_first : (x y z : ℤ) → x +ℤ (y +ℤ z) ≡ y +ℤ (x +ℤ z)
      swap_first x y z = omega (arith, ints)

  -- the totals at each place before a take, from those after it: the place of the bundle lost its
  -- updates, and every other place is as it was
  pub taken : (site : Site) (qs : List (Bundle T)) (j : ℕ) (b : Bundle T) → slice_get (queue site qs) j ≡ Some b → (other : Site) → total_by f (updates_at other qs) ≡ total_by f (cond (same_place site other) b.updates []) +ℤ total_by f (updates_at other (without site qs j))
  taken site [] j b h other = cc
  taken site (q ∷ qs) zero b h other = step (same_place q.place site) refl h (taken site qs zero b)
    where
      step : (c : Bool) → same_place q.place site ≡ c → slice_get (cond c (q ∷ []) [] ++ queue site qs) zero ≡ Some b
          → (slice_get (queue site qs) zero ≡ Some b → (other : Site) → total_by f (updates_at other qs) ≡ total_by f (cond (same_place site other) b.updates []) +ℤ total_by f (updates_at other (without site qs zero)))
          → total_by f (updates_at other (q ∷ qs)) ≡ total_by f (cond (same_place site other) b.updates []) +ℤ total_by f (updates_at other (cond c qs (q ∷ without site qs zero)))
      step true s e ih = rw (place_same q.place site s, ap (λ z. z.updates) (same_Some q b e)) (total_by-append f (cond (same_place site other) b.updates []) (updates_at other qs))
      step false s e ih = past (cond (same_place q.place other) q.updates []) (updates_at other qs) (updates_at other (without site qs zero)) (total_by f (cond (same_place site other) b.updates [])) (ih e other)
  taken site (q ∷ qs) (suc j) b h other = step (same_place q.place site) h (taken site qs j b) (taken site qs (suc j) b)
    where
      step : (c : Bool) → slice_get (cond c (q ∷ []) [] ++ queue site qs) (suc j) ≡ Some b
          → (slice_get (queue site qs) j ≡ Some b → (other : Site) → total_by f (updates_at other qs) ≡ total_by f (cond (same_place site other) b.updates []) +ℤ total_by f (updates_at other (without site qs j)))
          → (slice_get (queue site qs) (suc j) ≡ Some b → (other : Site) → total_by f (updates_at other qs) ≡ total_by f (cond (same_place site other) b.updates []) +ℤ total_by f (updates_at other (without site qs (suc j))))
          → total_by f (updates_at other (q ∷ qs)) ≡ total_by f (cond (same_place site other) b.updates []) +ℤ total_by f (updates_at other (q ∷ cond c (without site qs j) (without site qs (suc j))))
      step true e ih jh = past (cond (same_place q.place other) q.updates []) (updates_at other qs) (updates_at other (without site qs j)) (total_by f (cond (same_place site other) b.updates [])) (ih e other)
      step false e ih jh = past (cond (same_place q.place other) q.updates []) (updates_at other qs) (updates_at other (without site qs (suc j))) (total_by f (cond (same_place site other) b.updates [])) (jh e other)

-- A bundle that waits at a place is in flight, and so is each bundle that a take leaves

module _ {T : Type 0} where
  -- the bundle of a number in a queue is in flight, at the queue's place
  pub queued : (site : Site) (qs : List (Bundle T)) (j : ℕ) (b : Bundle T) → slice_get (queue site qs) j ≡ Some b → Among b qs × (b.place ≡ site)
  queued site [] j b e = cc
  queued site (q ∷ qs) zero b e = step (same_place q.place site) refl e (queued site qs zero b)
    where
      step : (c : Bool) → same_place q.place site ≡ c → slice_get (cond c (q ∷ []) [] ++ queue site qs) zero ≡ Some b → (slice_get (queue site qs) zero ≡ Some b → Among b qs × (b.place ≡ site)) → Among b (q ∷ qs) × (b.place ≡ site)
      step true s f ih = let same = same_Some q b f in (inl same, sym (ap (λ z. z.place) same) ∙ place_same q.place site s)
      step false s f ih = let r = ih f in (inr r.0, r.1)
  queued site (q ∷ qs) (suc j) b e = step (same_place q.place site) e (queued site qs j b) (queued site qs (suc j) b)
    where
      step : (c : Bool) → slice_get (cond c (q ∷ []) [] ++ queue site qs) (suc j) ≡ Some b → (slice_get (queue site qs) j ≡ Some b → Among b qs × (b.place ≡ site)) → (slice_get (queue site qs) (suc j) ≡ Some b → Among b qs × (b.place ≡ site)) → Among b (q ∷ qs) × (b.place ≡ site)
      step true f ih jh = let r = ih f in (inr r.0, r.1)
      step false f ih jh = let r = jh f in (inr r.0, r.1)

  -- each bundle that a take leaves was in flight before it
  pub among_left : (site : Site) (qs : List (Bundle T)) (j : ℕ) (b : Bundle T) → Among b (without site qs j) → Among b qs
  among_left site [] j b m = m
  among_left site (q ∷ qs) zero b m = step (same_place q.place site) m (among_left site qs zero b)
    where
      step : (c : Bool) → Among b (cond c qs (q ∷ without site qs zero)) → (Among b (without site qs zero) → Among b qs) → Among b (q ∷ qs)
      step true m ih = inr m
      step false m ih = ⊎_elim (λ e. inl e) (λ n. inr (ih n)) m
  among_left site (q ∷ qs) (suc j) b m = ⊎_elim (λ e. inl e) (λ n. inr (step (same_place q.place site) n (among_left site qs j b) (among_left site qs (suc j) b))) m
    where
      step : (c : Bool) → Among b (cond c (without site qs j) (without site qs (suc j))) → (Among b (without site qs j) → Among b qs) → (Among b (without site qs (suc j)) → Among b qs) → Among b qs
      step true m ih jh = ih m
      step false m ih jh = jh m

-- Passed as a test, and as the fact that the time is not beyond

-- a test that is false has a negation that is true
pub is_passed : (b : Bool) → b ≡ false → not b ≡ true
is_passed b h = ap not h

-- a negation that is true has a test that is false
pub not_beyond : (b : Bool) → not b ≡ true → b ≡ false
not_beyond true h = absurd (false≢true h)
not_beyond false h = refl

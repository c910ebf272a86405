-- Sums over the workers. What all workers gave, got or were fed is the sum of what each did, so
-- that a fact about each worker becomes one about a node.
use Rattle.std.proofs.Common.{◌≡◌, ℕ, zero, suc, ◌<◌, ◌≤◌, Bool, true, false, cond, ◌&&◌, List, [], ◌∷◌, ◌++◌, map, take, sym, refl, ap, ◌∙◌, Option, Some, None, eqb, arith, IsTrue}
use Rattle.std.specs.List.{flat_map, filter}
use Rattle.std.proofs.lemmas.Int.{ints}
use Rattle.std.proofs.lemmas.Bool.{eqb-true, eqb-false, ne_eqb, and_parts}
use Rattle.std.proofs.Math.IntN.{ℤ, pos, ◌+ℤ◌, +ℤ_idl, +ℤ_idr}
use Rattle.update.specs.Bags.{Entry, count_of, same_row}
use Rattle.update.specs.Updates.{entry}
use Rattle.update.specs.declared.change.Update.{Update}
use Rattle.histories.specs.declared.event.Site.{Site}
use Rattle.histories.specs.declared.event.Fed.{Fed}
use Rattle.histories.specs.declared.event.Emission.{Emission}
use Rattle.histories.specs.Histories.Dataflows.{Dataflow, node_of, route}
use Rattle.histories.specs.Histories.States.{place, same_place, emitted_by, emitted_at, fed_to}
use Rattle.histories.specs.Histories.Shares.{home, share_from, share_fed}
use Rattle.plan.proofs.CountLemmas.{count_of-append, row_same}
use Rattle.plan.specs.Nodes.{is_input}
use Rattle.histories.proofs.HistoryLemmas.FlowLemmas.{sum_at, sum_at-append}
use Rattle.histories.proofs.HistoryLemmas.KeptLemmas.{AreWorkers, AreInputs}
use Rattle.lattice.specs.Times.{Times}

-- the sum of a function over the numbers below n
abbrev pub over : ℕ → (ℕ → ℤ) → ℤ
over zero f = pos 0
over (suc n) f = f n +ℤ over n f

mid_swap : (a b c d : ℤ) → (a +ℤ b) +ℤ (c +ℤ d) ≡ (a +ℤ c) +ℤ (b +ℤ d)
mid_swap a b c d = omega (arith, ints)

-- the sum over the workers of sums is the sum of the sums
pub over-sum : (n : ℕ) (f g : ℕ → ℤ) → over n (λ k. f k +ℤ g k) ≡ over n f +ℤ over n g
over-sum zero f g = refl
over-sum (suc n) f g = rw (over-sum n f g) (mid_swap (f n) (g n) (over n f) (over n g))

-- the sum over the workers of zeros is zero
pub over-zero : (n : ℕ) → over n (λ k. pos 0) ≡ pos 0
over-zero zero = refl
over-zero (suc n) = +ℤ_idl (over n (λ k. pos 0)) ∙ over-zero n

-- sums over the workers agree if each part does
pub over-same : (n : ℕ) (f g : ℕ → ℤ) → ((k : ℕ) → k < n → f k ≡ g k) → over n f ≡ over n g
over-same zero f g h = refl
over-same (suc n) f g h = rw (h n (omega arith), over-same n f g (λ k l. h k (omega arith))) refl

over-past : (n j : ℕ) (x : ℤ) → n ≤ j → over n (λ k. cond (eqb j k) x (pos 0)) ≡ pos 0
over-past zero j x h = refl
over-past (suc n) j x h = rw (ne_eqb j n (λ e. absurd (omega arith))) (+ℤ_idl (over n (λ k. cond (eqb j k) x (pos 0))) ∙ over-past n j x (omega arith))

-- a sum in which one worker alone has something is that
pub over-one : (n j : ℕ) (x : ℤ) → j < n → over n (λ k. cond (eqb j k) x (pos 0)) ≡ x
over-one zero j x h = absurd (omega arith)
over-one (suc n) j x h = step (eqb j n) refl (over-one n j x)
  where
    step : (b : Bool) → eqb j n ≡ b → (j < n → over n (λ k. cond (eqb j k) x (pos 0)) ≡ x) → cond b x (pos 0) +ℤ over n (λ k. cond (eqb j k) x (pos 0)) ≡ x
    step true e ih = let q = eqb-true j n e in rw (over-past n j x (omega arith)) (+ℤ_idr x)
    step false e ih = +ℤ_idl (over n (λ k. cond (eqb j k) x (pos 0))) ∙ ih (below (eqb-false j n e))
      where
        below : (j ≡ n → ⊥) → j < n
        below d = omega arith

-- the bags of the numbers below n, one after another
abbrev pub gather : ℕ → (ℕ → List Entry) → List Entry
gather zero f = []
gather (suc n) f = f n ++ gather n f

-- the count of a row in all workers' bags together is the sum of its counts in each
pub total-gather : (n : ℕ) (f : ℕ → List Entry) (r : List ℤ) → count_of (gather n f) r ≡ over n (λ k. count_of (f k) r)
total-gather zero f r = refl
total-gather (suc n) f r = count_of-append (f n) (gather n f) r ∙ ap (λ z. count_of (f n) r +ℤ z) (total-gather n f r)

module _ {T : Type 0} (times : Times T) (t : T) where
  sum_at-cond : (b : Bool) (us : List (Update T)) (r : List ℤ) → sum_at times t (cond b us []) r ≡ cond b (sum_at times t us r) (pos 0)
  sum_at-cond true us r = refl
  sum_at-cond false us r = refl

  over-chosen : (b : Bool) (k j : ℕ) (us : List (Update T)) (r : List ℤ) → j < k → over k (λ i. sum_at times t (cond (b && eqb j i) us []) r) ≡ sum_at times t (cond b us []) r
  over-chosen true k j us r l = over-same k (λ i. sum_at times t (cond (eqb j i) us []) r) (λ i. cond (eqb j i) (sum_at times t us r) (pos 0)) (λ i m. sum_at-cond (eqb j i) us r) ∙ over-one k j (sum_at times t us r) l
  over-chosen false k j us r l = over-zero k

  -- what the workers gave at a node adds up to what the node gave
  pub over-emitted : (n k : ℕ) (gs : List (Emission T)) (r : List ℤ) → AreWorkers k gs → over k (λ j. sum_at times t (emitted_by n j gs) r) ≡ sum_at times t (emitted_at n gs) r
  over-emitted n k [] r a = over-zero k
  over-emitted n k (g ∷ gs) r a =
      over-same k (λ j. sum_at times t (emitted_by n j (g ∷ gs)) r) (λ j. sum_at times t (cond (eqb g.node n && eqb g.worker j) g.updates []) r +ℤ sum_at times t (emitted_by n j gs) r)
      (λ j l. sum_at-append times t (cond (eqb g.node n && eqb g.worker j) g.updates []) (emitted_by n j gs) r)
      ∙ (over-sum k (λ j. sum_at times t (cond (eqb g.node n && eqb g.worker j) g.updates []) r) (λ j. sum_at times t (emitted_by n j gs) r)
      ∙ (rw (over-emitted n k gs r a.1, over-chosen (eqb g.node n) k g.worker g.updates r a.0) (sym (sum_at-append times t (cond (eqb g.node n) g.updates []) (emitted_at n gs) r))))

  cond_zero : (b : Bool) → cond b (pos 0) (pos 0) ≡ pos 0
  cond_zero true = refl
  cond_zero false = refl

  both_parts : (b : Bool) (x y : ℤ) → cond b x (pos 0) +ℤ cond b y (pos 0) ≡ cond b (x +ℤ y) (pos 0)
  both_parts true x y = refl
  both_parts false x y = refl

  -- updates whose rows pass a test: the sum of a row is as before if the row passes, and 0 if not
  pub sum_at-filter : (test : List ℤ → Bool) (us : List (Update T)) (r : List ℤ) → sum_at times t (filter (λ u. test u.row) us) r ≡ cond (test r) (sum_at times t us r) (pos 0)
  sum_at-filter test [] r = sym (cond_zero (test r))
  sum_at-filter test (u ∷ us) r =
      ap (λ z. sum_at times t z r) (apart (test u.row) (filter (λ v. test v.row) us))
      ∙ (sum_at-append times t (cond (test u.row) (u ∷ []) []) (filter (λ v. test v.row) us) r
      ∙ (rw (single, sum_at-filter test us r) (both_parts (test r) (sum_at times t (u ∷ []) r) (sum_at times t us r))
      ∙ sym (ap (λ z. cond (test r) z (pos 0)) (sum_at-append times t (u ∷ []) us r))))
    where
      apart : (b : Bool) (xs : List (Update T)) → cond b (u ∷ xs) xs ≡ cond b (u ∷ []) [] ++ xs
      apart true xs = refl
      apart false xs = refl

      alone : (b : Bool) → same_row u.row r ≡ false → count_of (map entry (cond b (u ∷ []) [])) r ≡ pos 0
      alone true h = rw h refl
      alone false h = refl

      single : sum_at times t (cond (test u.row) (u ∷ []) []) r ≡ cond (test r) (sum_at times t (u ∷ []) r) (pos 0)
      single = step (same_row u.row r) refl
        where
          step : (z : Bool) → same_row u.row r ≡ z → sum_at times t (cond (test u.row) (u ∷ []) []) r ≡ cond (test r) (sum_at times t (u ∷ []) r) (pos 0)
          step true h = ap (λ b. sum_at times t (cond b (u ∷ []) []) r) (ap test (row_same u.row r h)) ∙ sum_at-cond (test r) (u ∷ []) r
          step false h = sum_at-cond (test u.row) (u ∷ []) r ∙ rw (alone (times.below u.time t) h) (cond_zero (test u.row) ∙ sym (cond_zero (test r)))

  -- along an edge that stays on its worker, a worker gets all that it gave at the source
  pub shared_along : (p : Dataflow) (s k : ℕ) (gs : List (Emission T)) → flat_map (share_from p (Some s) None k) gs ≡ emitted_by s k gs
  shared_along p s k [] = refl
  shared_along p s k (g ∷ gs) = rw (shared_along p s k gs) (ap (λ z. z ++ emitted_by s k gs) (step (eqb g.node s) (eqb g.worker k)))
    where
      step : (a b : Bool) → cond a (cond b g.updates []) [] ≡ cond (a && b) g.updates []
      step true b = refl
      step false b = refl

  -- along an edge that sends by columns, a worker gets the rows of its keys
  pub shared_by_key : (p : Dataflow) (s k w : ℕ) (gs : List (Emission T)) (r : List ℤ) → sum_at times t (flat_map (share_from p (Some s) (Some w) k) gs) r ≡ cond (eqb (route p (take w r)) k) (sum_at times t (emitted_at s gs) r) (pos 0)
  shared_by_key p s k w [] r = sym (cond_zero (eqb (route p (take w r)) k))
  shared_by_key p s k w (g ∷ gs) r =
      let sent = share_from p (Some s) (Some w) k g in
      sum_at-append times t sent (flat_map (share_from p (Some s) (Some w) k) gs) r
      ∙ (rw (shared_by_key p s k w gs r, one (eqb g.node s)) (both_parts (eqb (route p (take w r)) k) (sum_at times t (cond (eqb g.node s) g.updates []) r) (sum_at times t (emitted_at s gs) r))
      ∙ sym (ap (λ z. cond (eqb (route p (take w r)) k) z (pos 0)) (sum_at-append times t (cond (eqb g.node s) g.updates []) (emitted_at s gs) r)))
    where
      one : (b : Bool) → sum_at times t (cond b (filter (λ u. eqb (route p (take w u.row)) k) g.updates) []) r ≡ cond (eqb (route p (take w r)) k) (sum_at times t (cond b g.updates []) r) (pos 0)
      one true = sum_at-filter (λ x. eqb (route p (take w x)) k) g.updates r
      one false = sym (cond_zero (eqb (route p (take w r)) k))

  -- through a port with no source nothing comes
  pub shared_none : (p : Dataflow) (c : Option ℕ) (k : ℕ) (gs : List (Emission T)) → flat_map (share_from p None c k) gs ≡ []
  shared_none p c k [] = refl
  shared_none p c k (g ∷ gs) = shared_none p c k gs

  -- what the workers get of the changes of an input adds up to what was fed
  pub over-fed : (p : Dataflow) → ((r : List ℤ) → route p r < p.workers) → (n : ℕ) (fs : List (Fed T)) (r : List ℤ) → over p.workers (λ k. sum_at times t (flat_map (share_fed p (place n 0 k)) fs) r) ≡ sum_at times t (fed_to n fs) r
  over-fed p b n [] r = over-zero p.workers
  over-fed p b n (f ∷ fs) r =
      let u = f.update in
      over-same p.workers (λ k. sum_at times t (flat_map (share_fed p (place n 0 k)) (f ∷ fs)) r) (λ k. sum_at times t (cond (eqb f.input n && eqb (route p u.row) k) (u ∷ []) []) r +ℤ sum_at times t (flat_map (share_fed p (place n 0 k)) fs) r)
      (λ k l. sum_at-append times t (cond (eqb f.input n && eqb (route p u.row) k) (u ∷ []) []) (flat_map (share_fed p (place n 0 k)) fs) r)
      ∙ (over-sum p.workers (λ k. sum_at times t (cond (eqb f.input n && eqb (route p u.row) k) (u ∷ []) []) r) (λ k. sum_at times t (flat_map (share_fed p (place n 0 k)) fs) r)
      ∙ (rw (over-fed p b n fs r, over-chosen (eqb f.input n) p.workers (route p u.row) (u ∷ []) r (b u.row)) (sym (sum_at-append times t (cond (eqb f.input n) (u ∷ []) []) (fed_to n fs) r))))

  -- nothing is fed to a node that is no input
  pub fed_none : (p : Dataflow) (site : Site) (fs : List (Fed T)) → AreInputs p fs → (IsTrue (is_input (node_of p site.node)) → ⊥) → flat_map (share_fed p site) fs ≡ []
  fed_none p site [] a d = refl
  fed_none p site (f ∷ fs) a d = step (same_place (home p f) site) refl (fed_none p site fs a.1 d)
    where
      step : (b : Bool) → same_place (home p f) site ≡ b → flat_map (share_fed p site) fs ≡ [] → cond b (f.update ∷ []) [] ++ flat_map (share_fed p site) fs ≡ []
      step true e h = absurd (d (sym (ap (λ n. is_input (node_of p n)) (eqb-true f.input site.node (and_parts (eqb f.input site.node) (eqb 0 site.port && eqb (route p f.update.row) site.worker) e).0)) ∙ a.0))
      step false e h = h

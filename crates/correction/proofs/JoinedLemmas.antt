-- A key's sums change only at joined times.
use Rattle.std.proofs.Common.{◌≡◌, ℕ, Bool, true, false, cond, ◌&&◌, List, [], ◌∷◌, ◌++◌, map, take, sym, refl, ap, ◌∙◌, inl, inr, ◌⊎◌}
use Rattle.std.specs.List.{filter}
use Rattle.std.proofs.lemmas.Bool.{false≢true}
use Rattle.std.proofs.Math.IntN.{ℤ, pos, ◌+ℤ◌, +ℤ_idl}
use Rattle.lattice.specs.Times.{Times}
use Rattle.lattice.specs.Order.{PartialOrderLaws, LatticeLaws}
use Rattle.update.specs.Bags.{count_of, same_row, total_by}
use Rattle.update.specs.Joins.{joins_of}
use Rattle.update.specs.Updates.{entry, as_of}
use Rattle.update.specs.declared.change.Update.{Update}
use Rattle.plan.specs.Reductions.{has_key}
use Rattle.plan.proofs.CountLemmas.{row_same, row_itself, count_of-append}
use Rattle.joined_times.specs.Joined.{Member, times_of, of_key, IsJoined}
use Rattle.joined_times.proofs.MemberLemmas.{in_left, in_right, image_in}

module _ {T : Type 0} (times : Times T) where
  -- how often a row is in the sum at t
  abbrev pub sum_at : T → List (Update T) → List ℤ → ℤ
  sum_at t us row = count_of (as_of times t us) row

  pub as_of-append : (t : T) (xs ys : List (Update T)) → as_of times t (xs ++ ys) ≡ as_of times t xs ++ as_of times t ys
  as_of-append t [] ys = refl
  as_of-append t (u ∷ xs) ys = step (times.below u.time t) (as_of-append t xs ys)
    where
      step : (b : Bool) → as_of times t (xs ++ ys) ≡ as_of times t xs ++ as_of times t ys → map entry (cond b (u ∷ filter (λ v. times.below v.time t) (xs ++ ys)) (filter (λ v. times.below v.time t) (xs ++ ys))) ≡ map entry (cond b (u ∷ filter (λ v. times.below v.time t) xs) (filter (λ v. times.below v.time t) xs)) ++ as_of times t ys
      step true h = ap (λ z. entry u ∷ z) h
      step false h = h

  pub sum_at-append : (t : T) (xs ys : List (Update T)) (row : List ℤ) → sum_at t (xs ++ ys) row ≡ sum_at t xs row +ℤ sum_at t ys row
  sum_at-append t xs ys row = rw (as_of-append t xs ys) (count_of-append (as_of times t xs) (as_of times t ys) row)

-- what an update is, of a row
abbrev pub value : {T : Type 0} → List ℤ → Update T → ℤ
value row u = cond (same_row u.row row) u.diff (pos 0)

pub through_is : {T : Type 0} (times : Times T) (row : List ℤ) (t : T) (us : List (Update T)) → count_of (as_of times t us) row ≡ total_by (λ u. cond (times.below u.time t) (value row u) (pos 0)) us
through_is times row t [] = refl
through_is {T} times row t (u ∷ us) = step (times.below u.time t) (through_is times row t us)
  where
    step : (b : Bool) → count_of (as_of times t us) row ≡ total_by (λ u. cond (times.below u.time t) (value row u) (pos 0)) us → count_of (map entry (cond b (u ∷ filter (λ v. times.below v.time t) us) (filter (λ v. times.below v.time t) us))) row ≡ cond b (value row u) (pos 0) +ℤ total_by (λ u. cond (times.below u.time t) (value row u) (pos 0)) us
    step true h = ap (λ z. value row u +ℤ z) h
    step false h = h ∙ sym (+ℤ_idl (total_by (λ u. cond (times.below u.time t) (value row u) (pos 0)) us))

pub none_comes : {X : Type 0} (xs : List X) → total_by (λ x. pos 0) xs ≡ pos 0
none_comes [] = refl
none_comes (x ∷ xs) = rw (none_comes xs) refl

module _ {T : Type 0} {times : Times T} (o : PartialOrderLaws times) (l : LatticeLaws times) where
  pub join_below : (a b t : T) → times.below (times.joined a b) t ≡ times.below a t && times.below b t
  join_below a b t = step (times.below a t) refl (times.below b t) refl (times.below (times.joined a b) t) refl
    where
      step : (x : Bool) → times.below a t ≡ x → (y : Bool) → times.below b t ≡ y → (z : Bool) → times.below (times.joined a b) t ≡ z → times.below (times.joined a b) t ≡ x && y
      step true e true f z g = l.join_least a b t e f
      step true e false f true g = absurd (false≢true (sym f ∙ o.transitive b (times.joined a b) t (l.join_right a b) g))
      step true e false f false g = g
      step false e y f true g = absurd (false≢true (sym e ∙ o.transitive a (times.joined a b) t (l.join_left a b) g))
      step false e y f false g = g

  -- two tests agree on each of these
  abbrev pub Agree : (T → Bool) → (T → Bool) → List T → Type 0
  Agree p q [] = Unit {0}
  Agree p q (x ∷ xs) = (p x ≡ q x) × Agree p q xs

  agree-append : (p q : T → Bool) (xs ys : List T) → Agree p q xs → Agree p q ys → Agree p q (xs ++ ys)
  agree-append p q [] ys a b = b
  agree-append p q (x ∷ xs) ys a b = (a.0, agree-append p q xs ys a.1 b)

  agree-member : (p q : T → Bool) (x : T) (xs : List T) → Agree p q xs → Member x xs → p x ≡ q x
  agree-member p q x [] a m = absurd m
  agree-member p q x (y ∷ xs) a (inl e) = ap p e ∙ (a.0 ∙ ap q (sym e))
  agree-member p q x (y ∷ xs) a (inr m) = agree-member p q x xs a.1 m

  -- a test that a join passes where both do
  abbrev pub OnJoins : (T → Bool) → Type 0
  OnJoins p = (a b : T) → p (times.joined a b) ≡ p a && p b

  agree-joins : (p q : T → Bool) → OnJoins p → OnJoins q → (x : T) → p x ≡ q x → (xs : List T) → Agree p q xs → Agree p q (map (λ s. times.joined s x) xs)
  agree-joins p q hp hq x e [] a = tt
  agree-joins p q hp hq x e (y ∷ xs) a = (hp y x ∙ (rw (e, a.0) (sym (hq y x))), agree-joins p q hp hq x e xs a.1)

  agree-joined : (p q : T → Bool) → OnJoins p → OnJoins q → (ts : List T) → Agree p q ts → Agree p q (joins_of times ts)
  agree-joined p q hp hq [] a = tt
  agree-joined p q hp hq (t ∷ ts) a =
      let rest = agree-joined p q hp hq ts a.1 in
      let js = joins_of times ts in
      agree-append p q (js ++ map (λ s. times.joined s t) js) (t ∷ []) (agree-append p q js (map (λ s. times.joined s t) js) rest (agree-joins p q hp hq t a.0 js rest)) (a.0, tt)

  pub on_below : (t : T) → OnJoins (λ x. times.below x t)
  on_below t a b = join_below a b t

  pub on_none : OnJoins (λ x. false)
  on_none a b = refl

  -- at or below each time none of these is, or there is a joined time at or below it, at or below
  -- which just the same are
  abbrev pub Floor : List T → T → Type 0
  Floor ts t = Agree (λ x. times.below x t) (λ x. false) ts ⊎ ((s : T) × Member s (joins_of times ts) × (times.below s t ≡ true) × Agree (λ x. times.below x s) (λ x. times.below x t) ts)

  agree-none : (s t : T) → times.below s t ≡ true → (ts : List T) → Agree (λ x. times.below x t) (λ x. false) ts → Agree (λ x. times.below x s) (λ x. times.below x t) ts
  agree-none s t h [] a = tt
  agree-none s t h (x ∷ ts) a = (step (times.below x s) refl, agree-none s t h ts a.1)
    where
      step : (b : Bool) → times.below x s ≡ b → times.below x s ≡ times.below x t
      step true e = e ∙ sym (o.transitive x s t e h)
      step false e = e ∙ sym a.0

  agree-larger : (s v t : T) → times.below s v ≡ true → times.below v t ≡ true → (ts : List T) → Agree (λ x. times.below x s) (λ x. times.below x t) ts → Agree (λ x. times.below x v) (λ x. times.below x t) ts
  agree-larger s v t h k [] a = tt
  agree-larger s v t h k (x ∷ ts) a = (step (times.below x t) refl (times.below x v) refl, agree-larger s v t h k ts a.1)
    where
      step : (b : Bool) → times.below x t ≡ b → (c : Bool) → times.below x v ≡ c → times.below x v ≡ times.below x t
      step true e c f = o.transitive x s v (a.0 ∙ e) h ∙ sym e
      step false e true f = f ∙ sym (o.transitive x v t f k)
      step false e false f = f ∙ sym e

  -- a time is one of its own joins; so are the joins of the others, and their joins with it
  joins-itself : (x : T) (ts : List T) → Member x (joins_of times (x ∷ ts))
  joins-itself x ts = in_right x (joins_of times ts ++ map (λ s. times.joined s x) (joins_of times ts)) (x ∷ []) (inl refl)

  joins-others : (x s : T) (ts : List T) → Member s (joins_of times ts) → Member s (joins_of times (x ∷ ts))
  joins-others x s ts m = in_left s (joins_of times ts ++ map (λ s. times.joined s x) (joins_of times ts)) (x ∷ []) (in_left s (joins_of times ts) (map (λ s. times.joined s x) (joins_of times ts)) m)

  joins-with : (x s : T) (ts : List T) → Member s (joins_of times ts) → Member (times.joined s x) (joins_of times (x ∷ ts))
  joins-with x s ts m =
      in_left (times.joined s x) (joins_of times ts ++ map (λ s. times.joined s x) (joins_of times ts)) (x ∷ [])
      (in_right (times.joined s x) (joins_of times ts) (map (λ s. times.joined s x) (joins_of times ts)) (image_in (λ s. times.joined s x) s (joins_of times ts) m))

  pub floor : (ts : List T) (t : T) → Floor ts t
  floor [] t = inl tt
  floor (x ∷ ts) t = step (times.below x t) refl (floor ts t)
    where
      step : (b : Bool) → times.below x t ≡ b → Floor ts t → Floor (x ∷ ts) t
      step true e (inl a) = inr (x, joins-itself x ts, e, (o.reflexive x ∙ sym e, agree-none x t e ts a))
      step true e (inr f) =
          let k : times.below (times.joined f.0 x) t ≡ true = l.join_least f.0 x t f.2 e in
          inr (times.joined f.0 x, joins-with x f.0 ts f.1, k, (l.join_right f.0 x ∙ sym e, agree-larger f.0 (times.joined f.0 x) t (l.join_left f.0 x) k ts f.3))
      step false e (inl a) = inl (e, a)
      step false e (inr f) = inr (f.0, joins-others x f.0 ts f.1, f.2, (outside (times.below x f.0) refl, f.3))
        where
          outside : (c : Bool) → times.below x f.0 ≡ c → times.below x f.0 ≡ times.below x t
          outside true h = h ∙ sym (o.transitive x f.0 t h f.2)
          outside false h = h ∙ sym e

  -- tests of being at or before two times agree on all joins where they agree on the times
  pub floor_joins : (ts : List T) (s t : T) → Agree (λ x. times.below x s) (λ x. times.below x t) ts → (r : T) → Member r (joins_of times ts) → times.below r s ≡ times.below r t
  floor_joins ts s t a r m = agree-member (λ x. times.below x s) (λ x. times.below x t) r (joins_of times ts) (agree-joined (λ x. times.below x s) (λ x. times.below x t) (on_below s) (on_below t) ts a) m

  module _ (k : ℕ) where
    -- what was taken of a key, by two tests that agree on its times
    pub taken_same : (s t : T) (key : List ℤ) (us : List (Update T)) → Agree (λ x. times.below x s) (λ x. times.below x t) (times_of k key us) → filter (has_key k key) (as_of times s us) ≡ filter (has_key k key) (as_of times t us)
    taken_same s t key [] a = refl
    taken_same s t key (u ∷ us) a = step (of_key k key u) refl (times.below u.time s) refl (times.below u.time t) refl a (taken_same s t key us)
      where
        step : (c : Bool) → of_key k key u ≡ c → (b : Bool) → times.below u.time s ≡ b → (d : Bool) → times.below u.time t ≡ d
            → Agree (λ x. times.below x s) (λ x. times.below x t) (map (λ (v : Update T). v.time) (cond c (u ∷ filter (of_key k key) us) (filter (of_key k key) us)))
            → (Agree (λ x. times.below x s) (λ x. times.below x t) (times_of k key us) → filter (has_key k key) (as_of times s us) ≡ filter (has_key k key) (as_of times t us))
            → filter (has_key k key) (map entry (cond b (u ∷ filter (λ v. times.below v.time s) us) (filter (λ v. times.below v.time s) us))) ≡ filter (has_key k key) (map entry (cond d (u ∷ filter (λ v. times.below v.time t) us) (filter (λ v. times.below v.time t) us)))
        step true e true f true g a h = rw e (ap (λ z. entry u ∷ z) (h a.1))
        step true e false f false g a h = h a.1
        step true e true f false g a h = absurd (false≢true (sym g ∙ (sym a.0 ∙ f)))
        step true e false f true g a h = absurd (false≢true (sym f ∙ (a.0 ∙ g)))
        step false e true f true g a h = rw e (h a)
        step false e true f false g a h = rw e (h a)
        step false e false f true g a h = rw e (h a)
        step false e false f false g a h = h a

    pub taken_none : (t : T) (key : List ℤ) (us : List (Update T)) → Agree (λ x. times.below x t) (λ x. false) (times_of k key us) → filter (has_key k key) (as_of times t us) ≡ []
    taken_none t key [] a = refl
    taken_none t key (u ∷ us) a = step (of_key k key u) refl (times.below u.time t) refl a (taken_none t key us)
      where
        step : (c : Bool) → of_key k key u ≡ c → (b : Bool) → times.below u.time t ≡ b
            → Agree (λ x. times.below x t) (λ x. false) (map (λ (v : Update T). v.time) (cond c (u ∷ filter (of_key k key) us) (filter (of_key k key) us)))
            → (Agree (λ x. times.below x t) (λ x. false) (times_of k key us) → filter (has_key k key) (as_of times t us) ≡ [])
            → filter (has_key k key) (map entry (cond b (u ∷ filter (λ v. times.below v.time t) us) (filter (λ v. times.below v.time t) us))) ≡ []
        step true e true f a h = absurd (false≢true (sym a.0 ∙ f))
        step true e false f a h = h a.1
        step false e true f a h = rw e (h a)
        step false e false f a h = h a

    -- what was given of a row, by two tests that agree on the times of its key
    pub given_same : (p q : T → Bool) → OnJoins p → OnJoins q → (taken given : List (Update T)) (r : List ℤ) → Agree p q (times_of k (take k r) taken)
        → ((g : Update T) → Member g given → of_key k (take k r) g ≡ true → IsJoined times k taken (take k r) g.time)
        → total_by (λ u. cond (p u.time) (value r u) (pos 0)) given ≡ total_by (λ u. cond (q u.time) (value r u) (pos 0)) given
    given_same p q hp hq taken [] r a j = refl
    given_same p q hp hq taken (g ∷ gs) r a j = rw (given_same p q hp hq taken gs r a (λ h m. j h (inr m)), one (same_row g.row r) refl) refl
      where
        no : (b : Bool) → cond b (pos 0) (pos 0) ≡ pos 0
        no true = refl
        no false = refl

        one : (c : Bool) → same_row g.row r ≡ c → cond (p g.time) (cond (same_row g.row r) g.diff (pos 0)) (pos 0) ≡ cond (q g.time) (cond (same_row g.row r) g.diff (pos 0)) (pos 0)
        one true e =
            let ts = times_of k (take k r) taken in
            let own : of_key k (take k r) g ≡ true = ap (λ z. same_row (take k z) (take k r)) (row_same g.row r e) ∙ row_itself (take k r) in
            ap (λ z. cond z (cond (same_row g.row r) g.diff (pos 0)) (pos 0)) (agree-member p q g.time (joins_of times ts) (agree-joined p q hp hq ts a) (j g (inl refl) own))
        one false e = rw e (no (p g.time) ∙ sym (no (q g.time)))

-- Lists that have no row twice at one time.
use Rattle.std.proofs.Common.{◌≡◌, Bool, true, false, cond, ◌&&◌, ◌||◌, List, [], ◌∷◌, ◌++◌, refl, sym, ap, ◌∙◌, subst, inl, inr}
use Rattle.std.specs.Prelude.{ℤ, pos, ◌+ℤ◌}
use Rattle.std.specs.List.{filter, list_any}
use Rattle.std.proofs.lemmas.Bool.{and_parts, and_from, or_parts, true≢false}
use Rattle.std.proofs.Math.IntN.{+ℤ_idl, +ℤ_idr}
use Rattle.lattice.specs.Times.{Times}
use Rattle.lattice.specs.Order.{PartialOrderLaws}
use Rattle.update.specs.Bags.{same_row}
use Rattle.update.specs.Updates.{total_at, AreApart, is_doubled}
use Rattle.update.specs.declared.change.Update.{Update}
use Rattle.plan.proofs.CountLemmas.{row_same, row_itself}
use Rattle.joined_times.specs.Joined.{Member}

module _ {T : Type 0} {times : Times T} (o : PartialOrderLaws times) where
  -- the update is of the row and at the time
  abbrev is_at : List ℤ → T → Update T → Bool
  is_at row t u = same_row u.row row && (times.below u.time t && times.below t u.time)

  at_is : (row : List ℤ) (t : T) (u : Update T) → is_at row t u ≡ true → (u.row ≡ row) × (u.time ≡ t)
  at_is row t u e =
      let p = and_parts (same_row u.row row) (times.below u.time t && times.below t u.time) e in
      let q = and_parts (times.below u.time t) (times.below t u.time) p.1 in
      (row_same u.row row p.0, o.antisymmetric u.time t q.0 q.1)

  at_itself : (u : Update T) → is_at u.row u.time u ≡ true
  at_itself u = and_from (same_row u.row u.row) (times.below u.time u.time && times.below u.time u.time) (row_itself u.row) (and_from (times.below u.time u.time) (times.below u.time u.time) (o.reflexive u.time) (o.reflexive u.time))

  -- an update is doubled by the next one where that is of its row and time
  pub doubled : (u v : Update T) → (u.row ≡ v.row) → (u.time ≡ v.time) → is_doubled times u v ≡ true
  doubled u v r t =
      and_from (times.below u.time v.time && times.below v.time u.time) (same_row u.row v.row)
      (and_from (times.below u.time v.time) (times.below v.time u.time) (subst (λ z. times.below u.time z ≡ true) t (o.reflexive u.time)) (subst (λ z. times.below z u.time ≡ true) t (o.reflexive u.time)))
      (ap (λ z. same_row u.row z) (sym r) ∙ row_itself u.row)

  pub doubled_is : (u v : Update T) → is_doubled times u v ≡ true → (u.row ≡ v.row) × (u.time ≡ v.time)
  doubled_is u v e =
      let p = and_parts (times.below u.time v.time && times.below v.time u.time) (same_row u.row v.row) e in
      let q = and_parts (times.below u.time v.time) (times.below v.time u.time) p.0 in
      (row_same u.row v.row p.1, o.antisymmetric u.time v.time q.0 q.1)

  none_there : (row : List ℤ) (t : T) (u : Update T) → u.row ≡ row → u.time ≡ t → (us : List (Update T)) → list_any (is_doubled times u) us ≡ false → total_at times row t us ≡ pos 0
  none_there row t u r e [] h = refl
  none_there row t u r e (v ∷ us) h =
      let p = or_parts (is_doubled times u v) (list_any (is_doubled times u) us) h in
      step (is_at row t v) refl p.0 (none_there row t u r e us p.1)
    where
      step : (b : Bool) → is_at row t v ≡ b → is_doubled times u v ≡ false → total_at times row t us ≡ pos 0 → cond b v.diff (pos 0) +ℤ total_at times row t us ≡ pos 0
      step false f d ih = +ℤ_idl (total_at times row t us) ∙ ih
      step true f d ih = let w = at_is row t v f in absurd (true≢false (sym (doubled u v (r ∙ sym w.0) (e ∙ sym w.1)) ∙ d))

  -- the diff of each update is the total at its row and time
  pub own_total : (us : List (Update T)) → AreApart times us → (u : Update T) → Member u us → total_at times u.row u.time us ≡ u.diff
  own_total (v ∷ us) a u (inl e) = subst (λ z. total_at times z.row z.time (v ∷ us) ≡ z.diff) (sym e) (rw (at_itself v) (ap (λ n. v.diff +ℤ n) (none_there v.row v.time v refl refl us a.0) ∙ +ℤ_idr v.diff))
  own_total (v ∷ us) a u (inr m) = step (is_at u.row u.time v) refl (own_total us a.1 u m)
    where
      there : (us : List (Update T)) → Member u us → (u.row ≡ v.row) → (u.time ≡ v.time) → list_any (is_doubled times v) us ≡ true
      there [] m r t = absurd m
      there (x ∷ us) (inl e) r t = rw (doubled v x (sym r ∙ ap (λ (z : Update T). z.row) e) (sym t ∙ ap (λ (z : Update T). z.time) e)) refl
      there (x ∷ us) (inr m) r t = more (is_doubled times v x) (there us m r t)
        where
          more : (b : Bool) → list_any (is_doubled times v) us ≡ true → (b || list_any (is_doubled times v) us) ≡ true
          more true h = refl
          more false h = h

      step : (b : Bool) → is_at u.row u.time v ≡ b → total_at times u.row u.time us ≡ u.diff → cond b v.diff (pos 0) +ℤ total_at times u.row u.time us ≡ u.diff
      step false f ih = +ℤ_idl (total_at times u.row u.time us) ∙ ih
      step true f ih = let w = at_is u.row u.time v f in absurd (true≢false (sym (there us m (sym w.0) (sym w.1)) ∙ a.0))
  own_total [] a u m = absurd m

  -- two lists of which no update of the one is doubled in the other
  pub apart_both : (us vs : List (Update T)) → AreApart times us → AreApart times vs → ((u v : Update T) → Member u us → Member v vs → is_doubled times u v ≡ false) → AreApart times (us ++ vs)
  apart_both [] vs a b n = b
  apart_both (u ∷ us) vs a b n = (none_of us a.0, apart_both us vs a.1 b (λ x y m w. n x y (inr m) w))
    where
      of_more : (vs : List (Update T)) → ((v : Update T) → Member v vs → is_doubled times u v ≡ false) → list_any (is_doubled times u) vs ≡ false
      of_more [] h = refl
      of_more (v ∷ vs) h = rw (h v (inl refl)) (of_more vs (λ x m. h x (inr m)))

      none_of : (us : List (Update T)) → list_any (is_doubled times u) us ≡ false → list_any (is_doubled times u) (us ++ vs) ≡ false
      none_of [] e = of_more vs (λ v m. n u v (inl refl) m)
      none_of (x ∷ us) e = let p = or_parts (is_doubled times u x) (list_any (is_doubled times u) us) e in rw p.0 (none_of us p.1)

  any_filter : (p q : Update T → Bool) (us : List (Update T)) → list_any p us ≡ false → list_any p (filter q us) ≡ false
  any_filter p q [] h = refl
  any_filter p q (x ∷ us) h = let e = or_parts (p x) (list_any p us) h in step (q x) e.0 (any_filter p q us e.1)
    where
      step : (b : Bool) → p x ≡ false → list_any p (filter q us) ≡ false → list_any p (cond b (x ∷ filter q us) (filter q us)) ≡ false
      step true e h = rw e h
      step false e h = h

  pub apart_filter : (q : Update T → Bool) (us : List (Update T)) → AreApart times us → AreApart times (filter q us)
  apart_filter q [] a = a
  apart_filter q (x ∷ us) a = step (q x) (any_filter (is_doubled times x) q us a.0) (apart_filter q us a.1)
    where
      step : (b : Bool) → list_any (is_doubled times x) (filter q us) ≡ false → AreApart times (filter q us) → AreApart times (cond b (x ∷ filter q us) (filter q us))
      step true e h = (e, h)
      step false e h = h

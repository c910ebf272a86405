-- New histories of some keys, each in the place of the old one of its key or behind all.
use Rattle.std.proofs.Common.{◌≡◌, ℕ, zero, suc, Bool, true, false, cond, List, [], ◌∷◌, ◌++◌, ℤ, map, set, length, slice_get, Option, Some, None, flat_map, refl, sym, ap, ◌∙◌, subst, arith}
use Rattle.std.specs.List.{list_any}
use Rattle.std.specs.Option.{IsSomeAnd}
use Rattle.std.specs.declared.cmp.Ordering.{Ordering}
use Rattle.std.proofs.lemmas.Bool.{or_parts, or_from}
use Rattle.std.proofs.lemmas.List.{append-nil, map-append}
use Rattle.update.specs.Bags.{same_row}
use Rattle.plan.proofs.CountLemmas.{row_same}
use Rattle.plan.proofs.ReductionLemmas.{row_differs}
use Rattle.update.specs.declared.change.Update.{Update}
use Rattle.reduce.specs.declared.intake.Renewal.{Renewal}
use Rattle.reduce.specs.Histories.{HistoryState, AreKeysApart, AreHistories, IsHistory, history_of, given_of, changed_at, times_put}
use Rattle.reduce.specs.Intake.{IsPlaced, IsPlaceOf, made_from, or_else}
use Rattle.reduce.proofs.CommitLemmas.{changed_is}
use Rattle.reduce.proofs.HistoryLemmas.{at_place, of_absent, of_there, of_its_history, of_pushed, of_replaced}

or_else_grouped : {X : Type 0} (xs ys zs : List X) → or_else xs (or_else ys zs) ≡ or_else (or_else xs ys) zs
or_else_grouped [] ys zs = refl
or_else_grouped (x ∷ xs) ys zs = refl

module _ {T : Type 0} where
  abbrev alone : HistoryState T → List (HistoryState T)
  alone h = h ∷ []

  -- ---- one history

  -- a key of which nothing is found has no history
  pub absent_from : (key : List ℤ) (hs : List (HistoryState T)) → history_of key hs ≡ [] → list_any (λ g. same_row key g.key) hs ≡ false
  absent_from key [] e = refl
  absent_from key (h ∷ hs) e = step (same_row h.key key) refl e (absent_from key hs)
    where
      step : (b : Bool) → same_row h.key key ≡ b → cond b (h ∷ []) [] ++ history_of key hs ≡ [] → (history_of key hs ≡ [] → list_any (λ g. same_row key g.key) hs ≡ false) → list_any (λ g. same_row key g.key) (h ∷ hs) ≡ false
      step true i e ih = absurd (let long : length (h ∷ history_of key hs) ≡ 0 = ap length e in omega (arith, long))
      step false i e ih = or_from (same_row key h.key) (list_any (λ g. same_row key g.key) hs) (row_differs h.key key i) (ih e)

  -- the history of a new key is put behind all
  pub put_behind : (hs : List (HistoryState T)) (h : HistoryState T) → list_any (λ g. same_row h.key g.key) hs ≡ false → (key : List ℤ)
      → history_of key (hs ++ h ∷ []) ≡ or_else (history_of key (h ∷ [])) (history_of key hs)
  put_behind hs h new key = of_pushed alone key hs h ∙ step (same_row h.key key) refl
    where
      step : (b : Bool) → same_row h.key key ≡ b → history_of key hs ++ cond b (h ∷ []) [] ≡ or_else (cond b (h ∷ []) [] ++ []) (history_of key hs)
      step true t =
          let none : history_of key hs ≡ [] = of_absent alone key hs (subst (λ r. list_any (λ g. same_row r g.key) hs ≡ false) (row_same h.key key t) new) in
          ap (λ xs. xs ++ h ∷ []) none
      step false t = append-nil (history_of key hs)

  -- that of a known key is put in the place of the old one
  pub put_over : (hs : List (HistoryState T)) (i : ℕ) (h : HistoryState T) → AreKeysApart hs → IsSomeAnd (slice_get hs i) (λ old. old.key ≡ h.key) → (key : List ℤ)
      → history_of key (set hs i h) ≡ or_else (history_of key (h ∷ [])) (history_of key hs)
  put_over hs i h apart same key =
      let there = at_place (slice_get hs i) same in
      of_replaced alone key hs i there.0 h apart there.1 there.2 ∙ step (same_row h.key key)
    where
      step : (b : Bool) → cond b (h ∷ []) (history_of key hs) ≡ or_else (cond b (h ∷ []) [] ++ []) (history_of key hs)
      step true = refl
      step false = refl

  pub histories_behind : (cmp : T → T → Ordering) (k : ℕ) (hs : List (HistoryState T)) (h : HistoryState T) → AreHistories cmp k hs → IsHistory cmp k h → AreHistories cmp k (hs ++ h ∷ [])
  histories_behind cmp k [] h all is = (is, tt)
  histories_behind cmp k (g ∷ gs) h all is = (all.0, histories_behind cmp k gs h all.1 is)

  pub histories_over : (cmp : T → T → Ordering) (k : ℕ) (hs : List (HistoryState T)) (i : ℕ) (h : HistoryState T) → AreHistories cmp k hs → IsHistory cmp k h → AreHistories cmp k (set hs i h)
  histories_over cmp k [] i h all is = tt
  histories_over cmp k (g ∷ gs) zero h all is = (is, all.1)
  histories_over cmp k (g ∷ gs) (suc i) h all is = (all.0, histories_over cmp k gs i h all.1 is)

  -- what is made of a key that has a history is this history with other times
  abbrev history : List ℤ → List T → List T → List (Update T) → HistoryState T
  history key ts due given = record { key = key; times = ts; due = due; given = given }

  pub made_there : (hs : List (HistoryState T)) (i : ℕ) (r : Renewal T) → AreKeysApart hs → IsSomeAnd (slice_get hs i) (λ h. h.key ≡ r.key) → changed_at i (times_put r.times.items r.due.items) hs ≡ set hs i (made_from hs r)
  made_there hs i r apart same =
      let at = at_place (slice_get hs i) same in
      let given : at.0.given ≡ given_of r.key hs = sym (of_there (λ h. h.given) hs i at.0 apart at.1) ∙ ap (λ k. given_of k hs) at.2 in
      changed_is i (times_put r.times.items r.due.items) hs at.0 at.1
      ∙ ap (set hs i) (ap (λ k. history k r.times.items r.due.items at.0.given) at.2 ∙ ap (history r.key r.times.items r.due.items) given)

  -- and of a key without one it is a history of which nothing was given
  pub made_new : (hs : List (HistoryState T)) (r : Renewal T) (h : HistoryState T) → list_any (λ g. same_row r.key g.key) hs ≡ false → h ≡ record { key = r.key; times = r.times.items; due = r.due.items; given = [] } → h ≡ made_from hs r
  made_new hs r h none is = is ∙ ap (history r.key r.times.items r.due.items) (sym (of_absent (λ g. g.given) r.key hs none))

  -- no history goes to another place
  pub changed_keeps : (i : ℕ) (f : HistoryState T → HistoryState T) (hs : List (HistoryState T)) → ((h : HistoryState T) → (f h).key ≡ h.key) → (j : ℕ) (key : List ℤ)
      → IsSomeAnd (slice_get hs j) (λ h. h.key ≡ key) → IsSomeAnd (slice_get (changed_at i f hs) j) (λ h. h.key ≡ key)
  changed_keeps i f [] same j key p = p
  changed_keeps zero f (h ∷ hs) same zero key p = same h ∙ p
  changed_keeps zero f (h ∷ hs) same (suc j) key p = p
  changed_keeps (suc i) f (h ∷ hs) same zero key p = p
  changed_keeps (suc i) f (h ∷ hs) same (suc j) key p = changed_keeps i f hs same j key p

  pub pushed_keeps : (hs : List (HistoryState T)) (h : HistoryState T) (j : ℕ) (key : List ℤ) → IsSomeAnd (slice_get hs j) (λ g. g.key ≡ key) → IsSomeAnd (slice_get (hs ++ h ∷ []) j) (λ g. g.key ≡ key)
  pushed_keeps [] h j key p = absurd p
  pushed_keeps (g ∷ hs) h zero key p = p
  pushed_keeps (g ∷ hs) h (suc j) key p = pushed_keeps hs h j key p

  -- ---- one history after the other

  -- those before a history are of other keys
  apart_front : (ys : List (HistoryState T)) (h : HistoryState T) (rest : List (HistoryState T)) → AreKeysApart (ys ++ h ∷ rest) → list_any (λ g. same_row h.key g.key) ys ≡ false
  apart_front [] h rest apart = refl
  apart_front (y ∷ ys) h rest apart =
      or_from (same_row h.key y.key) (list_any (λ g. same_row h.key g.key) ys)
      (row_differs y.key h.key (behind ys apart.0))
      (apart_front ys h rest apart.1)
    where
      behind : (gs : List (HistoryState T)) → list_any (λ g. same_row y.key g.key) (gs ++ h ∷ rest) ≡ false → same_row y.key h.key ≡ false
      behind [] n = (or_parts (same_row y.key h.key) (list_any (λ g. same_row y.key g.key) rest) n).0
      behind (g ∷ gs) n = behind gs (or_parts (same_row y.key g.key) (list_any (λ f. same_row y.key f.key) (gs ++ h ∷ rest)) n).1

  -- one more is put
  pub put_more : (ys : List (HistoryState T)) (h : HistoryState T) (rest old mid new : List (HistoryState T)) → AreKeysApart (ys ++ h ∷ rest)
      → ((key : List ℤ) → history_of key mid ≡ or_else (history_of key ys) (history_of key old))
      → ((key : List ℤ) → history_of key new ≡ or_else (history_of key (h ∷ [])) (history_of key mid))
      → (key : List ℤ) → history_of key new ≡ or_else (history_of key (ys ++ h ∷ [])) (history_of key old)
  put_more ys h rest old mid new apart before one key =
      one key
      ∙ ap (or_else (history_of key (h ∷ []))) (before key)
      ∙ or_else_grouped (history_of key (h ∷ [])) (history_of key ys) (history_of key old)
      ∙ ap (λ xs. or_else xs (history_of key old)) (sym (put_behind ys h (apart_front ys h rest apart) key))

  -- the parts of histories that are put one after the other
  pub histories_parts : (cmp : T → T → Ordering) (k : ℕ) (ys : List (HistoryState T)) (h : HistoryState T) → AreHistories cmp k (ys ++ h ∷ []) → AreHistories cmp k ys × IsHistory cmp k h
  histories_parts cmp k [] h all = (tt, all.0)
  histories_parts cmp k (y ∷ ys) h all = let parts = histories_parts cmp k ys h all.1 in ((all.0, parts.0), parts.1)

  -- the next one is made as of the histories that were there first, and is placed among those that
  -- are there now
  module _ (old mid : List (HistoryState T)) (ys : List (Renewal T)) (r : Renewal T) (rest : List (Renewal T)) (apart : AreKeysApart (map (made_from old) ys ++ made_from old r ∷ map (made_from old) rest))
      (found : (key : List ℤ) → history_of key mid ≡ or_else (history_of key (map (made_from old) ys)) (history_of key old)) where
    still : history_of r.key mid ≡ history_of r.key old
    still =
        found r.key
        ∙ ap (λ xs. or_else xs (history_of r.key old)) (of_absent alone r.key (map (made_from old) ys) (apart_front (map (made_from old) ys) (made_from old r) (map (made_from old) rest) apart))

    pub made_same : made_from mid r ≡ made_from old r
    made_same =
        ap (history r.key r.times.items r.due.items)
        (of_its_history (λ h. h.given) r.key mid
        ∙ ap (flat_map (λ h. h.given)) still
        ∙ sym (of_its_history (λ h. h.given) r.key old))

    pub placed_still : ((i : ℕ) (key : List ℤ) → IsSomeAnd (slice_get old i) (λ h. h.key ≡ key) → IsSomeAnd (slice_get mid i) (λ h. h.key ≡ key)) → IsPlaced old r → IsPlaced mid r
    placed_still kept = step r.place
      where
        step : (o : Option ℕ) → IsPlaceOf old r.key o → IsPlaceOf mid r.key o
        step (Some i) p = kept i r.key p
        step None p = absent_from r.key mid (still ∙ of_absent alone r.key old p)

  -- what is made of the keys so far, of the next one and of the others
  pub made_parts : (hs : List (HistoryState T)) (made ys : List (Renewal T)) (r : Renewal T) (rest : List (Renewal T)) → made ≡ ys ++ r ∷ rest → map (made_from hs) made ≡ map (made_from hs) ys ++ made_from hs r ∷ map (made_from hs) rest
  made_parts hs made ys r rest e = ap (map (made_from hs)) e ∙ map-append (made_from hs) ys (r ∷ rest)

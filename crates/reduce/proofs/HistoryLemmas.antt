-- Histories of which no two have the same key: what they have of a key, and how that changes when a
-- history is added or replaced.
use Rattle.std.proofs.Common.{◌≡◌, ℕ, zero, suc, ◌<◌, Bool, true, false, cond, ◌||◌, List, [], ◌∷◌, ◌++◌, ℤ, map, set, length, get_or, slice_get, position, Option, Some, None, if◌then◌else◌, flat_map, refl, sym, ap, ◌∙◌, subst}
use Rattle.std.specs.List.{list_any}
use Rattle.std.specs.Option.{IfSome, IsSomeAnd}
use Rattle.std.proofs.lemmas.Bool.{or_parts, or_from}
use Rattle.std.proofs.lemmas.List.{append-nil, append_assoc, get_or-map, length-map, map_push}
use Rattle.std.proofs.lemmas.List.Quantifiers.{position-Some}
use Rattle.std.proofs.lemmas.Option.{none-some, same_Some, slice_get-get_or}
use Rattle.indexmap.specs.IndexSet.{insert_key}
use Rattle.update.specs.Bags.{same_row}
use Rattle.plan.proofs.CountLemmas.{row_same, row_itself}
use Rattle.plan.proofs.ReductionLemmas.{row_differs}
use Rattle.reduce.specs.Histories.{HistoryState, AreKeysApart, of_history, history_of}

-- names the element that an `IsSomeAnd` speaks of
pub at_place : {X : Type 0} {P : X → Type 0} (o : Option X) → IsSomeAnd o P → (x : X) × (o ≡ Some x) × P x
at_place None p = absurd p
at_place (Some x) p = (x, refl, p)

module _ {T : Type 0} where
  -- whether a history is of the key
  abbrev is_of : List ℤ → HistoryState T → Bool
  is_of key h = same_row key h.key

  -- whether the key has a history
  abbrev has : List ℤ → List (HistoryState T) → Bool
  has key hs = list_any (is_of key) hs

  -- a test of keys passes for some key if and only if it passes for the key of some history
  pub any_of_keys : (p : List ℤ → Bool) (hs : List (HistoryState T)) → list_any p (map (λ h. h.key) hs) ≡ list_any (λ h. p h.key) hs
  any_of_keys p [] = refl
  any_of_keys p (h ∷ hs) = ap (λ b. p h.key || b) (any_of_keys p hs)

  -- if the key has no history, then the history at each index is of another key
  differs_at : (key : List ℤ) (hs : List (HistoryState T)) (i : ℕ) (h : HistoryState T) → has key hs ≡ false → slice_get hs i ≡ Some h → same_row key h.key ≡ false
  differs_at key [] i h none e = absurd (none-some h e)
  differs_at key (g ∷ hs) zero h none e = ap (is_of key) (sym (same_Some g h e)) ∙ (or_parts (is_of key g) (has key hs) none).0
  differs_at key (g ∷ hs) (suc i) h none e = differs_at key hs i h (or_parts (is_of key g) (has key hs) none).1 e

  -- replacing a history by one of the same key leaves the keys as they were
  pub keys_replaced : (hs : List (HistoryState T)) (i : ℕ) (old new : HistoryState T) → slice_get hs i ≡ Some old → old.key ≡ new.key → map (λ h. h.key) (set hs i new) ≡ map (λ h. h.key) hs
  keys_replaced [] i old new e k = refl
  keys_replaced (h ∷ hs) zero old new e k =
      let same : h.key ≡ new.key = ap (λ (g : HistoryState T). g.key) (same_Some h old e) ∙ k in
      ap (λ key. key ∷ map (λ g. g.key) hs) (sym same)
  keys_replaced (h ∷ hs) (suc i) old new e k = ap (λ keys. h.key ∷ keys) (keys_replaced hs i old new e k)

  -- so the same keys have a history
  has_replaced : (key : List ℤ) (hs : List (HistoryState T)) (i : ℕ) (old new : HistoryState T) → slice_get hs i ≡ Some old → old.key ≡ new.key → has key (set hs i new) ≡ has key hs
  has_replaced key hs i old new e k = sym (any_of_keys (same_row key) (set hs i new)) ∙ ap (list_any (same_row key)) (keys_replaced hs i old new e k) ∙ any_of_keys (same_row key) hs

  -- and each key still has one history at most
  pub apart_replaced : (hs : List (HistoryState T)) (i : ℕ) (old new : HistoryState T) → AreKeysApart hs → slice_get hs i ≡ Some old → old.key ≡ new.key → AreKeysApart (set hs i new)
  apart_replaced [] i old new apart e k = tt
  apart_replaced (h ∷ hs) zero old new apart e k =
      let same : h.key ≡ new.key = ap (λ (g : HistoryState T). g.key) (same_Some h old e) ∙ k in
      (subst (λ key. has key hs ≡ false) same apart.0, apart.1)
  apart_replaced (h ∷ hs) (suc i) old new apart e k = (has_replaced h.key hs i old new e k ∙ apart.0, apart_replaced hs i old new apart.1 e k)

  -- appending the history of another key gives this key none
  has_pushed : (key : List ℤ) (hs : List (HistoryState T)) (h : HistoryState T) → has key hs ≡ false → same_row key h.key ≡ false → has key (hs ++ h ∷ []) ≡ false
  has_pushed key [] h none other = or_from (is_of key h) false other refl
  has_pushed key (g ∷ hs) h none other =
      let parts = or_parts (is_of key g) (has key hs) none in
      or_from (is_of key g) (has key (hs ++ h ∷ [])) parts.0 (has_pushed key hs h parts.1 other)

  -- appending the history of a new key leaves one history at most for each key
  pub apart_pushed : (hs : List (HistoryState T)) (h : HistoryState T) → AreKeysApart hs → list_any (λ g. same_row h.key g.key) hs ≡ false → AreKeysApart (hs ++ h ∷ [])
  apart_pushed [] h apart new = (refl, tt)
  apart_pushed (g ∷ hs) h apart new =
      let parts = or_parts (is_of h.key g) (has h.key hs) new in
      (has_pushed g.key hs h apart.0 (row_differs h.key g.key parts.0), apart_pushed hs h apart.1 parts.1)

  -- the keys are those of the histories, in order, and no key occurs twice
  abbrev pub AreKeysOf : List (List ℤ) → List (HistoryState T) → Type 0
  AreKeysOf keys hs = (keys ≡ map (λ h. h.key) hs) × AreKeysApart hs

  -- appending a new key and its history keeps this
  pub keys_pushed : (keys : List (List ℤ)) (hs : List (HistoryState T)) (h : HistoryState T) → AreKeysOf keys hs → list_any (λ g. same_row h.key g.key) hs ≡ false → AreKeysOf (insert_key same_row keys h.key) (hs ++ h ∷ [])
  keys_pushed keys hs h paired new =
      let none : list_any (same_row h.key) keys ≡ false = ap (list_any (same_row h.key)) paired.0 ∙ any_of_keys (same_row h.key) hs ∙ new in
      let appended : insert_key same_row keys h.key ≡ map (λ g. g.key) hs ++ h.key ∷ [] = ap (λ b. cond b keys (keys ++ h.key ∷ [])) none ∙ ap (λ ks. ks ++ h.key ∷ []) paired.0 in
      (appended ∙ sym (map_push (λ (g : HistoryState T). g.key) hs h), apart_pushed hs h paired.1 new)

  -- and so does replacing a history by one of the same key
  pub keys_kept : (keys : List (List ℤ)) (hs : List (HistoryState T)) (i : ℕ) (new : HistoryState T) → AreKeysOf keys hs → IsSomeAnd (slice_get hs i) (λ old. old.key ≡ new.key) → AreKeysOf keys (set hs i new)
  keys_kept keys hs i new paired same =
      let there = at_place (slice_get hs i) same in
      (paired.0 ∙ sym (keys_replaced hs i there.0 new there.1 there.2), apart_replaced hs i there.0 new paired.1 there.1 there.2)

  -- a search among the keys finds a history of the key
  pub found_of_key : (key : List ℤ) (hs : List (HistoryState T)) (o : Option ℕ) → o ≡ position (same_row key) (map (λ h. h.key) hs) → IfSome o (λ i. IsSomeAnd (slice_get hs i) (λ h. h.key ≡ key))
  found_of_key key hs None e = tt
  found_of_key key hs (Some i) e =
      let none : HistoryState T = record { key = key; times = []; due = []; given = [] } in
      let at = position-Some (same_row key) (map (λ h. h.key) hs) i key (sym e) in
      let within : i < length hs = subst (λ n. i < n) (length-map hs (λ h. h.key)) at.0 in
      let here : slice_get hs i ≡ Some (get_or hs i none) = slice_get-get_or hs i none within in
      let same : get_or (map (λ h. h.key) hs) i key ≡ (get_or hs i none).key = get_or-map (λ (h : HistoryState T). h.key) hs i none key within in
      let is : (get_or hs i none).key ≡ key = sym (row_same key (get_or hs i none).key (subst (λ k. same_row key k ≡ true) same at.1)) in
      subst (λ o. IsSomeAnd o (λ h. h.key ≡ key)) (sym here) is

  -- what the histories have of a key, as their due times or what was given
  module _ {X : Type 0} (f : HistoryState T → List X) where
    -- they have nothing of a key without a history
    pub of_absent : (key : List ℤ) (hs : List (HistoryState T)) → list_any (λ h. same_row key h.key) hs ≡ false → of_history f key hs ≡ []
    of_absent key [] none = refl
    of_absent key (h ∷ hs) none =
        let parts = or_parts (is_of key h) (has key hs) none in
        ap (λ b. cond b (f h) [] ++ of_history f key hs) (row_differs key h.key parts.0) ∙ of_absent key hs parts.1

    -- of the key of a history, they have what that history has
    pub of_there : (hs : List (HistoryState T)) (i : ℕ) (h : HistoryState T) → AreKeysApart hs → slice_get hs i ≡ Some h → of_history f h.key hs ≡ f h
    of_there [] i h apart e = absurd (none-some h e)
    of_there (g ∷ hs) zero h apart e =
        let first : of_history f g.key (g ∷ hs) ≡ f g ++ of_history f g.key hs = ap (λ b. cond b (f g) [] ++ of_history f g.key hs) (row_itself g.key) in
        let own : of_history f g.key (g ∷ hs) ≡ f g = first ∙ ap (λ xs. f g ++ xs) (of_absent g.key hs apart.0) ∙ append-nil (f g) in
        subst (λ (x : HistoryState T). of_history f x.key (g ∷ hs) ≡ f x) (same_Some g h e) own
    of_there (g ∷ hs) (suc i) h apart e =
        ap (λ b. cond b (f g) [] ++ of_history f h.key hs) (differs_at g.key hs i h apart.0 e)
        ∙ of_there hs i h apart.1 e

    -- an appended history adds what it has if it is of the key, and nothing otherwise
    pub of_pushed : (key : List ℤ) (hs : List (HistoryState T)) (h : HistoryState T) → of_history f key (hs ++ h ∷ []) ≡ of_history f key hs ++ (if same_row h.key key then f h else [])
    of_pushed key [] h = append-nil (cond (same_row h.key key) (f h) [])
    of_pushed key (g ∷ hs) h =
        ap (λ xs. cond (same_row g.key key) (f g) [] ++ xs) (of_pushed key hs h)
        ∙ sym (append_assoc (cond (same_row g.key key) (f g) []) (of_history f key hs) (cond (same_row h.key key) (f h) []))

    -- if a history replaces another one of its key, then they have of that key what the new history
    -- has, and of every other key what they had before
    pub of_replaced : (key : List ℤ) (hs : List (HistoryState T)) (i : ℕ) (old new : HistoryState T) → AreKeysApart hs → slice_get hs i ≡ Some old → old.key ≡ new.key
        → of_history f key (set hs i new) ≡ (if same_row new.key key then f new else of_history f key hs)
    of_replaced key [] i old new apart e k = absurd (none-some old e)
    of_replaced key (g ∷ hs) zero old new apart e k =
        let same : g.key ≡ new.key = ap (λ (x : HistoryState T). x.key) (same_Some g old e) ∙ k in
        subst
        (λ r. cond (same_row new.key key) (f new) [] ++ of_history f key hs ≡ cond (same_row new.key key) (f new) (cond (same_row r key) (f g) [] ++ of_history f key hs))
        (sym same)
        (step (same_row new.key key) refl (subst (λ r. has r hs ≡ false) same apart.0))
      where
        step : (b : Bool) → same_row new.key key ≡ b → has new.key hs ≡ false → cond b (f new) [] ++ of_history f key hs ≡ cond b (f new) (cond b (f g) [] ++ of_history f key hs)
        step true t none =
            let gone : of_history f key hs ≡ [] = of_absent key hs (subst (λ r. has r hs ≡ false) (row_same new.key key t) none) in
            ap (λ xs. f new ++ xs) gone ∙ append-nil (f new)
        step false t none = refl
    of_replaced key (g ∷ hs) (suc i) old new apart e k =
        ap (λ xs. cond (same_row g.key key) (f g) [] ++ xs) (of_replaced key hs i old new apart.1 e k)
        ∙ step (same_row new.key key) refl
      where
        step : (b : Bool) → same_row new.key key ≡ b → cond (same_row g.key key) (f g) [] ++ cond b (f new) (of_history f key hs) ≡ cond b (f new) (cond (same_row g.key key) (f g) [] ++ of_history f key hs)
        step true t =
            let other : same_row g.key key ≡ false = ap (same_row g.key) (sym (k ∙ row_same new.key key t)) ∙ differs_at g.key hs i old apart.0 e in
            ap (λ b. cond b (f g) [] ++ f new) other
        step false t = refl

    -- what they have of a key is what the key's history has
    pub of_its_history : (key : List ℤ) (hs : List (HistoryState T)) → of_history f key hs ≡ flat_map f (history_of key hs)
    of_its_history key [] = refl
    of_its_history key (h ∷ hs) = step (same_row h.key key) (of_its_history key hs)
      where
        step : (b : Bool) → of_history f key hs ≡ flat_map f (history_of key hs) → cond b (f h) [] ++ of_history f key hs ≡ flat_map f (cond b (h ∷ []) [] ++ history_of key hs)
        step true ih = ap (λ xs. f h ++ xs) ih
        step false ih = ih

-- The stamps of what waits in a queue, load by load: what the loops of `queue.rt` have read so far.
use Rattle.std.proofs.Common.{◌≡◌, ℕ, zero, suc, ◌+◌, ◌<◌, ◌≤◌, true, false, ◌||◌, List, [], ◌∷◌, ◌++◌, map, take, length, get_or, sym, ap, ap₂, ◌∙◌, arith, append_assoc, append-nil}
use Rattle.std.specs.List.{flat_map}
use Rattle.std.proofs.lemmas.Bool.{or_left, or_right}
use Rattle.std.proofs.lemmas.List.{length-map, get_or-map, take_more, take_all}
use Rattle.std.proofs.lemmas.List.Concat.{flat_map-append}
use Rattle.std.proofs.lemmas.List.Folds.{list_any-append}
use Rattle.lattice.specs.Times.{Times}
use Rattle.lattice.specs.Frontiers.{is_beyond}
use Rattle.outstanding.specs.Loads.{Load, load_of}
use Rattle.outstanding.specs.declared.queue.Parcel.{Parcel}

module _ {T : Type 0} where
  -- the stamps of loads, one after another
  abbrev pub load_stamps : List (Load T) → List T
  load_stamps loads = flat_map (λ load. load.stamp) loads

  -- The parcel of number `i` among `items`. A contract sees the items as `loads`.
  module _ (items : List (Parcel T)) (loads : List (Load T)) (v : map load_of items ≡ loads) (i : ℕ) (parcel : Parcel T) (l : i < length items) (e : parcel ≡ get_or items i parcel) where
    within : i < length loads
    within = let long = length-map items load_of in let same = ap length v in omega (arith, l, long, same)

    here : get_or loads i (load_of parcel) ≡ load_of parcel
    here = ap (λ ys. get_or ys i (load_of parcel)) (sym v) ∙ (get_or-map load_of items i parcel (load_of parcel) l ∙ ap load_of (sym e))

    -- the stamps so far, with the parcel's, are those of one more load
    pub stamps_next : load_stamps (take (i + 1) loads) ≡ load_stamps (take i loads) ++ (load_of parcel).stamp
    stamps_next =
        ap load_stamps (take_more loads i (load_of parcel) within)
        ∙ (flat_map-append (λ load. load.stamp) (take i loads) (get_or loads i (load_of parcel) ∷ [])
        ∙ ap (λ ts. load_stamps (take i loads) ++ ts) (append-nil (get_or loads i (load_of parcel)).stamp ∙ ap (λ (load : Load T). load.stamp) here))

    -- the step of the loop that collects the stamps
    pub stamps_pushed : (old mid new : List T) → mid ≡ old ++ load_stamps (take i loads) → new ≡ mid ++ (load_of parcel).stamp → new ≡ old ++ load_stamps (take (i + 1) loads)
    stamps_pushed old mid new m h =
        h
        ∙ (ap (λ ts. ts ++ (load_of parcel).stamp) m
        ∙ (append_assoc old (load_stamps (take i loads)) (load_of parcel).stamp
        ∙ ap (λ ts. old ++ ts) (sym stamps_next)))

    module _ (times : Times T) (t : T) where
      any_in : (all : List (Load T)) (j : ℕ) (d : Load T) → j < length all → is_beyond times (get_or all j d).stamp t ≡ true → is_beyond times (load_stamps all) t ≡ true
      any_in [] j d k h = absurd (omega (arith, k))
      any_in (x ∷ xs) zero d k h = list_any-append (λ s. times.below s t) x.stamp (load_stamps xs) ∙ or_left (is_beyond times x.stamp t) (is_beyond times (load_stamps xs) t) h
      any_in (x ∷ xs) (suc j) d k h = list_any-append (λ s. times.below s t) x.stamp (load_stamps xs) ∙ or_right (is_beyond times x.stamp t) (is_beyond times (load_stamps xs) t) (any_in xs j d (omega (arith, k)) h)

      -- a stamp with an element at or before the time decides the question
      pub stamps_reach : true ≡ is_beyond times (load_of parcel).stamp t → true ≡ is_beyond times (load_stamps loads) t
      stamps_reach h = sym (any_in loads i (load_of parcel) within (ap (λ (load : Load T). is_beyond times load.stamp t) here ∙ sym h))

      -- the step past a load whose stamp has no such element
      pub stamps_pass : is_beyond times (load_stamps (take i loads)) t ≡ false → false ≡ is_beyond times (load_of parcel).stamp t → is_beyond times (load_stamps (take (i + 1) loads)) t ≡ false
      stamps_pass b h = ap (λ ts. is_beyond times ts t) stamps_next ∙ (list_any-append (λ s. times.below s t) (load_stamps (take i loads)) (load_of parcel).stamp ∙ ap₂ (λ a c. a || c) b (sym h))

  -- The end of those loops
  module _ (items : List (Parcel T)) (loads : List (Load T)) (v : map load_of items ≡ loads) (i : ℕ) (l : length items ≤ i) where
    all_read : take i loads ≡ loads
    all_read = let long = length-map items load_of in let same = ap length v in take_all i loads (omega (arith, l, long, same))

    -- at the end, all stamps are collected
    pub stamps_gathered : (old new : List T) → new ≡ old ++ load_stamps (take i loads) → new ≡ old ++ load_stamps loads
    stamps_gathered old new h = h ∙ ap (λ all. old ++ load_stamps all) all_read

    -- at the end, no stamp has an element at or before the time
    pub stamps_passed : (times : Times T) (t : T) → is_beyond times (load_stamps (take i loads)) t ≡ false → false ≡ is_beyond times (load_stamps loads) t
    stamps_passed times t h = sym h ∙ ap (λ all. is_beyond times (load_stamps all) t) all_read

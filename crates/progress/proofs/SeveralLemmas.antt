-- What several items that are counted, or removed, together make of the counts.
use Rattle.std.proofs.Common.{◌≡◌, ℕ, ◌+◌, ◌<◌, Bool, List, ◌∷◌, ◌++◌, map, length, take, drop, get_or, sym, refl, ap, ◌∙◌, inl, arith}
use Rattle.std.specs.Prelude.{Contains}
use Rattle.std.specs.List.{filter}
use Rattle.std.proofs.lemmas.List.{length-append, map-append, drop_more, take-append-drop}
use Rattle.std.proofs.lemmas.List.Elements.{filter-append}
use Rattle.lattice.specs.Times.{Times}
use Rattle.lattice.specs.Order.{PartialOrderLaws}
use Rattle.antichain.proofs.Lists.{contains_among}
use Rattle.progress.specs.declared.place.Place.{Place}
use Rattle.progress.specs.declared.counted.Counted.{Counted}
use Rattle.progress.specs.Tallies.{SameCounts}
use Rattle.progress.specs.Several.{items_at, AreCounted}
use Rattle.progress.proofs.ItemLemmas.{same_items}

module _ {T : Type 0} where
  -- how many items pass a test
  abbrev passing : (Counted T → Bool) → List (Counted T) → ℕ
  passing test xs = length (filter test xs)

  pub passing_both : (test : Counted T → Bool) (xs ys : List (Counted T)) → passing test (xs ++ ys) ≡ passing test xs + passing test ys
  passing_both test xs ys = ap length (filter-append test xs ys) ∙ length-append (filter test xs) (filter test ys)

  -- after those that were added are removed, all is as it was
  pub taken_back : (place : Place) (us : List T) (old mid new : List (Counted T)) → SameCounts mid (items_at place us ++ old) → SameCounts (items_at place us ++ new) mid → SameCounts new old
  taken_back place us old mid new added removed test =
      let a = added test in
      let b = removed test in
      let c = passing_both test (items_at place us) old in
      let d = passing_both test (items_at place us) new in
      omega (arith, a, b, c, d)

  -- the next item to be removed is there
  pub next_is_there : (times : Times T) → PartialOrderLaws times → (place : Place) (ts : List T) (i : ℕ) (t : T) (old mid : List (Counted T)) → i < length ts → t ≡ get_or ts i t
      → AreCounted old (items_at place ts) → SameCounts (items_at place (take i ts) ++ mid) old → Contains mid (record { place = place; time = t })
  next_is_there times o place ts i t old mid l e counted so_far =
      same_items times o (x ∷ after) mid x (λ test. sym (same test)) (contains_among x (x ∷ after) (inl refl))
    where
      x : Counted T
      x = record { place = place; time = t }

      before : List (Counted T)
      before = items_at place (take i ts)

      later : List (Counted T)
      later = items_at place (drop (i + 1) ts)

      after : List (Counted T)
      after = later ++ counted.rest

      one : T → Counted T
      one u = record { place = place; time = u }

      split : items_at place ts ≡ before ++ (x ∷ later)
      split =
          ap (map one) (sym (take-append-drop i ts))
          ∙ (map-append one (take i ts) (drop i ts)
          ∙ ap (λ us. before ++ map one us) (drop_more ts i t l ∙ ap (λ u. u ∷ drop (i + 1) ts) (sym e)))

      same : SameCounts mid (x ∷ after)
      same test =
          let a = so_far test in
          let b = counted.counts test in
          let c = passing_both test before mid in
          let d = passing_both test (items_at place ts) counted.rest in
          let f = ap (passing test) split in
          let g = passing_both test before (x ∷ later) in
          let h = passing_both test (x ∷ later) counted.rest in
          omega (arith, a, b, c, d, f, g, h)

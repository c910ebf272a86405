-- Which items a list has, told by counts: times of a lattice are equal if each is at or before the
-- other, so some test is passed by one item alone.
use Rattle.std.proofs.Common.{◌≡◌, Bool, true, ◌&&◌, eqb, List, [], ◌∷◌, refl, ap, sym, ◌∙◌, inl, inr, ⊎_elim}
use Rattle.std.specs.Prelude.{Contains}
use Rattle.std.specs.List.{list_any}
use Rattle.std.proofs.lemmas.Bool.{and_parts, and_from, or_left, or_right, or_cases, eqb-true, eq-eqb, false≢true}
use Rattle.lattice.specs.Times.{Times}
use Rattle.lattice.specs.Order.{PartialOrderLaws}
use Rattle.antichain.proofs.Lists.{Among, among_contains, contains_among}
use Rattle.antichain.proofs.AntichainLemmas.{among_same}
use Rattle.progress.specs.declared.place.Place.{Place}
use Rattle.progress.specs.declared.place.Place.TheVariants.{Port, Held, Input}
use Rattle.progress.specs.declared.counted.Counted.{Counted}
use Rattle.progress.specs.Tallies.{SameCounts, IsDowngrade, is_port, is_held_at, is_input_at}
use Rattle.progress.proofs.CountLemmas.{any_alike, any_changed}

-- the second place is the first
abbrev is_at : Place → Place → Bool
is_at (Port node port) q = is_port node port q
is_at (Held node) q = is_held_at node q
is_at (Input node) q = is_input_at node q

at_itself : (p : Place) → is_at p p ≡ true
at_itself (Port node port) = and_from (eqb node node) (eqb port port) (eq-eqb node node refl) (eq-eqb port port refl)
at_itself (Held node) = eq-eqb node node refl
at_itself (Input node) = eq-eqb node node refl

at_one : (p q : Place) → is_at p q ≡ true → q ≡ p
at_one (Port node port) (Port m k) h = let e = and_parts (eqb m node) (eqb k port) h in (λ i. Port (eqb-true m node e.0 i) (eqb-true k port e.1 i))
at_one (Port node port) (Held m) h = absurd (false≢true h)
at_one (Port node port) (Input m) h = absurd (false≢true h)
at_one (Held node) (Port m k) h = absurd (false≢true h)
at_one (Held node) (Held m) h = ap Held (eqb-true m node h)
at_one (Held node) (Input m) h = absurd (false≢true h)
at_one (Input node) (Port m k) h = absurd (false≢true h)
at_one (Input node) (Held m) h = absurd (false≢true h)
at_one (Input node) (Input m) h = ap Input (eqb-true m node h)

module _ {T : Type 0} (times : Times T) (o : PartialOrderLaws times) where
  -- an item is this one
  abbrev is_item : Counted T → Counted T → Bool
  is_item x i = is_at x.place i.place && (times.below i.time x.time && times.below x.time i.time)

  is_itself : (x : Counted T) → is_item x x ≡ true
  is_itself x = and_from (is_at x.place x.place) (times.below x.time x.time && times.below x.time x.time) (at_itself x.place) (and_from (times.below x.time x.time) (times.below x.time x.time) (o.reflexive x.time) (o.reflexive x.time))

  is_one : (x i : Counted T) → is_item x i ≡ true → i ≡ x
  is_one x i h =
      let a = and_parts (is_at x.place i.place) (times.below i.time x.time && times.below x.time i.time) h in
      let b = and_parts (times.below i.time x.time) (times.below x.time i.time) a.1 in
      let time = o.antisymmetric i.time x.time b.0 b.1 in
      let place = at_one x.place i.place a.0 in
      (λ k. let z : Counted T = record { place = place k; time = time k } in z)

  -- the test that finds an item
  finds : (x : Counted T) (xs : List (Counted T)) → Among x xs → list_any (is_item x) xs ≡ true
  finds x [] m = absurd m
  finds x (y ∷ ys) m =
      ⊎_elim
      (λ e. or_left (is_item x y) (list_any (is_item x) ys) (ap (is_item x) e ∙ is_itself x))
      (λ n. or_right (is_item x y) (list_any (is_item x) ys) (finds x ys n))
      m

  found : (x : Counted T) (xs : List (Counted T)) → list_any (is_item x) xs ≡ true → Among x xs
  found x [] h = absurd (false≢true h)
  found x (y ∷ ys) h = ⊎_elim (λ e. inl (is_one x y e)) (λ k. inr (found x ys k)) (or_cases (is_item x y) (list_any (is_item x) ys) h)

  -- lists that count alike have the same items
  pub same_items : (xs ys : List (Counted T)) (x : Counted T) → SameCounts xs ys → Contains xs x → Contains ys x
  same_items xs ys x same there =
      contains_among x ys (found x ys (sym (any_alike (is_item x) xs ys same) ∙ finds x xs (among_contains x xs there)))

  -- an item that was downgraded is there at its later time
  pub downgraded_there : (old new : List (Counted T)) (x : Counted T) (later : T) → IsDowngrade times old new x later → Contains new (record x { time = later })
  downgraded_there old new x later d =
      let y : Counted T = record x { time = later } in
      contains_among y new (found y new (any_changed (is_item y) old new x y d.counts (is_itself y) (λ h.
      finds y old (among_same x y old (is_one y x h) (among_contains x old d.counted)))))

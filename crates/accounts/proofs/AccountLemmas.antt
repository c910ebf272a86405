-- What each event makes of the counts of what is outstanding: it adds the items that come in, and
-- takes away those that go out.
use Rattle.std.proofs.Common.{◌≡◌, ℕ, zero, suc, ◌+◌, ◌<◌, ◌≤◌, Bool, true, false, cond, ◌&&◌, List, [], ◌∷◌, ◌++◌, Option, Some, None, map, length, get_or, set, slice_get, get_or-set_same, get_or-set_other, sym, refl, ap, ap₂, ◌∙◌, eqb, arith}
use Rattle.std.specs.Prelude.{nat_lt}
use Rattle.std.specs.List.{filter, flat_map, remove}
use Rattle.std.proofs.lemmas.Bool.{and_from, eq-eqb, ltb-true, ltb-false, false≢true}
use Rattle.std.proofs.lemmas.List.{append-nil, map-append, set-get_or}
use Rattle.std.proofs.lemmas.List.Elements.{filter-append}
use Rattle.std.proofs.lemmas.List.Concat.{flat_map-append}
use Rattle.std.proofs.lemmas.List.Folds.{flat_map-map}
use Rattle.plan.specs.Ancestors.{numbers_below}
use Rattle.progress.specs.declared.place.Place.{Place}
use Rattle.progress.specs.declared.place.Place.TheVariants.{Port, Held, Input}
use Rattle.progress.specs.declared.counted.Counted.{Counted}
use Rattle.progress.specs.Several.{items_at}
use Rattle.histories.specs.declared.event.Site.{Site}
use Rattle.histories.specs.declared.event.Bundle.{Bundle}
use Rattle.histories.specs.declared.event.OpenTime.{OpenTime}
use Rattle.histories.specs.Histories.States.{place}
use Rattle.histories.specs.Histories.{held_entries, open_entries}
use Rattle.histories.specs.Histories.Outstanding.{items_in_flight, items_held}
use Rattle.outstanding.specs.Inputs.{front_at}
use Rattle.outstanding.specs.Loads.{Load, Lot, no_lot, load_in, bundle_at, loads_at, with_load_at, without_load_at, lot_in, lot_of, with_lot, first_stations, put_at, put_all, taken_from, held_from, queue_of, has_place, bundles_of, bundles_in, held_in}
use Rattle.outstanding.proofs.GiveLemmas.{map_flat, map_twice, kept_at, first_lot}
use Rattle.outstanding.proofs.LotLemmas.{flat_flat, flat_empty, apart, no_and}
use Rattle.outstanding.proofs.PlacedLemmas.{lot_at, as_many, as_wide, set_past}
use Rattle.outstanding.proofs.StationLemmas.{node_within}
use Rattle.accounts.specs.Accounts.{AccountState, items_waiting, items_kept, items_left, items_on, placed, items_sent}
use Rattle.accounts.proofs.CountLemmas.{count, count_both, one_changed}

-- ---- one lot changes

module _ {T : Type 0} (test : Counted T → Bool) (has : ℕ → ℕ → Lot T → List (Counted T)) where
  abbrev at_node : List (List (Lot T)) → ℕ → List (Counted T)
  at_node stations n = flat_map (λ k. has n k (lot_of stations n k)) (numbers_below (length (get_or stations n [])))

  abbrev at_all : List (List (Lot T)) → List (Counted T)
  at_all stations = flat_map (at_node stations) (numbers_below (length stations))

  module _ (stations : List (List (Lot T))) (n k : ℕ) (change : Lot T → Lot T) (within : n < length stations) (staffed : k < length (get_or stations n [])) where
    abbrev after : List (List (Lot T))
    after = with_lot n k change stations

    lot_here : lot_of after n k ≡ change (lot_of stations n k)
    lot_here = lot_at stations n k change within staffed n k ∙ ap (λ b. cond b (change (lot_of stations n k)) (lot_of stations n k)) (and_from (eqb n n) (eqb k k) (eq-eqb n n refl) (eq-eqb k k refl))

    lot_beside : (m j : ℕ) → (eqb m n && eqb j k) ≡ false → lot_of after m j ≡ lot_of stations m j
    lot_beside m j e = lot_at stations n k change within staffed m j ∙ ap (λ b. cond b (change (lot_of stations n k)) (lot_of stations m j)) e

    node_beside : (m : ℕ) → (n ≡ m → ⊥) → at_node after m ≡ at_node stations m
    node_beside m d =
        ap (λ w. flat_map (λ j. has m j (lot_of after m j)) (numbers_below w)) (as_wide stations n k change m)
        ∙ ap (λ (f : ℕ → List (Counted T)). flat_map f (numbers_below (length (get_or stations m [])))) (λ i j. has m j (lot_beside m j (ap (λ b. b && eqb j k) (apart n m d)) i))

    node_here : count test (at_node after n) + count test (has n k (lot_of stations n k)) ≡ count test (at_node stations n) + count test (has n k (change (lot_of stations n k)))
    node_here =
        let a = ap (λ w. count test (flat_map (λ j. has n j (lot_of after n j)) (numbers_below w))) (as_wide stations n k change n) in
        let b = one_changed test (λ j. has n j (lot_of stations n j)) (λ j. has n j (lot_of after n j)) k (length (get_or stations n [])) staffed
        (λ j d. ap (λ l. count test (has n j l)) (lot_beside n j (ap (λ c. eqb n n && c) (apart k j d) ∙ no_and (eqb n n)))) in
        let c = ap (λ l. count test (has n k l)) lot_here in
        omega (arith, a, b, c)

    -- the counts change as those of the lot do
    lot_counts : count test (at_all after) + count test (has n k (lot_of stations n k)) ≡ count test (at_all stations) + count test (has n k (change (lot_of stations n k)))
    lot_counts =
        let a = ap (λ w. count test (flat_map (at_node after) (numbers_below w))) (as_many stations n k change) in
        let b = one_changed test (at_node stations) (at_node after) n (length stations) within (λ m d. ap (count test) (node_beside m d)) in
        let c = node_here in
        omega (arith, a, b, c)

module _ {T : Type 0} where
  -- ---- the items of all stations, node by node and worker by worker

  abbrev has_waiting : ℕ → ℕ → Lot T → List (Counted T)
  has_waiting n k lot = items_in_flight (bundles_of n k lot)

  abbrev has_kept : ℕ → ℕ → Lot T → List (Counted T)
  has_kept n k lot = items_held (held_entries n k lot.held)

  abbrev pub items_of_bundle : Bundle T → List (Counted T)
  items_of_bundle b = items_at (Port b.place.node b.place.port) b.stamp

  waiting_spread : (test : Counted T → Bool) (stations : List (List (Lot T))) → items_waiting stations ≡ at_all test has_waiting stations
  waiting_spread test stations =
      flat_flat items_of_bundle (λ n. bundles_in n (get_or stations n [])) (numbers_below (length stations))
      ∙ ap (λ (f : ℕ → List (Counted T)). flat_map f (numbers_below (length stations))) (λ i n. flat_flat items_of_bundle (λ k. bundles_of n k (lot_of stations n k)) (numbers_below (length (get_or stations n []))) i)

  kept_spread : (test : Counted T → Bool) (stations : List (List (Lot T))) → items_kept stations ≡ at_all test has_kept stations
  kept_spread test stations =
      map_flat (λ m. record { place = Held m.node; time = m.time }) (λ n. held_in n (get_or stations n [])) (numbers_below (length stations))
      ∙ ap (λ (f : ℕ → List (Counted T)). flat_map f (numbers_below (length stations)))
      (λ i n. map_flat (λ m. record { place = Held m.node; time = m.time }) (λ k. held_entries n k (lot_of stations n k).held) (numbers_below (length (get_or stations n []))) i)

  module _ (test : Counted T → Bool) (stations : List (List (Lot T))) (n k : ℕ) (change : Lot T → Lot T) (within : n < length stations) (staffed : k < length (get_or stations n [])) where
    waiting_changed : count test (items_waiting (with_lot n k change stations)) + count test (has_waiting n k (lot_of stations n k)) ≡ count test (items_waiting stations) + count test (has_waiting n k (change (lot_of stations n k)))
    waiting_changed =
        let a = ap (count test) (waiting_spread test (with_lot n k change stations)) in
        let b = ap (count test) (waiting_spread test stations) in
        let c = lot_counts test has_waiting stations n k change within staffed in
        omega (arith, a, b, c)

    kept_changed : count test (items_kept (with_lot n k change stations)) + count test (has_kept n k (lot_of stations n k)) ≡ count test (items_kept stations) + count test (has_kept n k (change (lot_of stations n k)))
    kept_changed =
        let a = ap (count test) (kept_spread test (with_lot n k change stations)) in
        let b = ap (count test) (kept_spread test stations) in
        let c = lot_counts test has_kept stations n k change within staffed in
        omega (arith, a, b, c)

  -- ---- the items of one lot

  -- what waits at a port, as items
  abbrev at_port : ℕ → ℕ → List (Load T) → List (Counted T)
  at_port n port loads = flat_map (λ load. items_at (Port n port) load.stamp) loads

  port_items : (n k port : ℕ) (loads : List (Load T)) → items_in_flight (map (bundle_at (place n port k)) loads) ≡ at_port n port loads
  port_items n k port loads = flat_map-map items_of_bundle (bundle_at (place n port k)) loads

  lot_items : (n k : ℕ) (lot : Lot T) → has_waiting n k lot ≡ at_port n 0 lot.left ++ at_port n 1 lot.right
  lot_items n k lot =
      flat_map-append items_of_bundle (map (bundle_at (place n 0 k)) lot.left) (map (bundle_at (place n 1 k)) lot.right)
      ∙ ap₂ (λ xs ys. xs ++ ys) (port_items n k 0 lot.left) (port_items n k 1 lot.right)

  -- what an input leaves open, as items
  abbrev pub at_input : List (List T) → ℕ → List (Counted T)
  at_input inputs i = items_at (Input i) (front_at i inputs)

  pub left_spread : (nodes : ℕ) (inputs : List (List T)) → items_left nodes inputs ≡ flat_map (at_input inputs) (numbers_below nodes)
  left_spread nodes inputs =
      map_flat (λ (o : OpenTime T). record { place = Input o.input; time = o.time }) (λ i. open_entries i (front_at i inputs)) (numbers_below nodes)
      ∙ ap (λ (f : ℕ → List (Counted T)). flat_map f (numbers_below nodes)) (λ k i. map_twice (λ (o : OpenTime T). record { place = Input o.input; time = o.time }) (λ t. record { input = i; time = t }) (front_at i inputs) k)

  abbrev stamp_in : Option (Bundle T) → List T
  stamp_in None = []
  stamp_in (Some b) = b.stamp

  module _ (test : Counted T → Bool) where
    lot_sum : (n k : ℕ) (lot : Lot T) → count test (has_waiting n k lot) ≡ count test (at_port n 0 lot.left) + count test (at_port n 1 lot.right)
    lot_sum n k lot = ap (count test) (lot_items n k lot) ∙ count_both test (at_port n 0 lot.left) (at_port n 1 lot.right)

    port_pushed : (n port : ℕ) (loads : List (Load T)) (load : Load T) → count test (at_port n port (loads ++ load ∷ [])) ≡ count test (at_port n port loads) + count test (items_at (Port n port) load.stamp)
    port_pushed n port loads load =
        ap (count test) (flat_map-append (λ (l : Load T). items_at (Port n port) l.stamp) loads (load ∷ []) ∙ ap (λ xs. at_port n port loads ++ xs) (append-nil (items_at (Port n port) load.stamp)))
        ∙ count_both test (at_port n port loads) (items_at (Port n port) load.stamp)

    none_counted : (p : Place) (ts : List T) → [] ≡ ts → count test (items_at p ts) ≡ 0
    none_counted p ts e = sym (ap (λ us. count test (items_at p us)) e)

    port_taken : (n port : ℕ) (site : Site) (loads : List (Load T)) (number : ℕ) (b : Bundle T) → slice_get (map (bundle_at site) loads) number ≡ Some b
        → count test (at_port n port (remove loads number)) + count test (items_at (Port n port) b.stamp) ≡ count test (at_port n port loads)
    port_taken n port site [] zero b e = let a = none_counted (Port n port) b.stamp (ap stamp_in e) in omega (arith, a)
    port_taken n port site [] (suc number) b e = let a = none_counted (Port n port) b.stamp (ap stamp_in e) in omega (arith, a)
    port_taken n port site (load ∷ loads) zero b e =
        let a = count_both test (items_at (Port n port) load.stamp) (at_port n port loads) in
        let c = ap (λ ts. count test (items_at (Port n port) ts)) (ap stamp_in e) in
        omega (arith, a, c)
    port_taken n port site (load ∷ loads) (suc number) b e =
        let a = count_both test (items_at (Port n port) load.stamp) (at_port n port loads) in
        let c = count_both test (items_at (Port n port) load.stamp) (at_port n port (remove loads number)) in
        let d = port_taken n port site loads number b e in
        omega (arith, a, c, d)

    -- a load more at a port, in the counts of its lot
    lot_put : (n k port : ℕ) (load : Load T) (lot : Lot T) → port < 2 → count test (has_waiting n k (with_load_at port load lot)) ≡ count test (has_waiting n k lot) + count test (items_at (Port n port) load.stamp)
    lot_put n k zero load lot l =
        let a = lot_sum n k lot in
        let b = lot_sum n k (with_load_at 0 load lot) in
        let c = port_pushed n 0 lot.left load in
        omega (arith, a, b, c)
    lot_put n k (suc zero) load lot l =
        let a = lot_sum n k lot in
        let b = lot_sum n k (with_load_at 1 load lot) in
        let c = port_pushed n 1 lot.right load in
        omega (arith, a, b, c)
    lot_put n k (suc (suc port)) load lot l = absurd (omega (arith, l))

    lot_put_held : (n k port : ℕ) (load : Load T) (lot : Lot T) → has_kept n k (with_load_at port load lot) ≡ has_kept n k lot
    lot_put_held n k zero load lot = refl
    lot_put_held n k (suc zero) load lot = refl
    lot_put_held n k (suc (suc port)) load lot = refl

    -- a load less at a port, in the counts of its lot
    lot_taken : (n k port : ℕ) (site : Site) (number : ℕ) (b : Bundle T) (lot : Lot T) → slice_get (map (bundle_at site) (loads_at port lot)) number ≡ Some b
        → count test (has_waiting n k (without_load_at port number b.stamp lot)) + count test (items_at (Port n port) b.stamp) ≡ count test (has_waiting n k lot)
    lot_taken n k zero site number b lot e =
        let a = lot_sum n k lot in
        let c = lot_sum n k (without_load_at 0 number b.stamp lot) in
        let d = port_taken n 0 site lot.left number b e in
        omega (arith, a, c, d)
    lot_taken n k (suc zero) site number b lot e =
        let a = lot_sum n k lot in
        let c = lot_sum n k (without_load_at 1 number b.stamp lot) in
        let d = port_taken n 1 site lot.right number b e in
        omega (arith, a, c, d)
    lot_taken n k (suc (suc port)) site number b lot e =
        let a = none_counted (Port n (suc (suc port))) b.stamp (empty number e) in
        omega (arith, a)
      where
        empty : (i : ℕ) → slice_get (map (bundle_at site) []) i ≡ Some b → [] ≡ b.stamp
        empty zero h = ap stamp_in h
        empty (suc i) h = ap stamp_in h

    lot_taken_held : (n k port number : ℕ) (ts : List T) (lot : Lot T) → count test (has_kept n k (without_load_at port number ts lot)) ≡ count test (has_kept n k lot) + count test (items_at (Held n) ts)
    lot_taken_held n k port number ts lot =
        ap (λ us. count test (items_held (held_entries n k us))) (held_then port)
        ∙ (ap (count test) (kept_at n k (lot.held ++ ts) ∙ map-append (λ t. record { place = Held n; time = t }) lot.held ts)
        ∙ (count_both test (items_at (Held n) lot.held) (items_at (Held n) ts)
        ∙ ap (λ c. c + count test (items_at (Held n) ts)) (sym (ap (count test) (kept_at n k lot.held)))))
      where
        held_then : (p : ℕ) → (without_load_at p number ts lot).held ≡ lot.held ++ ts
        held_then zero = refl
        held_then (suc zero) = refl
        held_then (suc (suc p)) = refl

    -- ---- the events, in the counts of what waits and of what is held

    module _ (stations : List (List (Lot T))) (site : Site) (load : Load T) (within : site.node < length stations) (staffed : site.worker < length (get_or stations site.node [])) (port : site.port < 2) where
      pub put_waiting : count test (items_waiting (put_at site load stations)) ≡ count test (items_waiting stations) + count test (items_at (Port site.node site.port) load.stamp)
      put_waiting =
          let a = waiting_changed test stations site.node site.worker (with_load_at site.port load) within staffed in
          let b = lot_put site.node site.worker site.port load (lot_of stations site.node site.worker) port in
          omega (arith, a, b)

      pub put_kept : count test (items_kept (put_at site load stations)) ≡ count test (items_kept stations)
      put_kept =
          let a = kept_changed test stations site.node site.worker (with_load_at site.port load) within staffed in
          let b = ap (count test) (lot_put_held site.node site.worker site.port load (lot_of stations site.node site.worker)) in
          omega (arith, a, b)

    module _ (stations : List (List (Lot T))) (number : ℕ) (b : Bundle T) (within : b.place.node < length stations) (staffed : b.place.worker < length (get_or stations b.place.node [])) (there : slice_get (queue_of stations b.place) number ≡ Some b) where
      pub take_waiting : count test (items_waiting (taken_from number b stations)) + count test (items_at (Port b.place.node b.place.port) b.stamp) ≡ count test (items_waiting stations)
      take_waiting =
          let a = waiting_changed test stations b.place.node b.place.worker (without_load_at b.place.port number b.stamp) within staffed in
          let c = lot_taken b.place.node b.place.worker b.place.port b.place number b (lot_of stations b.place.node b.place.worker) there in
          omega (arith, a, c)

      pub take_kept : count test (items_kept (taken_from number b stations)) ≡ count test (items_kept stations) + count test (items_at (Held b.place.node) b.stamp)
      take_kept =
          let a = kept_changed test stations b.place.node b.place.worker (without_load_at b.place.port number b.stamp) within staffed in
          let c = lot_taken_held b.place.node b.place.worker b.place.port number b.stamp (lot_of stations b.place.node b.place.worker) in
          omega (arith, a, c)

    module _ (stations : List (List (Lot T))) (n k : ℕ) (ts : List T) (within : n < length stations) (staffed : k < length (get_or stations n [])) where
      pub hold_waiting : count test (items_waiting (held_from n k ts stations)) ≡ count test (items_waiting stations)
      hold_waiting =
          let a = waiting_changed test stations n k (λ lot. record lot { held = ts }) within staffed in
          omega (arith, a)

      pub hold_kept : count test (items_kept (held_from n k ts stations)) + count test (items_at (Held n) (lot_of stations n k).held) ≡ count test (items_kept stations) + count test (items_at (Held n) ts)
      hold_kept =
          let a = kept_changed test stations n k (λ lot. record lot { held = ts }) within staffed in
          let b = ap (count test) (kept_at n k (lot_of stations n k).held) in
          let c = ap (count test) (kept_at n k ts) in
          omega (arith, a, b, c)

    -- another frontier of one input, in the counts of what the inputs leave open
    pub left_changed : (nodes i : ℕ) (ts : List T) (inputs : List (List T)) → i < nodes → i < length inputs
        → count test (items_left nodes (set inputs i ts)) + count test (items_at (Input i) (front_at i inputs)) ≡ count test (items_left nodes inputs) + count test (items_at (Input i) ts)
    left_changed nodes i ts inputs l m =
        let a = ap (count test) (left_spread nodes inputs) in
        let b = ap (count test) (left_spread nodes (set inputs i ts)) in
        let c = one_changed test (at_input inputs) (at_input (set inputs i ts)) i nodes l (λ j d. ap (λ us. count test (items_at (Input j) us)) (get_or-set_other inputs i j ts [] (λ e. d (sym e)))) in
        let d = ap (λ us. count test (items_at (Input i) us)) (get_or-set_same inputs i ts [] m) in
        omega (arith, a, b, c, d)

  -- ---- places

  module _ (stations : List (List (Lot T))) (site : Site) where
    pub is_there : has_place stations site ≡ true → (site.worker < length (get_or stations site.node [])) × (site.port < 2)
    is_there e = step (nat_lt site.worker (length (get_or stations site.node []))) (nat_lt site.port 2) refl refl e
      where
        step : (a b : Bool) → nat_lt site.worker (length (get_or stations site.node [])) ≡ a → nat_lt site.port 2 ≡ b → (a && b) ≡ true → (site.worker < length (get_or stations site.node [])) × (site.port < 2)
        step true true e f h = (ltb-true site.worker (length (get_or stations site.node [])) e, ltb-true site.port 2 f)
        step true false e f h = absurd (false≢true h)
        step false b e f h = absurd (false≢true h)

    -- nothing is put at a place that does not exist
    pub put_nowhere : (load : Load T) → has_place stations site ≡ false → put_at site load stations ≡ stations
    put_nowhere load e = step (nat_lt site.worker (length (get_or stations site.node []))) (nat_lt site.port 2) refl refl e
      where
        row : List (Lot T)
        row = get_or stations site.node []

        no_port : (port : ℕ) (lot : Lot T) → 2 ≤ port → with_load_at port load lot ≡ lot
        no_port zero lot l = absurd (omega (arith, l))
        no_port (suc zero) lot l = absurd (omega (arith, l))
        no_port (suc (suc port)) lot l = refl

        step : (a b : Bool) → nat_lt site.worker (length row) ≡ a → nat_lt site.port 2 ≡ b → (a && b) ≡ false → put_at site load stations ≡ stations
        step true true e f h = absurd (false≢true (sym h))
        step true false e f h =
            ap (λ lot. set stations site.node (set row site.worker lot)) (no_port site.port (lot_in row site.worker) (ltb-false site.port 2 f))
            ∙ (ap (set stations site.node) (set-get_or row site.worker no_lot) ∙ set-get_or stations site.node [])
        step false b e f h =
            ap (set stations site.node) (set_past row site.worker (with_load_at site.port load (lot_in row site.worker)) (ltb-false site.worker (length row) e))
            ∙ set-get_or stations site.node []

    -- a put moves no place
    same_places : (load : Load T) (other : Site) → has_place (put_at site load stations) other ≡ has_place stations other
    same_places load other = ap (λ w. nat_lt other.worker w && nat_lt other.port 2) (as_wide stations site.node site.worker (with_load_at site.port load) other.node)

  module _ (test : Counted T → Bool) where
    -- ---- several bundles are put

    -- a bundle that is sent is counted if it has a place
    pub sent_there : (stations : List (List (Lot T))) (b : Bundle T) (bs : List (Bundle T)) → has_place stations b.place ≡ true → items_sent stations (b ∷ bs) ≡ items_of_bundle b ++ items_sent stations bs
    sent_there stations b bs e = ap (λ c. items_in_flight (cond c (b ∷ placed stations bs) (placed stations bs))) e

    pub sent_nowhere : (stations : List (List (Lot T))) (b : Bundle T) (bs : List (Bundle T)) → has_place stations b.place ≡ false → items_sent stations (b ∷ bs) ≡ items_sent stations bs
    sent_nowhere stations b bs e = ap (λ c. items_in_flight (cond c (b ∷ placed stations bs) (placed stations bs))) e

    pub sent_both : (stations : List (List (Lot T))) (bs cs : List (Bundle T)) → count test (items_sent stations (bs ++ cs)) ≡ count test (items_sent stations bs) + count test (items_sent stations cs)
    sent_both stations bs cs =
        ap (count test) (ap items_in_flight (filter-append (λ (b : Bundle T). has_place stations b.place) bs cs) ∙ flat_map-append items_of_bundle (placed stations bs) (placed stations cs))
        ∙ count_both test (items_sent stations bs) (items_sent stations cs)

    still_placed : (stations : List (List (Lot T))) (site : Site) (load : Load T) (bs : List (Bundle T)) → items_sent (put_at site load stations) bs ≡ items_sent stations bs
    still_placed stations site load bs = ap (λ (p : Bundle T → Bool). items_in_flight (filter p bs)) (λ i b. same_places stations site load b.place i)

    pub all_put : (sent : List (Bundle T)) (stations : List (List (Lot T)))
        → (count test (items_waiting (put_all sent stations)) ≡ count test (items_sent stations sent) + count test (items_waiting stations)) × (count test (items_kept (put_all sent stations)) ≡ count test (items_kept stations))
    all_put [] stations = (omega arith, refl)
    all_put (b ∷ bs) stations = step (has_place stations b.place) refl (all_put bs (put_at b.place (load_in b) stations))
      where
        step : (c : Bool) → has_place stations b.place ≡ c
            → (count test (items_waiting (put_all bs (put_at b.place (load_in b) stations))) ≡ count test (items_sent (put_at b.place (load_in b) stations) bs) + count test (items_waiting (put_at b.place (load_in b) stations)))
            × (count test (items_kept (put_all bs (put_at b.place (load_in b) stations))) ≡ count test (items_kept (put_at b.place (load_in b) stations)))
            → (count test (items_waiting (put_all (b ∷ bs) stations)) ≡ count test (items_sent stations (b ∷ bs)) + count test (items_waiting stations)) × (count test (items_kept (put_all (b ∷ bs) stations)) ≡ count test (items_kept stations))
        step true e rest =
            let l = is_there stations b.place e in
            let within = node_within stations b.place.node b.place.worker l.0 in
            let put = put_waiting test stations b.place (load_in b) within l.0 l.1 in
            let kept = put_kept test stations b.place (load_in b) within l.0 l.1 in
            let same = ap (count test) (still_placed stations b.place (load_in b) bs) in
            let sent = ap (count test) (sent_there stations b bs e) in
            let both = count_both test (items_of_bundle b) (items_sent stations bs) in
            (omega (arith, rest.0, put, same, sent, both), (rest.1 ∙ kept))
        step false e rest =
            let same = ap (count test) (still_placed stations b.place (load_in b) bs) in
            let sent = ap (count test) (sent_nowhere stations b bs e) in
            let put = put_nowhere stations b.place (load_in b) e in
            let waits = ap (λ all. count test (items_waiting all)) put in
            let kept = ap (λ all. count test (items_kept all)) put in
            (omega (arith, rest.0, waits, same, sent), (rest.1 ∙ kept))

    -- the counts of all that is outstanding are those of its three parts
    pub in_three : (a : AccountState T) → count test (items_on a) ≡ count test (items_waiting a.stations) + (count test (items_kept a.stations) + count test (items_left (length a.nodes) a.inputs))
    in_three a =
        let left : List (Counted T) = items_left (length a.nodes) a.inputs in
        let b = count_both test (items_waiting a.stations) (items_kept a.stations ++ left) in
        let c = count_both test (items_kept a.stations) left in
        omega (arith, b, c)

-- ---- before anything has happened

module _ {T : Type 0} where
  nothing_at : (has : ℕ → ℕ → Lot T → List (Counted T)) → ((n k : ℕ) → has n k no_lot ≡ []) → (test : Counted T → Bool) (nodes workers : ℕ) → at_all test has (first_stations nodes workers) ≡ []
  nothing_at has none test nodes workers =
      flat_empty (at_node test has (first_stations nodes workers)) (numbers_below (length (first_stations {T = T} nodes workers)))
      (λ n. flat_empty (λ k. has n k (lot_of (first_stations nodes workers) n k)) (numbers_below (length (get_or (first_stations {T = T} nodes workers) n [])))
      (λ k. ap (has n k) (first_lot nodes workers n k) ∙ none n k))

  -- at first only the inputs' frontiers are outstanding
  pub first_counts : (test : Counted T → Bool) (nodes workers : ℕ) → (count test (items_waiting (first_stations nodes workers)) ≡ 0) × (count test (items_kept (first_stations nodes workers)) ≡ 0)
  first_counts test nodes workers = (
    ap (count test) (waiting_spread test (first_stations nodes workers) ∙ nothing_at has_waiting (λ n k. refl) test nodes workers),
    ap (count test) (kept_spread test (first_stations nodes workers) ∙ nothing_at has_kept (λ n k. refl) test nodes workers),
  )

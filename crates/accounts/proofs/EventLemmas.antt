-- After each event the tally counts again what is outstanding. Each lemma is given how often the
-- items were counted on the way, and that what lay there before was counted.
use Rattle.std.proofs.Common.{◌≡◌, ℕ, ◌<◌, Bool, true, false, List, [], ◌∷◌, ◌++◌, Some, inl, length, get_or, set, replicate, slice_get, sym, refl, ap, ◌∙◌, subst, arith}
use Rattle.std.specs.Prelude.{Contains}
use Rattle.std.proofs.lemmas.List.{length-set, length-replicate}
use Rattle.lattice.specs.Times.{Times}
use Rattle.lattice.specs.Order.{PartialOrderLaws}
use Rattle.antichain.proofs.Lists.{contains_among}
use Rattle.plan.specs.Rules.{IsPlan}
use Rattle.plan.specs.declared.node.Node.{Node}
use Rattle.progress.specs.declared.place.Place.TheVariants.{Port, Held, Input}
use Rattle.progress.specs.declared.counted.Counted.{Counted}
use Rattle.progress.specs.Several.{items_at, AreCounted}
use Rattle.progress.specs.Tallies.{SameCounts}
use Rattle.progress.proofs.ItemLemmas.{same_items}
use Rattle.histories.specs.declared.event.Site.{Site}
use Rattle.histories.specs.declared.event.Bundle.{Bundle}
use Rattle.histories.specs.declared.event.Emission.{Emission}
use Rattle.outstanding.specs.Inputs.{front_at}
use Rattle.outstanding.specs.Loads.{Load, Lot, no_lot, first_stations, load_in, lot_of, with_load_at, without_load_at, put_at, put_all, taken_from, held_from, queue_of, has_place}
use Rattle.outstanding.proofs.StationLemmas.{node_within, waits_at_node, waits_in_row, worker_within}
use Rattle.outstanding.proofs.PlacedLemmas.{as_many, many_put_all, wide_put_all, held_put}
use Rattle.accounts.specs.Accounts.{AccountState, IsCounted, items_waiting, items_kept, items_left, items_sent, items_given, items_held_by, with_stations, after_giving}
use Rattle.accounts.proofs.CountLemmas.{count, count_both}
use Rattle.accounts.proofs.AccountLemmas.{first_counts, is_there, put_nowhere, put_waiting, put_kept, take_waiting, take_kept, hold_waiting, hold_kept, left_changed, all_put, in_three}

module _ {T : Type 0} where
  -- what was added and then removed is as it was
  pub taken_back : (xs old mid new : List (Counted T)) → SameCounts mid (xs ++ old) → SameCounts (xs ++ new) mid → SameCounts new old
  taken_back xs old mid new added removed test =
      let a = added test in
      let b = removed test in
      let c = count_both test xs old in
      let d = count_both test xs new in
      omega (arith, a, b, c, d)

  -- what was added is there
  pub just_added : (xs old mid : List (Counted T)) → SameCounts mid (xs ++ old) → AreCounted mid xs
  just_added xs old mid added = record { rest = old; counts = added }

  -- of what is counted together, each part is counted, and the rest once the first is counted off
  pub first_part : (items xs ys : List (Counted T)) → AreCounted items (xs ++ ys) → AreCounted items xs
  first_part items xs ys both = record {
    rest = ys ++ both.rest;
    counts = λ test.
        let a = both.counts test in
        let b = count_both test (xs ++ ys) both.rest in
        let c = count_both test xs ys in
        let d = count_both test xs (ys ++ both.rest) in
        let e = count_both test ys both.rest in
        omega (arith, a, b, c, d, e);
  }

  pub other_part : (items mid xs ys : List (Counted T)) → AreCounted items (xs ++ ys) → SameCounts (xs ++ mid) items → AreCounted mid ys
  other_part items mid xs ys both removed = record {
    rest = both.rest;
    counts = λ test.
        let a = both.counts test in
        let b = count_both test (xs ++ ys) both.rest in
        let c = count_both test xs ys in
        let d = count_both test xs mid in
        let e = count_both test ys both.rest in
        let f = removed test in
        omega (arith, a, b, c, d, e, f);
  }

  -- the invariant speaks of counts alone
  pub recounted : (a : AccountState T) (old new : List (Counted T)) → IsCounted a old → SameCounts new old → IsCounted a new
  recounted a old new h same = record { plan = h.plan; stations = h.stations; inputs = h.inputs; counts = λ test. same test ∙ h.counts test }

  -- what is held is counted
  pub kept_is_counted : (a : AccountState T) (counted : List (Counted T)) → IsCounted a counted → AreCounted counted (items_kept a.stations)
  kept_is_counted a counted h = record {
    rest = items_waiting a.stations ++ items_left (length a.nodes) a.inputs;
    counts = λ test.
        let left = items_left (length a.nodes) a.inputs in
        let b = h.counts test in
        let c = in_three test a in
        let d = count_both test (items_kept a.stations) (items_waiting a.stations ++ left) in
        let e = count_both test (items_waiting a.stations) left in
        omega (arith, b, c, d, e);
  }

  -- ---- nothing has happened yet

  pub counted_first : (nodes : List Node) (workers : ℕ) (inputs : List (List T)) (counted : List (Counted T)) → IsPlan nodes → length inputs ≡ length nodes → SameCounts counted (items_left (length nodes) inputs)
      → IsCounted (record { nodes = nodes; stations = first_stations (length nodes) workers; inputs = inputs }) counted
  counted_first nodes workers inputs counted plan len same = record {
    plan = plan;
    stations = length-replicate (length nodes) (replicate workers no_lot);
    inputs = len;
    counts = λ test.
        let a = same test in
        let b = first_counts test (length nodes) workers in
        let c = in_three test (record { nodes = nodes; stations = first_stations (length nodes) workers; inputs = inputs }) in
        omega (arith, a, b.0, b.1, c);
  }

  -- ---- a change is put

  pub counted_put : (a : AccountState T) (site : Site) (load : Load T) (old new : List (Counted T)) → IsCounted a old → has_place a.stations site ≡ true
      → SameCounts new (items_at (Port site.node site.port) load.stamp ++ old) → IsCounted (with_stations a (put_at site load a.stations)) new
  counted_put a site load old new h there added = record {
    plan = h.plan;
    stations = as_many a.stations site.node site.worker (with_load_at site.port load) ∙ h.stations;
    inputs = h.inputs;
    counts = λ test.
        let l = is_there a.stations site there in
        let within = node_within a.stations site.node site.worker l.0 in
        let b = added test in
        let c = count_both test (items_at (Port site.node site.port) load.stamp) old in
        let d = h.counts test in
        let e = in_three test a in
        let f = in_three test (with_stations a (put_at site load a.stations)) in
        let i = put_waiting test a.stations site load within l.0 l.1 in
        let j = put_kept test a.stations site load within l.0 l.1 in
        omega (arith, b, c, d, e, f, i, j);
  }

  -- ---- a bundle is taken

  module _ (a : AccountState T) (number : ℕ) (b : Bundle T) (waits : number < length (queue_of a.stations b.place)) (there : slice_get (queue_of a.stations b.place) number ≡ Some b) (old mid : List (Counted T)) (h : IsCounted a old)
      (added : SameCounts mid (items_at (Held b.place.node) b.stamp ++ old)) where
    within : b.place.node < length a.stations
    within = waits_at_node a.stations b.place number waits

    staffed : b.place.worker < length (get_or a.stations b.place.node [])
    staffed = worker_within b.place.port b.place.worker number (get_or a.stations b.place.node []) (waits_in_row a.stations b.place number (get_or a.stations b.place.node []) refl waits)

    -- the stamp of what waited is counted at its port
    pub stamp_is_counted : AreCounted mid (items_at (Port b.place.node b.place.port) b.stamp)
    stamp_is_counted = record {
      rest = items_at (Held b.place.node) b.stamp ++ (items_waiting (taken_from number b a.stations) ++ (items_kept a.stations ++ items_left (length a.nodes) a.inputs));
      counts = λ test.
          let c = added test in
          let d = count_both test (items_at (Held b.place.node) b.stamp) old in
          let e = h.counts test in
          let f = in_three test a in
          let i = take_waiting test a.stations number b within staffed there in
          let left = items_kept a.stations ++ items_left (length a.nodes) a.inputs in
          let j = count_both test (items_at (Port b.place.node b.place.port) b.stamp) (items_at (Held b.place.node) b.stamp ++ (items_waiting (taken_from number b a.stations) ++ left)) in
          let k = count_both test (items_at (Held b.place.node) b.stamp) (items_waiting (taken_from number b a.stations) ++ left) in
          let l = count_both test (items_waiting (taken_from number b a.stations)) left in
          let m = count_both test (items_kept a.stations) (items_left (length a.nodes) a.inputs) in
          omega (arith, c, d, e, f, i, j, k, l, m);
    }

    pub counted_take : (new : List (Counted T)) → SameCounts (items_at (Port b.place.node b.place.port) b.stamp ++ new) mid → IsCounted (with_stations a (taken_from number b a.stations)) new
    counted_take new removed = record {
      plan = h.plan;
      stations = as_many a.stations b.place.node b.place.worker (without_load_at b.place.port number b.stamp) ∙ h.stations;
      inputs = h.inputs;
      counts = λ test.
          let c = added test in
          let d = count_both test (items_at (Held b.place.node) b.stamp) old in
          let e = h.counts test in
          let f = in_three test a in
          let g = in_three test (with_stations a (taken_from number b a.stations)) in
          let i = take_waiting test a.stations number b within staffed there in
          let j = take_kept test a.stations number b within staffed there in
          let k = removed test in
          let l = count_both test (items_at (Port b.place.node b.place.port) b.stamp) new in
          omega (arith, c, d, e, f, g, i, j, k, l);
    }

  -- ---- an input's frontier moves

  module _ (a : AccountState T) (i : ℕ) (ts : List T) (within : i < length a.nodes) (old mid : List (Counted T)) (h : IsCounted a old) (added : SameCounts mid (items_at (Input i) ts ++ old)) where
    entry : i < length a.inputs
    entry = subst (λ n. i < n) (sym h.inputs) within

    -- the old frontier is counted
    pub frontier_is_counted : AreCounted mid (items_at (Input i) (front_at i a.inputs))
    frontier_is_counted = record {
      rest = items_at (Input i) ts ++ (items_waiting a.stations ++ (items_kept a.stations ++ items_left (length a.nodes) (set a.inputs i [])));
      counts = λ test.
          let b = added test in
          let c = count_both test (items_at (Input i) ts) old in
          let d = h.counts test in
          let e = in_three test a in
          let f = left_changed test (length a.nodes) i [] a.inputs within entry in
          let left = items_left (length a.nodes) (set a.inputs i []) in
          let j = count_both test (items_at (Input i) (front_at i a.inputs)) (items_at (Input i) ts ++ (items_waiting a.stations ++ (items_kept a.stations ++ left))) in
          let k = count_both test (items_at (Input i) ts) (items_waiting a.stations ++ (items_kept a.stations ++ left)) in
          let l = count_both test (items_waiting a.stations) (items_kept a.stations ++ left) in
          let m = count_both test (items_kept a.stations) left in
          omega (arith, b, c, d, e, f, j, k, l, m);
    }

    pub counted_advance : (new : List (Counted T)) → SameCounts (items_at (Input i) (front_at i a.inputs) ++ new) mid → IsCounted (record a { inputs = set a.inputs i ts }) new
    counted_advance new removed = record {
      plan = h.plan;
      stations = h.stations;
      inputs = length-set a.inputs i ts ∙ h.inputs;
      counts = λ test.
          let b = added test in
          let c = count_both test (items_at (Input i) ts) old in
          let d = h.counts test in
          let e = in_three test a in
          let f = left_changed test (length a.nodes) i ts a.inputs within entry in
          let g = in_three test (record a { inputs = set a.inputs i ts }) in
          let j = removed test in
          let k = count_both test (items_at (Input i) (front_at i a.inputs)) new in
          omega (arith, b, c, d, e, f, g, j, k);
    }

  -- ---- a worker gives

  -- putting bundles changes nothing held, wherever they go
  pub held_stays : (sent : List (Bundle T)) (stations : List (List (Lot T))) (n k : ℕ) → (lot_of (put_all sent stations) n k).held ≡ (lot_of stations n k).held
  held_stays [] stations n k = refl
  held_stays (b ∷ bs) stations n k = held_stays bs (put_at b.place (load_in b) stations) n k ∙ step (has_place stations b.place) refl
    where
      step : (c : Bool) → has_place stations b.place ≡ c → (lot_of (put_at b.place (load_in b) stations) n k).held ≡ (lot_of stations n k).held
      step true e =
          let l = is_there stations b.place e in
          held_put stations b.place (load_in b) (node_within stations b.place.node b.place.worker l.0, l.0, l.1) n k
      step false e = ap (λ (all : List (List (Lot T))). (lot_of all n k).held) (put_nowhere stations b.place (load_in b) e)

  module _ (a : AccountState T) (g : Emission T) (ts : List T) (sent : List (Bundle T)) (within : g.node < length a.stations) (staffed : g.worker < length (get_or a.stations g.node [])) (old mid : List (Counted T)) (h : IsCounted a old)
      (added : SameCounts mid (items_given a.stations g ts sent ++ old)) where
    abbrev pub before : List (Counted T)
    before = items_held_by a.stations g.node g.worker

    -- what the worker held is counted
    pub held_is_counted : AreCounted mid before
    held_is_counted = record {
      rest = items_given a.stations g ts sent ++ (items_waiting a.stations ++ (items_kept (held_from g.node g.worker [] a.stations) ++ items_left (length a.nodes) a.inputs));
      counts = λ test.
          let b = added test in
          let c = count_both test (items_given a.stations g ts sent) old in
          let d = h.counts test in
          let e = in_three test a in
          let f = hold_kept test a.stations g.node g.worker [] within staffed in
          let left = items_left (length a.nodes) a.inputs in
          let kept = items_kept (held_from g.node g.worker [] a.stations) in
          let i = count_both test before (items_given a.stations g ts sent ++ (items_waiting a.stations ++ (kept ++ left))) in
          let j = count_both test (items_given a.stations g ts sent) (items_waiting a.stations ++ (kept ++ left)) in
          let k = count_both test (items_waiting a.stations) (kept ++ left) in
          let l = count_both test kept left in
          omega (arith, b, c, d, e, f, i, j, k, l);
    }

    pub counted_give : (new : List (Counted T)) → SameCounts (before ++ new) mid → IsCounted (after_giving g ts sent a) new
    counted_give new removed = record {
      plan = h.plan;
      stations = as_many (put_all sent a.stations) g.node g.worker (λ lot. record lot { held = ts }) ∙ (many_put_all sent a.stations ∙ h.stations);
      inputs = h.inputs;
      counts = λ test.
          let mine = put_all sent a.stations in
          let there = subst (λ n. g.node < n) (sym (many_put_all sent a.stations)) within in
          let here = subst (λ n. g.worker < n) (sym (wide_put_all sent a.stations g.node)) staffed in
          let b = added test in
          let c = count_both test (items_given a.stations g ts sent) old in
          let c2 = count_both test (items_sent a.stations sent) (items_at (Held g.node) ts) in
          let d = h.counts test in
          let e = in_three test a in
          let f = in_three test (after_giving g ts sent a) in
          let i = hold_waiting test mine g.node g.worker ts there here in
          let j = hold_kept test mine g.node g.worker ts there here in
          let k = all_put test sent a.stations in
          let l = ap (λ us. count test (items_at (Held g.node) us)) (held_stays sent a.stations g.node g.worker) in
          let m = removed test in
          let n = count_both test before new in
          omega (arith, b, c, c2, d, e, f, i, j, k.0, k.1, l, m, n);
    }

  -- ---- as the code meets it

  -- what a take counts off is counted, and then the tally counts what is outstanding
  pub taken_counted : (a : AccountState T) (site : Site) (number : ℕ) (b : Bundle T) → b.place ≡ site → number < length (queue_of a.stations site) → slice_get (queue_of a.stations site) number ≡ Some b
      → (old mid : List (Counted T)) → IsCounted a old → SameCounts mid (items_at (Held site.node) b.stamp ++ old)
      → AreCounted mid (items_at (Port site.node site.port) b.stamp)
      × ((new : List (Counted T)) → SameCounts (items_at (Port site.node site.port) b.stamp ++ new) mid → IsCounted (with_stations a (taken_from number b a.stations)) new)
  taken_counted a site number b same =
      subst (λ (s : Site). number < length (queue_of a.stations s) → slice_get (queue_of a.stations s) number ≡ Some b
      → (old mid : List (Counted T)) → IsCounted a old → SameCounts mid (items_at (Held s.node) b.stamp ++ old)
      → AreCounted mid (items_at (Port s.node s.port) b.stamp)
      × ((new : List (Counted T)) → SameCounts (items_at (Port s.node s.port) b.stamp ++ new) mid → IsCounted (with_stations a (taken_from number b a.stations)) new)) same
      (λ waits there old mid h added. (stamp_is_counted a number b waits there old mid h added, counted_take a number b waits there old mid h added))

-- the item that was counted last is there
pub first_is_there : {T : Type 0} (times : Times T) → PartialOrderLaws times → (x : Counted T) (old new : List (Counted T)) → SameCounts new (x ∷ old) → Contains new x
first_is_there times o x old new added = same_items times o (x ∷ old) new x (λ test. sym (added test)) (contains_among x (x ∷ old) (inl refl))

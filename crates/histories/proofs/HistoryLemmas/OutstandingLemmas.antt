-- What a frontier counts, log by log. The frontiers of `progress` go over one list of items. The
-- lemmas of histories speak of the three logs from which the items come: bundles in flight, held
-- times, and the elements of the inputs' frontiers. Here the two are shown to be the same.
use Rattle.std.proofs.Common.{◌≡◌, ℕ, Bool, true, false, cond, ◌&&◌, List, [], ◌∷◌, ◌++◌, map, refl, ap, ◌∙◌}
use Rattle.std.specs.List.{flat_map}
use Rattle.std.proofs.lemmas.List.Concat.{flat_map-append}
use Rattle.lattice.specs.Times.{Times}
use Rattle.lattice.specs.Order.{PartialOrderLaws}
use Rattle.lattice.specs.Frontiers.{is_beyond}
use Rattle.antichain.proofs.InsertionLemmas.{least_beyond}
use Rattle.progress.specs.declared.place.Place.{Place}
use Rattle.progress.specs.declared.place.Place.TheVariants.{Port, Held, Input}
use Rattle.progress.specs.declared.counted.Counted.{Counted}
use Rattle.progress.specs.Tallies.{is_upstream, is_input_upstream, is_port_upstream, times_where}
use Rattle.histories.specs.declared.event.Site.{Site}
use Rattle.histories.specs.declared.event.Bundle.{Bundle}
use Rattle.histories.specs.declared.event.HeldTime.{HeldTime}
use Rattle.histories.specs.declared.event.OpenTime.{OpenTime}
use Rattle.histories.specs.Histories.Dataflows.{Dataflow, upstream}
use Rattle.histories.specs.Histories.States.{State}
use Rattle.histories.specs.Histories.Outstanding.{strictly_upstream, stamps, items_in_flight, items_held, items_open, items_of, frontier, input_frontier, port_frontier}

-- the times held at the nodes that pass a test
abbrev pub held_where : {T : Type 0} → (ℕ → Bool) → List (HeldTime T) → List T
held_where test held = flat_map (λ m. cond (test m.node) (m.time ∷ []) []) held

-- the frontiers of the inputs that pass a test
abbrev pub open_where : {T : Type 0} → (ℕ → Bool) → List (OpenTime T) → List T
open_where test open_times = flat_map (λ o. cond (test o.input) (o.time ∷ []) []) open_times

-- what is outstanding, if bundles count at the places that pass one test, held times at the nodes
-- that pass another, and the frontiers of the inputs that pass a third
abbrev pub logged_times : {T : Type 0} → State T → (Site → Bool) → (ℕ → Bool) → (ℕ → Bool) → List T
logged_times w there holds opens = stamps there w.in_flight ++ (held_where holds w.held ++ open_where opens w.open_times)

-- the same, if bundles and inputs count at the same nodes
abbrev pub counted_times : {T : Type 0} → State T → (ℕ → Bool) → (ℕ → Bool) → List T
counted_times w there holds = logged_times w (λ site. there site.node) holds there

-- what is outstanding at a node or above it
abbrev pub outstanding : {T : Type 0} → Dataflow → State T → ℕ → List T
outstanding p w n = counted_times w (upstream p n) (upstream p n)

-- a test of places, as a test of the places of bundles
abbrev pub at_site : (Place → Bool) → Site → Bool
at_site test site = test (Port site.node site.port)

-- a test of places, as a test of the nodes at which times are held, and of inputs
abbrev pub at_held : (Place → Bool) → ℕ → Bool
at_held test n = test (Held n)

abbrev pub at_input : (Place → Bool) → ℕ → Bool
at_input test n = test (Input n)

module _ {T : Type 0} (test : Place → Bool) where
  abbrev time_of : Counted T → List T
  time_of x = cond (test x.place) (x.time ∷ []) []

  stamp_times : (port : Place) (ts : List T) → times_where test (map (λ t. record { place = port; time = t }) ts) ≡ cond (test port) ts []
  stamp_times port [] = none (test port)
    where
      none : (c : Bool) → times_where {T = T} test [] ≡ cond c [] []
      none true = refl
      none false = refl
  stamp_times port (t ∷ ts) = step (test port) (stamp_times port ts)
    where
      step : (c : Bool) → times_where test (map (λ u. record { place = port; time = u }) ts) ≡ cond c ts []
          → cond c (t ∷ []) [] ++ times_where test (map (λ u. record { place = port; time = u }) ts) ≡ cond c (t ∷ ts) []
      step true h = ap (λ us. t ∷ us) h
      step false h = h

  flight_times : (bundles : List (Bundle T)) → times_where test (items_in_flight bundles) ≡ stamps (at_site test) bundles
  flight_times [] = refl
  flight_times (b ∷ bundles) =
      let here = Port b.place.node b.place.port in
      flat_map-append time_of (map (λ t. record { place = here; time = t }) b.stamp) (items_in_flight bundles)
      ∙ (λ i. stamp_times here b.stamp i ++ flight_times bundles i)

  held_times : (held : List (HeldTime T)) → times_where test (items_held held) ≡ held_where (at_held test) held
  held_times [] = refl
  held_times (m ∷ held) = ap (λ ts. cond (test (Held m.node)) (m.time ∷ []) [] ++ ts) (held_times held)

  open_times : (opens : List (OpenTime T)) → times_where test (items_open opens) ≡ open_where (at_input test) opens
  open_times [] = refl
  open_times (x ∷ opens) = ap (λ ts. cond (test (Input x.input)) (x.time ∷ []) [] ++ ts) (open_times opens)

  -- the times that count are those of the three logs
  pub times_of : (w : State T) → times_where test (items_of w) ≡ logged_times w (at_site test) (at_held test) (at_input test)
  times_of w =
      flat_map-append time_of (items_in_flight w.in_flight) (items_held w.held ++ items_open w.open_times)
      ∙ ((λ i. flight_times w.in_flight i ++ flat_map-append time_of (items_held w.held) (items_open w.open_times) i)
      ∙ (λ i. stamps (at_site test) w.in_flight ++ (held_times w.held i ++ open_times w.open_times i)))

and_true : (b : Bool) → (b && true) ≡ b
and_true true = refl
and_true false = refl

module _ {T : Type 0} (p : Dataflow) (w : State T) (n : ℕ) where
  -- what a frontier counts
  pub outstanding_is : times_where (is_upstream p.nodes n) (items_of w) ≡ outstanding p w n
  outstanding_is = times_of (is_upstream p.nodes n) w

  -- what an input frontier counts
  pub input_outstanding_is : times_where (is_input_upstream p.nodes n) (items_of w) ≡ counted_times w (upstream p n) (strictly_upstream p n)
  input_outstanding_is =
      times_of (is_input_upstream p.nodes n) w
      ∙ (λ i. logged_times w (λ site. and_true (upstream p n site.node) i) (strictly_upstream p n) (λ m. and_true (upstream p n m) i))

  module _ (times : Times T) (o : PartialOrderLaws times) (t : T) where
    -- the same times are beyond a frontier and beyond all that it counts
    pub beyond_frontier : is_beyond times (frontier times p w n) t ≡ is_beyond times (outstanding p w n) t
    beyond_frontier = least_beyond o (times_where (is_upstream p.nodes n) (items_of w)) t ∙ ap (λ ts. is_beyond times ts t) outstanding_is

    pub beyond_input_frontier : is_beyond times (input_frontier times p w n) t ≡ is_beyond times (counted_times w (upstream p n) (strictly_upstream p n)) t
    beyond_input_frontier = least_beyond o (times_where (is_input_upstream p.nodes n) (items_of w)) t ∙ ap (λ ts. is_beyond times ts t) input_outstanding_is

    pub beyond_port_frontier : (port : ℕ) → is_beyond times (port_frontier times p w n port) t
        ≡ is_beyond times (logged_times w (at_site (is_port_upstream p.nodes n port)) (at_held (is_port_upstream p.nodes n port)) (at_input (is_port_upstream p.nodes n port))) t
    beyond_port_frontier port = least_beyond o (times_where (is_port_upstream p.nodes n port) (items_of w)) t ∙ ap (λ ts. is_beyond times ts t) (times_of (is_port_upstream p.nodes n port) w)

-- A cut gives each place exactly its share, in bundles none of which is empty and whose stamps are
-- beyond what was held. So a give that sends a cut is allowed as far as its bundles go.
use Rattle.std.proofs.Common.{◌≡◌, ℕ, zero, suc, ◌<◌, ◌≤◌, Bool, true, false, cond, not, ◌&&◌, List, [], ◌∷◌, ◌++◌, take, length, sym, refl, ap, ap₂, ◌∙◌, Option, Some, None, eqb, ℤ, pos, negsuc, unsigned_abs, subst, arith, ◌⊎◌, inl, inr}
use Rattle.std.specs.List.{flat_map, filter, list_all}
use Rattle.std.proofs.lemmas.Bool.{eqb-true, eqb-false, eq-eqb, ne_eqb, and_parts, and_from, false≢true}
use Rattle.std.proofs.lemmas.Int.{ints}
use Rattle.std.specs.Int.{int_rem_euclid}
use Rattle.std.proofs.lemmas.List.{append-nil}
use Rattle.row.specs.Routing.{column_sum, route_of}
use Rattle.std.proofs.lemmas.List.Concat.{flat_map-append}
use Rattle.std.proofs.lemmas.List.Folds.{list_all-append}
use Rattle.lattice.specs.Times.{Times}
use Rattle.lattice.specs.Order.{PartialOrderLaws}
use Rattle.lattice.specs.Frontiers.{is_beyond, all_beyond}
use Rattle.update.specs.declared.change.Update.{Update}
use Rattle.plan.specs.Ancestors.{numbers_below}
use Rattle.plan.specs.Edges.{edges_from, leads_from, ports_of, is_number}
use Rattle.plan.specs.declared.edges.Edge.{Edge}
use Rattle.plan.specs.Nodes.{sources, arranged_by}
use Rattle.plan.proofs.SortLemmas.{few_sources}
use Rattle.histories.specs.declared.event.Site.{Site}
use Rattle.histories.specs.declared.event.Bundle.{Bundle}
use Rattle.histories.specs.declared.event.Emission.{Emission}
use Rattle.histories.specs.Histories.Dataflows.{Dataflow, IsDataflow, node_of, source_of, route}
use Rattle.histories.specs.Histories.States.{place, same_place, update_times, updates_at}
use Rattle.histories.specs.Histories.Outstanding.{stamp}
use Rattle.histories.specs.Histories.Shares.{part, share, share_from}
use Rattle.histories.specs.Histories.Cuts.{part_by_key, bundled, bundles_along, cut_along, cut}
use Rattle.histories.proofs.HistoryLemmas.FlowLemmas.{place_same}
use Rattle.histories.proofs.HistoryLemmas.StampLemmas.{stamp_before, all_stamp}
use Rattle.histories.proofs.HistoryLemmas.PlaceLemmas.{shared}

abbrev edge_at : ℕ → ℕ → Edge
edge_at n port = record { reader = n; port = port }

-- Lists that are put together over the numbers below n, if at most one number gives something

-- if no number has something, together they have nothing
pub none_below : {A : Type 0} (n : ℕ) (f : ℕ → List A) → ((m : ℕ) → m < n → f m ≡ []) → flat_map f (numbers_below n) ≡ []
none_below zero f h = refl
none_below (suc n) f h = flat_map-append f (numbers_below n) (n ∷ []) ∙ rw (none_below n f (λ m l. h m (omega arith)), h n (omega arith)) refl

-- if only one number has something, together they have what that number has
pub one_below : {A : Type 0} (n x : ℕ) (f : ℕ → List A) → ((m : ℕ) → (m ≡ x → ⊥) → f m ≡ []) → x < n → flat_map f (numbers_below n) ≡ f x
one_below zero x f h l = absurd (omega arith)
one_below {A} (suc n) x f h l = flat_map-append f (numbers_below n) (n ∷ []) ∙ step (eqb n x) refl (one_below n x f h)
  where
    step : (b : Bool) → eqb n x ≡ b → (x < n → flat_map f (numbers_below n) ≡ f x) → flat_map f (numbers_below n) ++ (f n ++ []) ≡ f x
    step true e ih =
        let s = eqb-true n x e in
        rw (none_below n f (λ m k. h m (λ z. absurd (omega arith))), append-nil (f n)) (ap f s)
    step false e ih =
        let d = eqb-false n x e in
        rw (h n d, ih (omega arith)) (append-nil (f x))

-- if two functions agree below n, what they give together agrees
pub same_below : {A : Type 0} (n : ℕ) (f g : ℕ → List A) → ((m : ℕ) → m < n → f m ≡ g m) → flat_map f (numbers_below n) ≡ flat_map g (numbers_below n)
same_below zero f g h = refl
same_below (suc n) f g h =
    flat_map-append f (numbers_below n) (n ∷ [])
    ∙ (ap₂ (λ xs ys. xs ++ (ys ++ [])) (same_below n f g (λ m l. h m (omega arith))) (h n (omega arith))
    ∙ sym (flat_map-append g (numbers_below n) (n ∷ [])))

-- Lists that are put together over a list, if some elements give nothing

over_passing : {X A : Type 0} (test : X → Bool) (f : X → List A) → ((x : X) → test x ≡ false → f x ≡ []) → (xs : List X) → flat_map f (filter test xs) ≡ flat_map f xs
over_passing test f h [] = refl
over_passing {X} {A} test f h (x ∷ xs) = step (test x) refl (over_passing test f h xs)
  where
    step : (b : Bool) → test x ≡ b → flat_map f (filter test xs) ≡ flat_map f xs → flat_map f (cond b (x ∷ filter test xs) (filter test xs)) ≡ f x ++ flat_map f xs
    step true e ih = ap (λ ys. f x ++ ys) ih
    step false e ih = ih ∙ ap (λ ys. ys ++ flat_map f xs) (sym (h x e))

over_ports : {A : Type 0} (f : Edge → List A) (ns : List ℕ) → flat_map f (flat_map ports_of ns) ≡ flat_map (λ n. f (edge_at n 0) ++ f (edge_at n 1)) ns
over_ports f [] = refl
over_ports f (n ∷ ns) =
    flat_map-append f (ports_of n) (flat_map ports_of ns)
    ∙ ap₂ (λ xs ys. xs ++ ys) (ap (λ xs. f (edge_at n 0) ++ xs) (append-nil (f (edge_at n 1)))) (over_ports f ns)

-- A property of each bundle, over bundles that are made one after another

updates_over : {T X : Type 0} (site : Site) (f : X → List (Bundle T)) (ns : List X) → updates_at site (flat_map f ns) ≡ flat_map (λ n. updates_at site (f n)) ns
updates_over site f [] = refl
updates_over {T} {X} site f (n ∷ ns) = flat_map-append (λ (b : Bundle T). cond (same_place b.place site) b.updates []) (f n) (flat_map f ns) ∙ ap (λ z. updates_at site (f n) ++ z) (updates_over site f ns)

-- no bundle is empty
abbrev pub is_filled : {T : Type 0} → List (Bundle T) → Bool
is_filled bundles = list_all (λ b. not (eqb (length b.updates) 0)) bundles

all_both : {T : Type 0} (test : Bundle T → Bool) (xs ys : List (Bundle T)) → list_all test xs ≡ true → list_all test ys ≡ true → list_all test (xs ++ ys) ≡ true
all_both test xs ys a b = list_all-append test xs ys ∙ and_from (list_all test xs) (list_all test ys) a b

all_over : {T X : Type 0} (test : Bundle T → Bool) (f : X → List (Bundle T)) → ((n : X) → list_all test (f n) ≡ true) → (ns : List X) → list_all test (flat_map f ns) ≡ true
all_over test f h [] = refl
all_over test f h (n ∷ ns) = all_both test (f n) (flat_map f ns) (h n) (all_over test f h ns)

filled_bundle : {T : Type 0} (times : Times T) (site : Site) (us : List (Update T)) → is_filled (bundled times site us) ≡ true
filled_bundle times site [] = refl
filled_bundle times site (u ∷ us) = rw (ne_eqb (suc (length us)) 0 (λ z. absurd (omega (arith, z)))) refl

-- the stamp is beyond the times F, and each update of the bundle is beyond the stamp
abbrev pub is_stamped_beyond : {T : Type 0} → Times T → List T → Bundle T → Bool
is_stamped_beyond times F b = all_beyond times F b.stamp && all_beyond times b.stamp (update_times b.updates)

between_bundle : {T : Type 0} (times : Times T) → PartialOrderLaws times → (F : List T) (site : Site) (us : List (Update T)) → all_beyond times F (update_times us) ≡ true → list_all (is_stamped_beyond times F) (bundled times site us) ≡ true
between_bundle times o F site [] h = refl
between_bundle times o F site (u ∷ us) h =
    and_from (all_beyond times F (stamp times (u ∷ us)) && all_beyond times (stamp times (u ∷ us)) (update_times (u ∷ us))) true
    (and_from (all_beyond times F (stamp times (u ∷ us))) (all_beyond times (stamp times (u ∷ us)) (update_times (u ∷ us))) (all_stamp times o (is_beyond times F) (u ∷ us) h) (stamp_before times o (u ∷ us)))
    refl

nothing : {A : Type 0} (b : Bool) (xs : List A) → xs ≡ [] → cond b xs [] ≡ []
nothing true xs e = e
nothing false xs e = refl

-- a bundle counts at its own place and at no other
bundle_there : {T : Type 0} (times : Times T) (site other : Site) (us : List (Update T)) → updates_at site (bundled times other us) ≡ cond (same_place other site) us []
bundle_there times site other [] = sym (nothing (same_place other site) [] refl)
bundle_there times site other (u ∷ us) = append-nil (cond (same_place other site) (u ∷ us) [])

-- the share of a place that reads the giver's node is its part of the updates
pub share_is : {T : Type 0} (p : Dataflow) (site : Site) (g : Emission T) → source_of p site.node site.port ≡ Some g.node → share p site g ≡ part p (arranged_by (node_of p site.node)) g.worker site.worker g.updates
share_is p site g e =
    ap (λ x. share_from p x (arranged_by (node_of p site.node)) site.worker g) e
    ∙ ap (λ b. cond b (part p (arranged_by (node_of p site.node)) g.worker site.worker g.updates) []) (eq-eqb g.node g.node refl)

-- a place that does not read the giver's node has no share
pub share_none : {T : Type 0} (p : Dataflow) (site : Site) (g : Emission T) → (source_of p site.node site.port ≡ Some g.node → ⊥) → share p site g ≡ []
share_none {T} p site g d = step (source_of p site.node site.port) refl
  where
    step : (x : Option ℕ) → source_of p site.node site.port ≡ x → share_from p x (arranged_by (node_of p site.node)) site.worker g ≡ []
    step None e = refl
    step (Some s) e = ap (λ b. cond b (part p (arranged_by (node_of p site.node)) g.worker site.worker g.updates) []) (ne_eqb g.node s (λ z. d (e ∙ ap Some (sym z))))

-- an edge that leads from a node ends at a port whose source is the node
pub source_there : (p : Dataflow) (edge : Edge) (n : ℕ) → leads_from p.nodes n edge ≡ true → source_of p edge.reader edge.port ≡ Some n
source_there p edge n h = step (source_of p edge.reader edge.port) h
  where
    step : (x : Option ℕ) → is_number n x ≡ true → x ≡ Some n
    step None h = cc
    step (Some m) h = ap Some (eqb-true m n h)

no_source : (p : Dataflow) (edge : Edge) (n : ℕ) → leads_from p.nodes n edge ≡ false → source_of p edge.reader edge.port ≡ Some n → ⊥
no_source p edge n h e = false≢true (sym h ∙ (ap (is_number n) e ∙ eq-eqb n n refl))

module _ {T : Type 0} (times : Times T) (p : Dataflow) (g : Emission T) where
  abbrev cut_at : ℕ → ℕ → List (Bundle T)
  cut_at n port = cut_along times p g (edge_at n port)

  no_cut : (n port : ℕ) → (source_of p n port ≡ Some g.node → ⊥) → cut_at n port ≡ []
  no_cut n port d = none_below p.workers (λ k. bundled times (place n port k) (share p (place n port k) g)) (λ k l. ap (bundled times (place n port k)) (share_none p (place n port k) g d))

  -- a test that each share's bundle passes is one that each bundle of the cut passes
  cut_all : (test : Bundle T → Bool) → ((site : Site) → list_all test (bundled times site (share p site g)) ≡ true) → list_all test (cut times p g) ≡ true
  cut_all test h = all_over test (cut_along times p g) along (edges_from p.nodes g.node)
    where
      along : (edge : Edge) → list_all test (cut_along times p g edge) ≡ true
      along edge = all_over test (λ k. bundled times (place edge.reader edge.port k) (share p (place edge.reader edge.port k) g)) (λ k. h (place edge.reader edge.port k)) (numbers_below p.workers)

  -- no bundle of a cut is empty
  pub cut_filled : is_filled (cut times p g) ≡ true
  cut_filled = cut_all (λ b. not (eqb (length b.updates) 0)) (λ site. filled_bundle times site (share p site g))

  -- a property of all times that were given is one of the times in each share
  share_all : (test : T → Bool) → list_all test (update_times g.updates) ≡ true → (site : Site) → list_all test (update_times (share p site g)) ≡ true
  share_all test h site = step (source_of p site.node site.port) (arranged_by (node_of p site.node))
    where
      chosen : (keep : Update T → Bool) (us : List (Update T)) → list_all test (update_times us) ≡ true → list_all test (update_times (filter keep us)) ≡ true
      chosen keep [] h = h
      chosen keep (u ∷ us) h = let g = and_parts (test u.time) (list_all test (update_times us)) h in one (keep u) g.0 (chosen keep us g.1)
        where
          one : (b : Bool) → test u.time ≡ true → list_all test (update_times (filter keep us)) ≡ true → list_all test (update_times (cond b (u ∷ filter keep us) (filter keep us))) ≡ true
          one true x y = and_from (test u.time) (list_all test (update_times (filter keep us))) x y
          one false x y = y

      either : (b : Bool) (us : List (Update T)) → list_all test (update_times us) ≡ true → list_all test (update_times (cond b us [])) ≡ true
      either true us h = h
      either false us h = refl

      parted : (c : Option ℕ) → list_all test (update_times (part p c g.worker site.worker g.updates)) ≡ true
      parted None = either (eqb g.worker site.worker) g.updates h
      parted (Some c) = chosen (λ u. eqb (route p (take c u.row)) site.worker) g.updates h

      step : (x c : Option ℕ) → list_all test (update_times (share_from p x c site.worker g)) ≡ true
      step None c = refl
      step (Some s) c = either (eqb g.node s) (part p c g.worker site.worker g.updates) (parted c)

  -- each stamp of a cut is beyond what was held
  pub cut_stamped : PartialOrderLaws times → (F : List T) → all_beyond times F (update_times g.updates) ≡ true → list_all (is_stamped_beyond times F) (cut times p g) ≡ true
  cut_stamped o F h = cut_all (is_stamped_beyond times F) (λ site. between_bundle times o F site (share p site g) (share_all (is_beyond times F) h site))

  module _ (site : Site) where
    abbrev mine : List (Update T)
    mine = share p site g

    -- the updates that the bundle for one place has at this place
    one_place : (other : Site) → updates_at site (bundled times other (share p other g)) ≡ cond (same_place other site) mine []
    one_place other = bundle_there times site other (share p other g) ∙ step (same_place other site) refl
      where
        step : (b : Bool) → same_place other site ≡ b → cond b (share p other g) [] ≡ cond b mine []
        step true e = ap (λ z. share p z g) (place_same other site e)
        step false e = refl

    abbrev from_port : ℕ → ℕ → List (Update T)
    from_port n port = updates_at site (cut_at n port)

    over_workers : (n port : ℕ) → from_port n port ≡ flat_map (λ k. updates_at site (bundled times (place n port k) (share p (place n port k) g))) (numbers_below p.workers)
    over_workers n port = updates_over site (λ k. bundled times (place n port k) (share p (place n port k) g)) (numbers_below p.workers)

    abbrev from_edge : Edge → List (Update T)
    from_edge edge = updates_at site (cut_along times p g edge)

    over_nodes : updates_at site (cut times p g) ≡ flat_map (λ n. from_port n 0 ++ from_port n 1) (numbers_below (length p.nodes))
    over_nodes =
        updates_over site (cut_along times p g) (edges_from p.nodes g.node)
        ∙ (over_passing (leads_from p.nodes g.node) from_edge (λ edge e. ap (updates_at site) (no_cut edge.reader edge.port (no_source p edge g.node e))) (flat_map ports_of (numbers_below (length p.nodes)))
        ∙ over_ports from_edge (numbers_below (length p.nodes)))

    -- what a place gets from the cut along one edge: its share if the edge ends at its node and
    -- port, else nothing
    port_none : mine ≡ [] → (n port : ℕ) → from_port n port ≡ []
    port_none e n port = over_workers n port ∙ none_below p.workers (λ k. updates_at site (bundled times (place n port k) (share p (place n port k) g))) (λ k l. one_place (place n port k) ∙ nothing (same_place (place n port k) site) mine e)

    port_some : site.worker < p.workers → (n port : ℕ) → from_port n port ≡ cond (eqb n site.node && eqb port site.port) mine []
    port_some l n port =
        over_workers n port
        ∙ (one_below p.workers site.worker (λ k. updates_at site (bundled times (place n port k) (share p (place n port k) g)))
        (λ k d. one_place (place n port k) ∙ ap (λ b. cond b mine []) (other (eqb n site.node) (eqb port site.port) (eqb k site.worker) (ne_eqb k site.worker d))) l
        ∙ (one_place (place n port site.worker) ∙ ap (λ b. cond b mine []) (same (eqb n site.node) (eqb port site.port) (eqb site.worker site.worker) (eq-eqb site.worker site.worker refl))))
      where
        other : (a b c : Bool) → c ≡ false → (a && (b && c)) ≡ false
        other true true c e = e
        other true false c e = refl
        other false b c e = refl

        same : (a b c : Bool) → c ≡ true → (a && (b && c)) ≡ (a && b)
        same true true c e = e
        same true false c e = refl
        same false b c e = refl

  -- each place gets exactly its share
  pub cut_whole : IsDataflow p → g.worker < p.workers → (site : Site) → updates_at site (cut times p g) ≡ share p site g
  cut_whole q l site = over_nodes site ∙ step (share p site g) refl
    where
      from : ℕ → List (Update T)
      from n = from_port site n 0 ++ from_port site n 1

      ends : (port : ℕ) (us : List (Update T)) → port < 2 → cond (eqb 0 port) us [] ++ cond (eqb 1 port) us [] ≡ us
      ends zero us k = append-nil us
      ends (suc zero) us k = refl
      ends (suc (suc port)) us k = absurd (omega arith)

      few : (port ports : ℕ) → (port ≡ 0) ⊎ (port < ports) → ports ≤ 2 → port < 2
      few port ports (inl e) k = omega (arith, e)
      few port ports (inr m) k = omega arith

      step : (us : List (Update T)) → share p site g ≡ us → flat_map from (numbers_below (length p.nodes)) ≡ share p site g
      step [] e = none_below (length p.nodes) from (λ n k. rw (port_none site e n 0, port_none site e n 1) refl) ∙ sym e
      step (u ∷ us) e =
          let s = shared p q site g l (λ z. cons_some (sym e ∙ z)) in
          one_below (length p.nodes) site.node from (λ n d. rw (port_some site s.worker n 0, port_some site s.worker n 1, ne_eqb n site.node d) refl) s.node
          ∙ (rw (port_some site s.worker site.node 0, port_some site s.worker site.node 1, eq-eqb site.node site.node refl) (ends site.port (share p site g) (few site.port (length (sources (node_of p site.node))) s.port (few_sources (node_of p site.node)))))
        where
          cons_some : u ∷ us ≡ [] → ⊥
          cons_some z = cc

-- The bundles along an edge from the node, as `Routing` makes them

module _ {T : Type 0} (times : Times T) (p : Dataflow) (g : Emission T) (edge : Edge) (leads : leads_from p.nodes g.node edge ≡ true) where
  source : source_of p edge.reader edge.port ≡ Some g.node
  source = source_there p edge g.node leads

  gets : (k : ℕ) → share p (place edge.reader edge.port k) g ≡ part p (arranged_by (node_of p edge.reader)) g.worker k g.updates
  gets k = share_is p (place edge.reader edge.port k) g source

  -- into a node that is not arranged, only the giver's own worker gets something
  pub along_giver : arranged_by (node_of p edge.reader) ≡ None → g.worker < p.workers → bundled times (place edge.reader edge.port g.worker) g.updates ≡ cut_along times p g edge
  along_giver none l = sym (
      one_below p.workers g.worker (λ k. bundled times (place edge.reader edge.port k) (share p (place edge.reader edge.port k) g))
      (λ k d. ap (bundled times (place edge.reader edge.port k)) (own k ∙ ap (λ b. cond b g.updates []) (ne_eqb g.worker k (λ z. d (sym z))))) l
      ∙ ap (bundled times (place edge.reader edge.port g.worker)) (own g.worker ∙ ap (λ b. cond b g.updates []) (eq-eqb g.worker g.worker refl)))
    where
      own : (k : ℕ) → share p (place edge.reader edge.port k) g ≡ cond (eqb g.worker k) g.updates []
      own k = gets k ∙ ap (λ c. part p c g.worker k g.updates) none

  -- into an arrange node, each worker gets the updates that have its keys
  pub along_workers : (columns : ℕ) → arranged_by (node_of p edge.reader) ≡ Some columns → bundles_along times edge p.workers (part_by_key columns p.workers g.updates) ≡ cut_along times p g edge
  along_workers columns some =
      same_below p.workers (λ k. bundled times (place edge.reader edge.port k) (part_by_key columns p.workers g.updates k)) (λ k. bundled times (place edge.reader edge.port k) (share p (place edge.reader edge.port k) g))
      (λ k l. ap (bundled times (place edge.reader edge.port k)) (sym (gets k ∙ ap (λ c. part p c g.worker k g.updates) some)))

  -- if there is one worker alone, all updates go to it along each edge
  pub along_one : p.workers ≡ 1 → g.worker < p.workers → bundled times (place edge.reader edge.port g.worker) g.updates ≡ cut_along times p g edge
  along_one one l = sym (
      one_below p.workers g.worker (λ k. bundled times (place edge.reader edge.port k) (share p (place edge.reader edge.port k) g))
      (λ k d. ap (bundled times (place edge.reader edge.port k)) (gets k ∙ none k (arranged_by (node_of p edge.reader)) d)) l
      ∙ ap (bundled times (place edge.reader edge.port g.worker)) (gets g.worker ∙ whole (arranged_by (node_of p edge.reader))))
    where
      alone : g.worker ≡ 0
      alone = let few = subst (λ n. g.worker < n) one l in omega (arith, few)

      remainder : (z : ℤ) → unsigned_abs (int_rem_euclid z (pos 1)) ≡ 0
      remainder (pos a) = omega (arith, ints)
      remainder (negsuc a) = omega (arith, ints)

      routed : (key : List ℤ) → route p key ≡ 0
      routed key = ap (route_of key) one ∙ remainder (column_sum key)

      kept : (columns : ℕ) (us : List (Update T)) → filter (λ u. eqb (route p (take columns u.row)) 0) us ≡ us
      kept columns [] = refl
      kept columns (u ∷ us) = ap (λ b. cond b (u ∷ filter (λ v. eqb (route p (take columns v.row)) 0) us) (filter (λ v. eqb (route p (take columns v.row)) 0) us)) (eq-eqb (route p (take columns u.row)) 0 (routed (take columns u.row))) ∙ ap (λ vs. u ∷ vs) (kept columns us)

      dropped : (columns k : ℕ) → (k ≡ 0 → ⊥) → (us : List (Update T)) → filter (λ u. eqb (route p (take columns u.row)) k) us ≡ []
      dropped columns k d [] = refl
      dropped columns k d (u ∷ us) = ap (λ b. cond b (u ∷ filter (λ v. eqb (route p (take columns v.row)) k) us) (filter (λ v. eqb (route p (take columns v.row)) k) us)) (ne_eqb (route p (take columns u.row)) k (λ z. d (sym z ∙ routed (take columns u.row)))) ∙ dropped columns k d us

      whole : (c : Option ℕ) → part p c g.worker g.worker g.updates ≡ g.updates
      whole None = ap (λ b. cond b g.updates []) (eq-eqb g.worker g.worker refl)
      whole (Some columns) = ap (λ k. filter (λ u. eqb (route p (take columns u.row)) k) g.updates) alone ∙ kept columns g.updates

      none : (k : ℕ) (c : Option ℕ) → (k ≡ g.worker → ⊥) → part p c g.worker k g.updates ≡ []
      none k None d = ap (λ b. cond b g.updates []) (ne_eqb g.worker k (λ z. d (sym z)))
      none k (Some columns) d = dropped columns k (λ z. d (z ∙ sym alone)) g.updates

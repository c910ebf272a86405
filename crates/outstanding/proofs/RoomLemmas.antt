-- How much room is reserved at which places after each step of a give. So no bundle of a give is
-- put without room.
use Rattle.std.proofs.Common.{◌≡◌, ℕ, zero, suc, ◌+◌, ◌<◌, ◌≤◌, Bool, true, false, cond, ◌&&◌, List, [], ◌∷◌, ◌++◌, take, length, get_or, slice_get, refl, sym, ap, subst, ◌∙◌, arith}
use Rattle.std.specs.List.{All}
use Rattle.std.specs.Option.{IfSome}
use Rattle.std.proofs.lemmas.Bool.{false≢true}
use Rattle.std.proofs.lemmas.List.{take_more, append-nil, length-append}
use Rattle.std.proofs.lemmas.List.Concat.{flat_map-append}
use Rattle.std.proofs.lemmas.List.Elements.{All-more, All-weaker}
use Rattle.outstanding.specs.declared.stations.Station.{Station}
use Rattle.histories.specs.declared.event.Site.{Site}
use Rattle.histories.specs.declared.event.Bundle.{Bundle}
use Rattle.histories.specs.Histories.States.{same_place, queue}
use Rattle.outstanding.specs.Stations.{has_room, HasRoom, HasRoomFor}
use Rattle.histories.proofs.HistoryLemmas.FlowLemmas.{place_same}
use Rattle.outstanding.proofs.LotLemmas.{same_self}

-- ---- tests of places

-- if two tests fail together and the second passes, the first fails
pub first_fails : (c d : Bool) → d ≡ true → (c && d) ≡ false → c ≡ false
first_fails true true e h = h
first_fails true false e h = sym e
first_fails false d e h = refl

-- if two tests fail together and the first passes, the second fails
pub rest_fails : (c d : Bool) → c ≡ true → (c && d) ≡ false → d ≡ false
rest_fails true d e h = h
rest_fails false d e h = absurd (false≢true e)

module _ {T : Type 0} where
  -- room for more loads is room for fewer
  pub less_room : (port more less : ℕ) → less ≤ more → (s : Station T) → has_room port more s → has_room port less s
  less_room zero more less l s h = omega (arith, l, h)
  less_room (suc zero) more less l s h = omega (arith, l, h)
  less_room (suc (suc port)) more less l s h = h

  -- room for more loads is room for fewer at a worker's port
  pub less_room_at : (worker port more less : ℕ) → less ≤ more → (row : List (Station T)) → IfSome (slice_get row worker) (has_room port more) → IfSome (slice_get row worker) (has_room port less)
  less_room_at worker port more less l [] h = h
  less_room_at zero port more less l (s ∷ row) h = less_room port more less l s h
  less_room_at (suc worker) port more less l (s ∷ row) h = less_room_at worker port more less l row h

  -- ---- room for the bundles of a list at their places

  -- no bundles need no room
  pub none_needed : (stations : List (List (Station T))) → HasRoomFor [] stations
  none_needed stations site = at_worker (get_or stations site.node []) site.worker site.port
    where
      none : (port : ℕ) (s : Station T) → has_room port 0 s
      none zero s = omega arith
      none (suc zero) s = omega arith
      none (suc (suc port)) s = tt

      at_worker : (row : List (Station T)) (worker port : ℕ) → IfSome (slice_get row worker) (has_room port 0)
      at_worker [] worker port = tt
      at_worker (s ∷ row) zero port = none port s
      at_worker (s ∷ row) (suc worker) port = at_worker row worker port

  -- one more bundle needs room for one more load, at its place
  pub one_more_needed : (sent : List (Bundle T)) (i : ℕ) (b : Bundle T) (old new : List (List (Station T))) → i < length sent → b ≡ get_or sent i b → ((at : Site) (n : ℕ) → HasRoom n old at → HasRoom n new at)
      → ((n : ℕ) → HasRoom n old b.place → HasRoom (suc n) new b.place) → HasRoomFor (take i sent) old → HasRoomFor (take (i + 1) sent) new
  one_more_needed sent i b old new l e kept here h = λ site.
      subst (λ (bs : List (Bundle T)). HasRoom (length bs) new site)
      (sym (flat_map-append (λ (c : Bundle T). cond (same_place c.place site) (c ∷ []) []) (take i sent) (b ∷ [])) ∙ ap (queue site) (sym (take_more sent i b l ∙ ap (λ c. take i sent ++ c ∷ []) (sym e))))
      (step site (queue site (take i sent)) (h site) (same_place b.place site) refl)
    where
      step : (site : Site) (bs : List (Bundle T)) → HasRoom (length bs) old site → (c : Bool) → same_place b.place site ≡ c → HasRoom (length (bs ++ (cond c (b ∷ []) [] ++ []))) new site
      step site bs h true s =
          let longer : suc (length bs) ≡ length (bs ++ b ∷ []) = let long = length-append bs (b ∷ []) in omega (arith, long) in
          let room = subst (λ at. (n : ℕ) → HasRoom n old at → HasRoom (suc n) new at) (place_same b.place site s) here in
          subst (λ n. HasRoom n new site) longer (room (length bs) h)
      step site bs h false s = subst (λ (cs : List (Bundle T)). HasRoom (length cs) new site) (sym (append-nil bs)) (kept site (length bs) h)

  -- room for all bundles is room for the first at its place
  pub first_has_room : (all : List (Bundle T)) (b : Bundle T) (rest : List (Bundle T)) (stations : List (List (Station T))) → all ≡ b ∷ rest → HasRoomFor all stations → HasRoom 1 stations b.place
  first_has_room all b rest stations e h =
      let room = subst (λ (c : Bool). HasRoom (length (cond c (b ∷ []) [] ++ queue b.place rest)) stations b.place) (same_self b.place) (subst (λ (bs : List (Bundle T)). HasRoom (length (queue b.place bs)) stations b.place) e (h b.place)) in
      less_room_at b.place.worker b.place.port (suc (length (queue b.place rest))) 1 (omega arith) (get_or stations b.place.node []) room

  -- after the first bundle was put, there is still room for the others
  pub rest_has_room : (all : List (Bundle T)) (b : Bundle T) (rest : List (Bundle T)) (old new : List (List (Station T))) → all ≡ b ∷ rest → ((n : ℕ) → HasRoom (suc n) old b.place → HasRoom n new b.place)
      → ((at : Site) (n : ℕ) → same_place b.place at ≡ false → HasRoom n old at → HasRoom n new at) → HasRoomFor all old → HasRoomFor rest new
  rest_has_room all b rest old new e here others h = λ site.
      step site (queue site rest) (same_place b.place site) refl (subst (λ (bs : List (Bundle T)). HasRoom (length (queue site bs)) old site) e (h site))
    where
      step : (site : Site) (bs : List (Bundle T)) (c : Bool) → same_place b.place site ≡ c → HasRoom (length (cond c (b ∷ []) [] ++ bs)) old site → HasRoom (length bs) new site
      step site bs true s h = subst (λ at. (n : ℕ) → HasRoom (suc n) old at → HasRoom n new at) (place_same b.place site s) here (length bs) h
      step site bs false s h = others site (length bs) s h

  -- what holds at the places of the bundles so far, and at that of the next, holds at all of these
  pub place_more : (P Q : Site → Type 0) (sent : List (Bundle T)) (i : ℕ) (b : Bundle T) → i < length sent → b ≡ get_or sent i b → ((at : Site) → P at → Q at) → Q b.place
      → All (λ c. P c.place) (take i sent) → All (λ c. Q c.place) (take (i + 1) sent)
  place_more P Q sent i b l e kept here h =
      All-more (λ (c : Bundle T). Q c.place) sent i b l
      (All-weaker (λ (c : Bundle T). P c.place) (λ (c : Bundle T). Q c.place) (λ c. kept c.place) (take i sent) h)
      (subst (λ (c : Bundle T). Q c.place) e here)

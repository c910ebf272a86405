-- What each event makes of what lies at the places of a board: it changes the queue of its own
-- place, or what one worker holds at one node, and nothing else.
use Rattle.std.proofs.Common.{◌≡◌, ℕ, zero, suc, ◌<◌, ◌≤◌, Bool, true, false, cond, not, ◌&&◌, List, [], ◌∷◌, ◌++◌, map, length, get_or, set, get_or-set_same, get_or-set_other, sym, refl, ap, ap₂, ◌∙◌, subst, eqb, arith, ◌⊎◌, inl, inr}
use Rattle.std.specs.List.{filter, remove}
use Rattle.std.proofs.lemmas.Bool.{eqb-true, eqb-false, eq-eqb, ne_eqb, and_from, cases_lt}
use Rattle.std.proofs.lemmas.List.{append-nil, map-append, length-set, append_assoc}
use Rattle.std.proofs.lemmas.List.Concat.{flat_map-append}
use Rattle.histories.specs.declared.event.Site.{Site}
use Rattle.histories.specs.declared.event.Bundle.{Bundle}
use Rattle.histories.specs.declared.event.HeldTime.{HeldTime}
use Rattle.histories.specs.Histories.States.{same_place, queue, held_at}
use Rattle.histories.specs.Histories.{without, held_entries, is_held_by}
use Rattle.outstanding.specs.Loads.{Load, Lot, no_lot, load_in, bundle_at, loads_at, with_loads, with_load_at, without_load_at, lot_of, with_lot, put_at, put_all, taken_from, held_from, queue_of}
use Rattle.histories.proofs.HistoryLemmas.FlowLemmas.{place_same}
use Rattle.histories.proofs.HistoryLemmas.KeptLemmas.{held_marked, held_unmarked, held_kept}
use Rattle.outstanding.proofs.SiteLemmas.{less, queue_less, queue_other}

-- a place is the same as itself
pub itself : (site : Site) → same_place site site ≡ true
itself site = and_from (eqb site.node site.node) (eqb site.port site.port && eqb site.worker site.worker) (eq-eqb site.node site.node refl) (and_from (eqb site.port site.port) (eqb site.worker site.worker) (eq-eqb site.port site.port refl) (eq-eqb site.worker site.worker refl))

-- ---- a list with one element replaced

same_either_way : (i j : ℕ) → eqb i j ≡ eqb j i
same_either_way i j = step (eqb i j) refl
  where
    step : (c : Bool) → eqb i j ≡ c → c ≡ eqb j i
    step true e = sym (eq-eqb j i (sym (eqb-true i j e)))
    step false e = sym (ne_eqb j i (λ z. eqb-false i j e (sym z)))

module _ {X : Type 0} where
  pub set_past : (xs : List X) (i : ℕ) (x : X) → length xs ≤ i → set xs i x ≡ xs
  set_past [] i x l = refl
  set_past (y ∷ xs) zero x l = absurd (omega (arith, l))
  set_past (y ∷ xs) (suc i) x l = ap (λ zs. y ∷ zs) (set_past xs i x (omega (arith, l)))

  set_seen : (xs : List X) (i j : ℕ) (x d : X) → i < length xs → get_or (set xs i x) j d ≡ cond (eqb j i) x (get_or xs j d)
  set_seen xs i j x d l = step (eqb j i) refl
    where
      step : (c : Bool) → eqb j i ≡ c → get_or (set xs i x) j d ≡ cond c x (get_or xs j d)
      step true e = subst (λ z. get_or (set xs i x) z d ≡ x) (sym (eqb-true j i e)) (get_or-set_same xs i x d l)
      step false e = get_or-set_other xs i j x d (eqb-false j i e)

-- ---- a list with one element removed

removed : {X : Type 0} (xs : List X) (i : ℕ) → remove xs i ≡ less xs i
removed [] zero = refl
removed [] (suc i) = refl
removed (x ∷ xs) zero = refl
removed (x ∷ xs) (suc i) = ap (λ ys. x ∷ ys) (removed xs i)

less_images : {X Y : Type 0} (f : X → Y) (xs : List X) (i : ℕ) → map f (less xs i) ≡ less (map f xs) i
less_images f [] i = refl
less_images f (x ∷ xs) zero = refl
less_images f (x ∷ xs) (suc i) = ap (λ ys. f x ∷ ys) (less_images f xs i)

-- ---- one lot changes

module _ {T : Type 0} (stations : List (List (Lot T))) (n k : ℕ) (change : Lot T → Lot T) where
  -- changing one lot leaves as many nodes
  pub as_many : length (with_lot n k change stations) ≡ length stations
  as_many = length-set stations n (set (get_or stations n []) k (change (lot_of stations n k)))

  -- changing one lot leaves as many workers at each node
  pub as_wide : (m : ℕ) → length (get_or (with_lot n k change stations) m []) ≡ length (get_or stations m [])
  as_wide m = by (cases_lt n (length stations))
    where
      row : List (Lot T)
      row = set (get_or stations n []) k (change (lot_of stations n k))

      step : (c : Bool) → eqb m n ≡ c → length (cond c row (get_or stations m [])) ≡ length (get_or stations m [])
      step true e = length-set (get_or stations n []) k (change (lot_of stations n k)) ∙ ap (λ z. length (get_or stations z [])) (sym (eqb-true m n e))
      step false e = refl

      by : (n < length stations) ⊎ (length stations ≤ n) → length (get_or (set stations n row) m []) ≡ length (get_or stations m [])
      by (inl l) = ap length (set_seen stations n m row [] l) ∙ step (eqb m n) refl
      by (inr l) = ap (λ all. length (get_or all m [])) (set_past stations n row l)

  module _ (within : n < length stations) (staffed : k < length (get_or stations n [])) where
    -- changing one lot changes that lot alone
    pub lot_at : (m j : ℕ) → lot_of (with_lot n k change stations) m j ≡ cond (eqb m n && eqb j k) (change (lot_of stations n k)) (lot_of stations m j)
    lot_at m j = ap (λ row. get_or row j no_lot) (set_seen stations n m (set (get_or stations n []) k (change (lot_of stations n k))) [] within) ∙ step (eqb m n) refl
      where
        step : (c : Bool) → eqb m n ≡ c → get_or (cond c (set (get_or stations n []) k (change (lot_of stations n k))) (get_or stations m [])) j no_lot ≡ cond (c && eqb j k) (change (lot_of stations n k)) (lot_of stations m j)
        step true e = set_seen (get_or stations n []) k j (change (lot_of stations n k)) no_lot staffed ∙ ap (λ z. cond (eqb j k) (change (lot_of stations n k)) (lot_of stations z j)) (sym (eqb-true m n e))
        step false e = refl

    -- changing one lot changes what is held there alone
    pub held_of : (m j : ℕ) → (lot_of (with_lot n k change stations) m j).held ≡ cond (eqb m n && eqb j k) (change (lot_of stations n k)).held (lot_of stations m j).held
    held_of m j = ap (λ lot. lot.held) (lot_at m j) ∙ each (eqb m n && eqb j k)
      where
        each : (c : Bool) → (cond c (change (lot_of stations n k)) (lot_of stations m j)).held ≡ cond c (change (lot_of stations n k)).held (lot_of stations m j).held
        each true = refl
        each false = refl

-- ---- one queue changes

module _ {T : Type 0} (stations : List (List (Lot T))) (site : Site) (change : Lot T → Lot T) (within : site.node < length stations) (staffed : site.worker < length (get_or stations site.node [])) where
  abbrev was : Lot T
  was = lot_of stations site.node site.worker

  module _ (to : List (Bundle T) → List (Bundle T)) (own : map (bundle_at site) (loads_at site.port (change was)) ≡ to (queue_of stations site))
      (others : (port : ℕ) → (site.port ≡ port → ⊥) → loads_at port (change was) ≡ loads_at port was) where
    -- the queue of the place is what the change makes of it, and every other queue is as it was
    queue_changed : (other : Site) → queue_of (with_lot site.node site.worker change stations) other ≡ cond (same_place site other) (to (queue_of stations other)) (queue_of stations other)
    queue_changed other =
        ap (λ lot. map (bundle_at other) (loads_at other.port lot)) (lot_at stations site.node site.worker change within staffed other.node other.worker)
        ∙ (ap₂ (λ a b. map (bundle_at other) (loads_at other.port (cond (a && b) (change was) (lot_of stations other.node other.worker)))) (same_either_way other.node site.node) (same_either_way other.worker site.worker)
        ∙ step (eqb site.node other.node) refl (eqb site.worker other.worker) refl (eqb site.port other.port) refl)
      where
        step : (a : Bool) → eqb site.node other.node ≡ a → (b : Bool) → eqb site.worker other.worker ≡ b → (c : Bool) → eqb site.port other.port ≡ c
            → map (bundle_at other) (loads_at other.port (cond (a && b) (change was) (lot_of stations other.node other.worker))) ≡ cond (a && (c && b)) (to (queue_of stations other)) (queue_of stations other)
        step true e true f true g =
            let same : site ≡ other = place_same site other (and_from (eqb site.node other.node) (eqb site.port other.port && eqb site.worker other.worker) e (and_from (eqb site.port other.port) (eqb site.worker other.worker) g f)) in
            subst (λ (o : Site). map (bundle_at o) (loads_at o.port (change was)) ≡ to (queue_of stations o)) same own
        step true e true f false g =
            ap (map (bundle_at other)) (others other.port (eqb-false site.port other.port g)
            ∙ ap₂ (λ m j. loads_at other.port (lot_of stations m j)) (eqb-true site.node other.node e) (eqb-true site.worker other.worker f))
        step true e false f true g = refl
        step true e false f false g = refl
        step false e b f c g = refl

-- ---- a load is put

module _ {T : Type 0} where
  loads_more : (port : ℕ) (load : Load T) (lot : Lot T) → port < 2 → loads_at port (with_load_at port load lot) ≡ loads_at port lot ++ load ∷ []
  loads_more zero load lot l = refl
  loads_more (suc zero) load lot l = refl
  loads_more (suc (suc port)) load lot l = absurd (omega (arith, l))

  loads_beside : (port : ℕ) (loads : List (Load T)) (lot : Lot T) (other : ℕ) → (port ≡ other → ⊥) → loads_at other (with_loads port loads lot) ≡ loads_at other lot
  loads_beside zero loads lot zero d = absurd (d refl)
  loads_beside zero loads lot (suc zero) d = refl
  loads_beside zero loads lot (suc (suc other)) d = refl
  loads_beside (suc zero) loads lot zero d = refl
  loads_beside (suc zero) loads lot (suc zero) d = absurd (d refl)
  loads_beside (suc zero) loads lot (suc (suc other)) d = refl
  loads_beside (suc (suc port)) loads lot other d = refl

  held_beside : (port : ℕ) (loads : List (Load T)) (lot : Lot T) → (with_loads port loads lot).held ≡ lot.held
  held_beside zero loads lot = refl
  held_beside (suc zero) loads lot = refl
  held_beside (suc (suc port)) loads lot = refl

  -- if a change leaves what is held at its lot, it leaves all that is held
  held_alike : (stations : List (List (Lot T))) (n k : ℕ) (change : Lot T → Lot T) → n < length stations → k < length (get_or stations n []) → (change (lot_of stations n k)).held ≡ (lot_of stations n k).held
      → (m j : ℕ) → (lot_of (with_lot n k change stations) m j).held ≡ (lot_of stations m j).held
  held_alike stations n k change within staffed e m j = held_of stations n k change within staffed m j ∙ step (eqb m n) refl (eqb j k) refl
    where
      step : (a : Bool) → eqb m n ≡ a → (b : Bool) → eqb j k ≡ b → cond (a && b) (change (lot_of stations n k)).held (lot_of stations m j).held ≡ (lot_of stations m j).held
      step true f true g = e ∙ ap₂ (λ x y. (lot_of stations x y).held) (sym (eqb-true m n f)) (sym (eqb-true j k g))
      step true f false g = refl
      step false f b g = refl

  -- the place exists on the board
  abbrev pub IsThere : List (List (Lot T)) → Site → Type 0
  IsThere stations site = (site.node < length stations) × (site.worker < length (get_or stations site.node [])) × (site.port < 2)

  -- a place still exists after a lot changes
  pub there_still : (stations : List (List (Lot T))) (n k : ℕ) (change : Lot T → Lot T) (site : Site) → IsThere stations site → IsThere (with_lot n k change stations) site
  there_still stations n k change site there =
      let many = as_many stations n k change in
      let wide = as_wide stations n k change site.node in
      (subst (λ z. site.node < z) (sym many) there.0, subst (λ z. site.worker < z) (sym wide) there.1, there.2)

  module _ (stations : List (List (Lot T))) (site : Site) (load : Load T) (there : IsThere stations site) where
    -- a load that is put joins the queue of its place alone
    pub queue_put : (other : Site) → queue_of (put_at site load stations) other ≡ queue_of stations other ++ queue other (bundle_at site load ∷ [])
    queue_put other =
        queue_changed stations site (with_load_at site.port load) there.0 there.1 (λ q. q ++ bundle_at site load ∷ []) own
        (λ port d. loads_beside site.port (loads_at site.port (lot_of stations site.node site.worker) ++ load ∷ []) (lot_of stations site.node site.worker) port d) other
        ∙ each (same_place site other)
      where
        own : map (bundle_at site) (loads_at site.port (with_load_at site.port load (lot_of stations site.node site.worker))) ≡ queue_of stations site ++ bundle_at site load ∷ []
        own = ap (map (bundle_at site)) (loads_more site.port load (lot_of stations site.node site.worker) there.2) ∙ map-append (bundle_at site) (loads_at site.port (lot_of stations site.node site.worker)) (load ∷ [])

        each : (c : Bool) → cond c (queue_of stations other ++ bundle_at site load ∷ []) (queue_of stations other) ≡ queue_of stations other ++ (cond c (bundle_at site load ∷ []) [] ++ [])
        each true = refl
        each false = sym (append-nil (queue_of stations other))

    -- putting a load changes nothing held
    pub held_put : (m j : ℕ) → (lot_of (put_at site load stations) m j).held ≡ (lot_of stations m j).held
    held_put m j = held_alike stations site.node site.worker (with_load_at site.port load) there.0 there.1 (held_beside site.port (loads_at site.port (lot_of stations site.node site.worker) ++ load ∷ []) (lot_of stations site.node site.worker)) m j

  -- the places of all these bundles exist on the board
  abbrev pub AreThere : List (List (Lot T)) → List (Bundle T) → Type 0
  AreThere stations [] = Rattle.std.specs.Prelude.⊤
  AreThere stations (b ∷ bundles) = IsThere stations b.place × AreThere stations bundles

  -- bundles that are put join the queues of their places alone
  pub queue_put_all : (bundles : List (Bundle T)) (stations : List (List (Lot T))) → AreThere stations bundles → (other : Site) → queue_of (put_all bundles stations) other ≡ queue_of stations other ++ queue other bundles
  queue_put_all [] stations there other = sym (append-nil (queue_of stations other))
  queue_put_all (b ∷ bundles) stations there other =
      queue_put_all bundles (put_at b.place (load_in b) stations) (still bundles there.1) other
      ∙ (ap (λ q. q ++ queue other bundles) (queue_put stations b.place (load_in b) there.0 other)
      ∙ (append_assoc (queue_of stations other) (cond (same_place b.place other) (b ∷ []) [] ++ []) (queue other bundles)
      ∙ ap (λ q. queue_of stations other ++ (q ++ queue other bundles)) (append-nil (cond (same_place b.place other) (b ∷ []) []))))
    where
      still : (more : List (Bundle T)) → AreThere stations more → AreThere (put_at b.place (load_in b) stations) more
      still [] t = tt
      still (c ∷ more) t = (there_still stations b.place.node b.place.worker (with_load_at b.place.port (load_in b)) c.place t.0, still more t.1)

  -- putting bundles changes nothing held
  pub held_put_all : (bundles : List (Bundle T)) (stations : List (List (Lot T))) → AreThere stations bundles → (m j : ℕ) → (lot_of (put_all bundles stations) m j).held ≡ (lot_of stations m j).held
  held_put_all [] stations there m j = refl
  held_put_all (b ∷ bundles) stations there m j =
      held_put_all bundles (put_at b.place (load_in b) stations) (still bundles there.1) m j ∙ held_put stations b.place (load_in b) there.0 m j
    where
      still : (more : List (Bundle T)) → AreThere stations more → AreThere (put_at b.place (load_in b) stations) more
      still [] t = tt
      still (c ∷ more) t = (there_still stations b.place.node b.place.worker (with_load_at b.place.port (load_in b)) c.place t.0, still more t.1)

  -- putting bundles leaves as many nodes
  pub many_put_all : (bundles : List (Bundle T)) (stations : List (List (Lot T))) → length (put_all bundles stations) ≡ length stations
  many_put_all [] stations = refl
  many_put_all (b ∷ bundles) stations = many_put_all bundles (put_at b.place (load_in b) stations) ∙ as_many stations b.place.node b.place.worker (with_load_at b.place.port (load_in b))

  -- putting bundles leaves as many workers at each node
  pub wide_put_all : (bundles : List (Bundle T)) (stations : List (List (Lot T))) (m : ℕ) → length (get_or (put_all bundles stations) m []) ≡ length (get_or stations m [])
  wide_put_all [] stations m = refl
  wide_put_all (b ∷ bundles) stations m = wide_put_all bundles (put_at b.place (load_in b) stations) m ∙ as_wide stations b.place.node b.place.worker (with_load_at b.place.port (load_in b)) m

  -- ---- a load is taken

  loads_less : (port number : ℕ) (stamp : List T) (lot : Lot T) → loads_at port (without_load_at port number stamp lot) ≡ less (loads_at port lot) number
  loads_less zero number stamp lot = removed lot.left number
  loads_less (suc zero) number stamp lot = removed lot.right number
  loads_less (suc (suc port)) number stamp lot = refl

  module _ (stations : List (List (Lot T))) (number : ℕ) (b : Bundle T) (within : b.place.node < length stations) (staffed : b.place.worker < length (get_or stations b.place.node [])) where
    abbrev here : Lot T
    here = lot_of stations b.place.node b.place.worker

    beside : (port : ℕ) → (b.place.port ≡ port → ⊥) → loads_at port (without_load_at b.place.port number b.stamp here) ≡ loads_at port here
    beside port d = own_held port ∙ loads_beside b.place.port (remove (loads_at b.place.port here) number) here port d
      where
        own_held : (port : ℕ) → loads_at port (without_load_at b.place.port number b.stamp here) ≡ loads_at port (with_loads b.place.port (remove (loads_at b.place.port here) number) here)
        own_held zero = refl
        own_held (suc zero) = refl
        own_held (suc (suc port)) = refl

    -- a take shortens the queue of its place alone
    pub queue_less_at : (other : Site) → queue_of (taken_from number b stations) other ≡ cond (same_place b.place other) (less (queue_of stations other) number) (queue_of stations other)
    queue_less_at other =
        queue_changed stations b.place (without_load_at b.place.port number b.stamp) within staffed (λ q. less q number)
        (ap (map (bundle_at b.place)) (loads_less b.place.port number b.stamp here) ∙ less_images (bundle_at b.place) (loads_at b.place.port here) number)
        beside other

    -- if the queues agree with the log of what is in flight, they still do after a take
    pub queue_taken : (flight : List (Bundle T)) → ((site : Site) → queue_of stations site ≡ queue site flight) → (other : Site) → queue_of (taken_from number b stations) other ≡ queue other (without b.place flight number)
    queue_taken flight same other = queue_less_at other ∙ each (same_place b.place other) refl
      where
        each : (c : Bool) → same_place b.place other ≡ c → cond c (less (queue_of stations other) number) (queue_of stations other) ≡ queue other (without b.place flight number)
        each true e =
            ap (λ q. less q number) (same other)
            ∙ subst (λ (o : Site). less (queue o flight) number ≡ queue o (without b.place flight number)) (place_same b.place other e) (sym (queue_less b.place flight number))
        each false e = same other ∙ sym (queue_other b.place other (λ p f. ap (λ (q : Site). same_place q other) (place_same p b.place f) ∙ e) flight number)

    -- if the held times agree with their log, they still do after a take
    pub held_taken : (held : List (HeldTime T)) → ((m j : ℕ) → (lot_of stations m j).held ≡ held_at m j held) → (m j : ℕ) → (lot_of (taken_from number b stations) m j).held ≡ held_at m j (held ++ held_entries b.place.node b.place.worker b.stamp)
    held_taken held same m j =
        held_of stations b.place.node b.place.worker (without_load_at b.place.port number b.stamp) within staffed m j
        ∙ (step (eqb m b.place.node) refl (eqb j b.place.worker) refl
        ∙ sym (flat_map-append (λ (x : HeldTime T). cond (eqb x.node m && eqb x.worker j) (x.time ∷ []) []) held (held_entries b.place.node b.place.worker b.stamp)))
      where
        step : (a : Bool) → eqb m b.place.node ≡ a → (c : Bool) → eqb j b.place.worker ≡ c
            → cond (a && c) (here.held ++ b.stamp) (lot_of stations m j).held ≡ held_at m j held ++ held_at m j (held_entries b.place.node b.place.worker b.stamp)
        step true e true f =
            ap₂ (λ x y. x ++ y)
            (ap₂ (λ x y. (lot_of stations x y).held) (sym (eqb-true m b.place.node e)) (sym (eqb-true j b.place.worker f)) ∙ same m j)
            (sym (held_marked m j b.place.node b.place.worker b.stamp (and_from (eqb b.place.node m) (eqb b.place.worker j) (same_either_way b.place.node m ∙ e) (same_either_way b.place.worker j ∙ f))))
        step true e false f = same m j ∙ (sym (append-nil (held_at m j held)) ∙ ap (λ ts. held_at m j held ++ ts) (sym (held_unmarked m j b.place.node b.place.worker b.stamp (ap₂ (λ x y. x && y) (same_either_way b.place.node m ∙ e) (same_either_way b.place.worker j ∙ f)))))
        step false e c f = same m j ∙ (sym (append-nil (held_at m j held)) ∙ ap (λ ts. held_at m j held ++ ts) (sym (held_unmarked m j b.place.node b.place.worker b.stamp (ap (λ x. x && eqb b.place.worker j) (same_either_way b.place.node m ∙ e)))))

  -- ---- what is held is replaced

  -- after a worker's times at a node are dropped from the log, it holds none there
  held_gone : (n k : ℕ) (ms : List (HeldTime T)) → held_at n k (filter (λ m. not (is_held_by n k m)) ms) ≡ []
  held_gone n k [] = refl
  held_gone n k (m ∷ ms) = step (is_held_by n k m) refl (held_gone n k ms)
    where
      step : (c : Bool) → is_held_by n k m ≡ c → held_at n k (filter (λ m. not (is_held_by n k m)) ms) ≡ [] → held_at n k (cond (not c) (m ∷ filter (λ m. not (is_held_by n k m)) ms) (filter (λ m. not (is_held_by n k m)) ms)) ≡ []
      step true e h = h
      step false e h = rw e h

  module _ (stations : List (List (Lot T))) (n k : ℕ) (ts : List T) (within : n < length stations) (staffed : k < length (get_or stations n [])) where
    -- replacing what is held changes no queue
    pub queue_held : (other : Site) → queue_of (held_from n k ts stations) other ≡ queue_of stations other
    queue_held other =
        ap (λ lot. map (bundle_at other) (loads_at other.port lot)) (lot_at stations n k (λ lot. record lot { held = ts }) within staffed other.node other.worker)
        ∙ ap (map (bundle_at other)) (step (eqb other.node n) refl (eqb other.worker k) refl other.port)
      where
        own : (port : ℕ) → loads_at port (record (lot_of stations n k) { held = ts }) ≡ loads_at port (lot_of stations n k)
        own zero = refl
        own (suc zero) = refl
        own (suc (suc port)) = refl

        step : (a : Bool) → eqb other.node n ≡ a → (b : Bool) → eqb other.worker k ≡ b → (port : ℕ) → loads_at port (cond (a && b) (record (lot_of stations n k) { held = ts }) (lot_of stations other.node other.worker)) ≡ loads_at port (lot_of stations other.node other.worker)
        step true e true f port = own port ∙ ap₂ (λ x y. loads_at port (lot_of stations x y)) (sym (eqb-true other.node n e)) (sym (eqb-true other.worker k f))
        step true e false f port = refl
        step false e b f port = refl

    -- if the held times agree with their log, they still do after a give
    pub held_instead : (held : List (HeldTime T)) → ((m j : ℕ) → (lot_of stations m j).held ≡ held_at m j held) → (m j : ℕ)
        → (lot_of (held_from n k ts stations) m j).held ≡ held_at m j (held_entries n k ts ++ filter (λ x. not (is_held_by n k x)) held)
    held_instead held same m j =
        held_of stations n k (λ lot. record lot { held = ts }) within staffed m j
        ∙ (step (eqb m n) refl (eqb j k) refl
        ∙ sym (flat_map-append (λ (x : HeldTime T). cond (eqb x.node m && eqb x.worker j) (x.time ∷ []) []) (held_entries n k ts) (filter (λ x. not (is_held_by n k x)) held)))
      where
        apart : (eqb n m && eqb k j) ≡ false → (lot_of stations m j).held ≡ held_at m j (held_entries n k ts) ++ held_at m j (filter (λ x. not (is_held_by n k x)) held)
        apart e = same m j ∙ (sym (held_kept m j n k held e) ∙ ap (λ us. us ++ held_at m j (filter (λ x. not (is_held_by n k x)) held)) (sym (held_unmarked m j n k ts e)))

        step : (a : Bool) → eqb m n ≡ a → (b : Bool) → eqb j k ≡ b → cond (a && b) ts (lot_of stations m j).held ≡ held_at m j (held_entries n k ts) ++ held_at m j (filter (λ x. not (is_held_by n k x)) held)
        step true e true f =
            sym (append-nil ts)
            ∙ ap₂ (λ x y. x ++ y) (sym (held_marked m j n k ts (and_from (eqb n m) (eqb k j) (same_either_way n m ∙ e) (same_either_way k j ∙ f))))
            (sym (subst (λ z. held_at z j (filter (λ x. not (is_held_by n k x)) held) ≡ []) (sym (eqb-true m n e)) (subst (λ z. held_at n z (filter (λ x. not (is_held_by n k x)) held) ≡ []) (sym (eqb-true j k f)) (held_gone n k held))))
        step true e false f = apart (ap₂ (λ x y. x && y) (same_either_way n m ∙ e) (same_either_way k j ∙ f))
        step false e b f = apart (ap (λ x. x && eqb k j) (same_either_way n m ∙ e))

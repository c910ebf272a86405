-- A change is accepted or refused, and so is a frontier. In each case the board keeps its
-- invariant.
use Rattle.std.proofs.Common.{◌≡◌, ℕ, suc, ◌+◌, ◌<◌, List, [], length, get_or, set, sym, ap, ap₂, ◌∙◌, subst, arith, Option, Some, None, Result, Ok, Err}
use Rattle.std.specs.Result.{IfErr, IfOk, OnOk, OnErr, IsErrAnd}
use Rattle.std.proofs.lemmas.List.{get_or_default, length-set}
use Rattle.update.specs.declared.refusal.Refusal.{Refusal}
use Rattle.update.specs.declared.refusal.Refusal.TheVariants.{OutOfMemory}
use Rattle.update.specs.Refusals.{IsRefusalBy}
use Rattle.histories.specs.declared.event.Bundle.{Bundle}
use Rattle.histories.specs.declared.event.Emission.{Emission}
use Rattle.histories.specs.declared.event.Fed.{Fed}
use Rattle.histories.specs.declared.event.Site.{Site}
use Rattle.outstanding.specs.Loads.{Load, Lot, with_load_at, without_load_at, with_lot, put_at, put_all, taken_from}
use Rattle.views.specs.Views.{ViewState}
use Rattle.accounts.specs.Accounts.{AccountState, with_stations, after_giving}
use Rattle.machine.specs.Boards.{BoardState, IsBoard, put_change, accept_change}
use Rattle.outstanding.proofs.PlacedLemmas.{as_many, as_wide, many_put_all, wide_put_all}

-- the refusal that the code finds is the one that the definition names
pub refuses : (o found : Option Refusal) (refusal : Refusal) → found ≡ o → found ≡ Some refusal → IsRefusalBy o refusal
refuses o found refusal e s = subst (λ z. IsRefusalBy z refusal) (sym s ∙ e) (λ _. refusal)

-- if the code finds no refusal, there is none
pub refuses_nothing : (o found : Option Refusal) → found ≡ o → ((refusal : Refusal) → found ≡ Some refusal → ⊥) → o ≡ None
refuses_nothing o None e n = sym e
refuses_nothing o (Some refusal) e n = absurd (n refusal (λ _. Some refusal))

-- if no fault refuses, the refusal is for want of memory
pub refused_for_memory : {A : Type 0} (o : Option Refusal) (r : Result A Refusal) (x : Refusal) → o ≡ None → IsErrAnd r (λ y. y ≡ x) → x ≡ OutOfMemory → IfErr r (IsRefusalBy o)
refused_for_memory o (Ok a) x n h m = absurd h
refused_for_memory o (Err y) x n h m = subst (λ z. IsRefusalBy z y) (sym n) (h ∙ m)

module _ {T : Type 0} (b : BoardState T) {v : BoardState T} (e : v ≡ b) (n k : ℕ) (s : k ≡ n) (l : n < length b.dataflow.nodes) where
  -- the count that the code reads is the input's
  pub count_read : (t : ℕ) → IsBoard v → t ≡ get_or v.accepted k t → t ≡ get_or b.accepted n 0
  count_read t is h =
      let long : length v.dataflow.nodes ≡ length b.dataflow.nodes = ap (λ (z : BoardState T). length z.dataflow.nodes) e in
      let inside : k < length v.accepted = omega (arith, long, is.accepted, s, l) in
      h ∙ (get_or_default v.accepted k t 0 inside ∙ (ap (λ (z : BoardState T). get_or z.accepted k 0) e ∙ ap (λ i. get_or b.accepted i 0) s))

-- the board after one more change was counted
pub one_accepted : {T : Type 0} (b sent : BoardState T) {v : BoardState T} (e : v ≡ sent) (f : Fed T) (k t : ℕ) → sent ≡ put_change f b → k ≡ f.input → t ≡ get_or b.accepted f.input 0
    → record v { accepted = set v.accepted k (t + 1) } ≡ accept_change f b
one_accepted {T} b sent e f k t put s c =
    ap (λ (z : BoardState T). record z { accepted = set z.accepted k (t + 1) }) (e ∙ put)
    ∙ ap₂ (λ i n. record (put_change f b) { accepted = set b.accepted i n }) s (let more : t + 1 ≡ suc t = omega arith in more ∙ ap suc c)

-- a board with another count at one input is still a board
pub board_accepting : {T : Type 0} (b : BoardState T) (k t : ℕ) → IsBoard b → IsBoard (record b { accepted = set b.accepted k t })
board_accepting b k t is = record { dataflow = is.dataflow; stations = is.stations; rows = is.rows; hand = is.hand; accepted = length-set b.accepted k t ∙ is.accepted; views = is.views; inputs = is.inputs }

-- a board's accounts, and the board with other accounts
abbrev pub accounts_of : {T : Type 0} → BoardState T → AccountState T
accounts_of b = record { nodes = b.dataflow.nodes; stations = b.stations; inputs = b.inputs }

abbrev pub with_accounts : {T : Type 0} → BoardState T → AccountState T → BoardState T
with_accounts b a = record b { dataflow = record { nodes = a.nodes; workers = b.dataflow.workers }; stations = a.stations; inputs = a.inputs }

module _ {T : Type 0} (b : BoardState T) (is : IsBoard b) where
  -- stations with as many nodes and workers as before keep the invariant of boards
  pub board_lots : (stations : List (List (Lot T))) → length stations ≡ length b.stations → ((m : ℕ) → length (get_or stations m []) ≡ length (get_or b.stations m [])) → IsBoard (record b { stations = stations })
  board_lots stations many wide = record { dataflow = is.dataflow; stations = many ∙ is.stations; rows = λ n l. wide n ∙ is.rows n l; hand = is.hand; accepted = is.accepted; views = is.views; inputs = is.inputs }

  -- changing one lot keeps the invariant of boards
  pub board_changed : (n k : ℕ) (change : Lot T → Lot T) → IsBoard (record b { stations = with_lot n k change b.stations })
  board_changed n k change = board_lots (with_lot n k change b.stations) (as_many b.stations n k change) (as_wide b.stations n k change)

  -- whether or not a change was put at its place, the board is still a board
  pub board_sent : {A E : Type 0} (r : Result A E) (a : AccountState T) (site : Site) (load : Load T) → OnOk r (a ≡ with_stations (accounts_of b) (put_at site load b.stations)) → OnErr r (a ≡ accounts_of b) → IsBoard (with_accounts b a)
  board_sent (Ok x) a site load e f = subst (λ (z : AccountState T). IsBoard (with_accounts b z)) (sym e) (board_changed site.node site.worker (with_load_at site.port load))
  board_sent (Err x) a site load e f = subst (λ (z : AccountState T). IsBoard (with_accounts b z)) (sym f) is

  -- whether or not a bundle was taken, the board is still a board
  pub board_taken : {E : Type 0} (r : Result (Bundle T) E) (a : AccountState T) (number : ℕ) → IfOk r (λ x. a ≡ with_stations (accounts_of b) (taken_from number x b.stations)) → OnErr r (a ≡ accounts_of b) → IsBoard (with_accounts b a)
  board_taken (Ok x) a number e f = subst (λ (z : AccountState T). IsBoard (with_accounts b z)) (sym e) (board_changed x.place.node x.place.worker (without_load_at x.place.port number x.stamp))
  board_taken (Err x) a number e f = subst (λ (z : AccountState T). IsBoard (with_accounts b z)) (sym f) is

  -- an input's frontier that has moved keeps the invariant of boards
  pub board_moved : (i : ℕ) (ts : List T) (a : AccountState T) → a ≡ record (accounts_of b) { inputs = set b.inputs i ts } → IsBoard (with_accounts b a)
  board_moved i ts a e = subst (λ (z : AccountState T). IsBoard (with_accounts b z)) (sym e) (record { dataflow = is.dataflow; stations = is.stations; rows = is.rows; hand = is.hand; accepted = is.accepted; views = is.views; inputs = length-set b.inputs i ts ∙ is.inputs })

  -- whether or not an input's frontier has moved, the board is still a board
  pub board_advanced : {A E : Type 0} (r : Result A E) (i : ℕ) (ts : List T) (a : AccountState T) → OnOk r (a ≡ record (accounts_of b) { inputs = set b.inputs i ts }) → OnErr r (a ≡ accounts_of b) → IsBoard (with_accounts b a)
  board_advanced (Ok x) i ts a e f = board_moved i ts a e
  board_advanced (Err x) i ts a e f = subst (λ (z : AccountState T). IsBoard (with_accounts b z)) (sym f) is

  -- whether or not a worker's output was passed on, the board is still a board
  pub board_passed : {A E : Type 0} (r : Result A E) (g : Emission T) (ts : List T) (sent : List (Bundle T)) (a : AccountState T) (views : List (ViewState T)) → OnOk r (a ≡ after_giving g ts sent (accounts_of b)) → OnErr r (a ≡ accounts_of b) → length views ≡ length b.views
      → IsBoard (record (with_accounts b a) { views = views })
  board_passed (Err x) g ts sent a views e f long =
      subst (λ (z : AccountState T). IsBoard (record (with_accounts b z) { views = views })) (sym f) (record { dataflow = is.dataflow; stations = is.stations; rows = is.rows; hand = is.hand; accepted = is.accepted; views = long ∙ is.views; inputs = is.inputs })
  board_passed (Ok x) g ts sent a views e f long =
      let put = put_all sent b.stations in
      let change : Lot T → Lot T = λ lot. record lot { held = ts } in
      subst (λ (z : AccountState T). IsBoard (record (with_accounts b z) { views = views })) (sym e) (record {
        dataflow = is.dataflow;
        stations = as_many put g.node g.worker change ∙ (many_put_all sent b.stations ∙ is.stations);
        rows = λ m l. as_wide put g.node g.worker change m ∙ (wide_put_all sent b.stations m ∙ is.rows m l);
        hand = is.hand;
        accepted = is.accepted;
        views = long ∙ is.views;
        inputs = is.inputs;
      })

-- a place at which a board has stations
pub staffed_there : {T : Type 0} (b : BoardState T) → IsBoard b → (n k : ℕ) → n < length b.dataflow.nodes → k < b.dataflow.workers → (n < length b.stations) × (k < length (get_or b.stations n []))
staffed_there b is n k l m = (subst (λ z. n < z) (sym is.stations) l, subst (λ z. k < z) (sym (is.rows n l)) m)

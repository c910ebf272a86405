-- Each of the two kinds of step keeps the rule of the hub's table. So does dealing; and the rule
-- tells what lies at home at the ends.
use Rattle.std.proofs.Common.{◌≡◌, ◌≢◌, ℕ, ◌+◌, ◌<◌, inl, inr, eqb, true, false, List, [], ◌∷◌, ◌++◌, length, set, slice_index, sym, refl, ap, ◌∙◌, subst, ⊎_elim, arith, length-append, length-set, append-nil}
use Rattle.std.specs.Prelude.{Option, Some, None, IfSome}
use Rattle.std.proofs.lemmas.Bool.{false≢true, false_from_ne_true}
use mathlib.Core.Option.{Option as Maybe, some, none, some-injective}
use lib.ListN.{get_elem?}
use prog.Atomic.{either}
use Rattle.atomic_table.specs.Table.{State, Me, Act, takes, gives, keeps, stepped, Valid, carried_after, Allows, Splits, Final, Seen, rest}
use Rattle.atomic_table.proofs.Lists.{set_again}
use Rattle.hub.specs.declared.view.Entry.{Entry}
use Rattle.hub.specs.declared.view.View.{View}
use Rattle.hub.specs.Histories.{entry, NoneBy}
use Rattle.hub.specs.Rules.{first_view, dealt_view, next_dealer, Agrees, IsRight, AllRight, NoneAway, AwayWith, AllBelow, IsHome, IsAway, Kept}
use Rattle.hub.specs.Steps.{AfterTake, given_view, AfterGive}
use Rattle.hub.proofs.HistoryLemmas.{below_more, none_of_new}
use Rattle.hub.proofs.ViewLemmas.{each_set, each_end, none_at, at_below, agrees_more, agrees_whole, right_set}

module _ {S E : Type 0} (stands : S → List (Entry E) → Type 0) where
  abbrev V : Type 0
  V = View E

  abbrev O : Type 0
  O = Option S

  abbrev At : List ℕ → List (Maybe O) → List V → State O V
  At ws hs vs = record { words = ws; homes = hs; views = vs }

  -- from this state a seat can make a step that writes f of the word, keeps the rule and tells
  -- `then`
  abbrev Goes : State O V → ℕ → Me O V → (ℕ → ℕ) → (ℕ → Me O V → Type 0) → Type 0
  Goes s id me f then =
      let found = slice_index s.words 0 in
      (w : V) × (a : Act O) × Valid s.homes me.1 a × Kept stands (stepped s 0 (f found) id me.1 w a) × then found (w, carried_after me.1 a)

  moved : (F : State O V → Type 0) (s : State O V) (ws : List ℕ) (hs : List (Maybe O)) → s.words ≡ ws → s.homes ≡ hs → F (At ws hs s.views) → F s
  moved F s ws hs e h = subst (λ (p : List ℕ × List (Maybe O)). F (At p.0 p.1 s.views)) (λ i. (sym e i, sym h i))

  -- what the compare-exchange writes
  abbrev taken_word : ℕ → ℕ
  taken_word n = either (eqb n 0) 1 n

  -- a pass takes the state that is at home
  takes_home : (st : _) (views : List V) (log : List (Entry E)) (x : S) (id : ℕ) (v : V) → AllRight views log → AllBelow (length views) log
      → NoneAway views → stands x log → get_elem? views id ≡ some v
      → Goes (At (0 ∷ []) (some (Some x) ∷ []) views) id (v, []) taken_word (AfterTake stands st (v, []))
  takes_home st views log x id v right below home legal at =
      let mine = right id v at in
      let others : List (Entry E) = mine.agrees.0 in
      let w : V = record { number = v.number; deals = v.deals; away = true; seen = others ++ v.seen } in
      let all : w.seen ≡ log = sym mine.agrees.1 in
      let knows : IsRight (length views) log id w = record { numbered = mine.numbered; agrees = agrees_whole w log all; deals = mine.deals } in
      let holder = each_set (λ j u. u.away ≡ true → (j ≡ id) × (u.seen ≡ log)) views id w (λ _. (refl, all))
      (λ j u _ is gone. absurd (false≢true (sym (home j u is) ∙ gone))) in (
        w,
        takes 0 (Some x),
        refl,
        record {
          log = log;
          right = right_set views log log id w knows (λ j u _ is. right j u is);
          below = subst (λ n. AllBelow n log) (sym (length-set views id w)) below;
          place = inr (refl, refl, (id, holder));
        },
        ((λ _. (x, refl, (others, refl, mine.agrees.2, subst (stands x) (sym all) legal))), λ no. absurd (no refl)),
      )

  -- a pass finds the state away
  takes_none : (st : _) (s : State O V) (id : ℕ) (v : V) (cs : List (ℕ × O)) → Kept stands s → s.words ≡ 1 ∷ [] → get_elem? s.views id ≡ some v
      → Goes s id (v, cs) taken_word (AfterTake stands st (v, cs))
  takes_none st s id v cs kept one at =
      let found : slice_index s.words 0 ≡ 1 = ap (λ ws. slice_index ws 0) one in
      let word = ap (λ ws. set ws 0 (taken_word (slice_index ws 0))) one ∙ sym one in
      let same : At (set s.words 0 (taken_word (slice_index s.words 0))) s.homes (set s.views id v) ≡ s
      = λ i. At (word i) s.homes (set_again s.views id v at i) in (
        v,
        keeps,
        tt,
        subst (Kept stands) (sym same) kept,
        ((λ (z : slice_index s.words 0 ≡ 0). absurd (omega arith)), λ _. refl),
      )

  -- a pass may always try to take the state
  pub takes_allowed : (st : _) (slots id : ℕ) (me : Me O V) → me.1 ≡ []
      → Allows (Kept stands) slots id me 0 (λ n. either (eqb n 0) 1 n) (AfterTake stands st me)
  takes_allowed st slots id me none_held s kept len at small =
      let v = me.0 in
      subst (λ (m : Me O V). Goes s id m taken_word (AfterTake stands st m)) (λ i. (v, sym none_held i)) (⊎_elim
      (λ (h : IsHome stands s kept.log). moved (λ z. Goes z id (v, []) taken_word (AfterTake stands st (v, []))) s (0 ∷ []) (some (Some h.2.0) ∷ []) h.0 h.2.1
      (takes_home st s.views kept.log h.2.0 id v kept.right kept.below h.1 h.2.2 at))
      (λ (h : IsAway stands s kept.log). takes_none st s id v [] kept h.0 at) kept.place)

  module _ (last : S → E) where
    -- the holder gives back what it took, and its event is the newest entry
    gives_away : (st : _) (views : List V) (log : List (Entry E)) (x : S) (id : ℕ) (v : V) → AllRight views log → AllBelow (length views) log
        → AwayWith views log → v.away ≡ true → stands x (entry v.number (last x) ∷ v.seen) → get_elem? views id ≡ some v
        → Goes (At (1 ∷ []) (none ∷ []) views) id (v, (0, Some x) ∷ []) (λ _. 0) (λ _. AfterGive last st (v, (0, Some x) ∷ []) 0)
    gives_away st views log x id v right below away gone legal at =
        let mine = right id v at in
        let e : Entry E = entry v.number (last x) in
        let here = away.1 id v at gone in
        let grown : e ∷ v.seen ≡ e ∷ log = ap (λ h. e ∷ h) here.1 in
        let w : V = given_view last v x in
        let knows : IsRight (length views) (e ∷ log) id w
        = record { numbered = mine.numbered; agrees = agrees_whole w (e ∷ log) grown; deals = mine.deals } in
        let another : (j : ℕ) (u : V) → j ≢ id → get_elem? views j ≡ some u → IsRight (length views) (e ∷ log) j u
        = λ j u other is. let theirs = right j u is in
        let by_me : v.number ≢ u.number = λ q. other (sym theirs.numbered ∙ (sym q ∙ mine.numbered)) in
        record { numbered = theirs.numbered; agrees = agrees_more u log e theirs.agrees by_me; deals = theirs.deals } in
        let in_views = at_below views id v at in
        let numbered = mine.numbered in
        let mine_below : v.number < length views = omega arith in
        let home = each_set (λ j u. u.away ≡ false) views id w refl
        (λ j u other is. false_from_ne_true u.away (λ q. other ((away.1 j u is q).0 ∙ sym here.0))) in (
          w,
          gives,
          tt,
          record {
            log = e ∷ log;
            right = right_set views log (e ∷ log) id w knows another;
            below = subst (λ n. AllBelow n (e ∷ log)) (sym (length-set views id w)) (mine_below, below);
            place = inl (refl, home, (x, refl, subst (stands x) grown legal));
          },
          refl,
        )

    -- a holder may give back a state that may stand after what it found and the event that the
    -- state names
    gives_allowed : (st : _) (slots id : ℕ) (me : Me O V) (x : S) → me.1 ≡ (0, Some x) ∷ [] → me.0.away ≡ true
        → stands x (entry me.0.number (last x) ∷ me.0.seen) → Allows (Kept stands) slots id me 0 (λ _. 0) (AfterGive last st me)
    gives_allowed st slots id me x held gone legal s kept len at small =
        let v = me.0 in
        let cs : List (ℕ × O) = (0, Some x) ∷ [] in
        subst (λ (m : Me O V). Goes s id m (λ _. 0) (AfterGive last st m)) (λ i. (v, sym held i)) (⊎_elim
        (λ (h : IsHome stands s kept.log). absurd (false≢true (sym (h.1 id v at) ∙ gone)))
        (λ (h : IsAway stands s kept.log). moved (λ z. Goes z id (v, cs) (λ _. 0) (AfterGive last st (v, cs))) s (1 ∷ []) (none ∷ []) h.0 h.1
        (gives_away st s.views kept.log x id v kept.right kept.below h.2 gone legal at)) kept.place)

    -- so may the holder of an empty place, once it has put the state there
    pub puts_back_allowed : (st : _) (slots id : ℕ) (before after : Me O V) (x : S) → after ≡ (before.0, (0, Some x) ∷ rest before.1)
        → before.1 ≡ (0, None) ∷ [] → before.0.away ≡ true → stands x (entry before.0.number (last x) ∷ before.0.seen)
        → Allows (Kept stands) slots id after 0 (λ _. 0) (AfterGive last st after)
    puts_back_allowed st slots id before after x put held gone legal =
        let seen = sym (ap (λ m. m.0) put) in
        gives_allowed st slots id after x (ap (λ m. m.1) put ∙ ap (λ cs. (0, Some x) ∷ rest cs) held) (ap (λ m. m.0.away) put ∙ gone)
        (subst (λ v. stands x (entry v.number (last x) ∷ v.seen)) seen legal)

  -- the dealer becomes a pass, and the new seat deals
  pub deals_allowed : (id : ℕ) (v : V) → v.deals ≡ true → Splits (Kept stands) id v (dealt_view v) (next_dealer v)
  deals_allowed id v dealer s kept at =
      let old : List V = s.views in
      let middle : List V = set s.views id (dealt_view v) in
      let new : List V = middle ++ next_dealer v ∷ [] in
      let same_length : length middle ≡ length old = length-set old id (dealt_view v) in
      let longer : length new ≡ length old + 1 = length-append middle (next_dealer v ∷ []) ∙ ap (λ n. n + 1) same_length in
      let mine = kept.right id v at in
      let last_one : id + 1 ≡ length old = mine.deals dealer in
      let next_number : v.number + 1 ≡ length old = ap (λ n. n + 1) mine.numbered ∙ last_one in
      let each : (P : ℕ → V → Type 0) → P id (dealt_view v) → ((j : ℕ) (u : V) → j ≢ id → get_elem? old j ≡ some u → P j u)
      → P (length old) (next_dealer v) → (j : ℕ) (u : V) → get_elem? new j ≡ some u → P j u
      = λ P dealt others next. each_end P middle (next_dealer v) (each_set P old id (dealt_view v) dealt others)
      (subst (λ n. P n (next_dealer v)) (sym same_length) next) in
      let dealt : IsRight (length old + 1) kept.log id (dealt_view v)
      = record { numbered = mine.numbered; agrees = mine.agrees; deals = λ e. absurd (false≢true e) } in
      let others : (j : ℕ) (u : V) → j ≢ id → get_elem? old j ≡ some u → IsRight (length old + 1) kept.log j u
      = λ j u other is. let theirs = kept.right j u is in
      record { numbered = theirs.numbered; agrees = theirs.agrees; deals = λ e. absurd (other (let p = theirs.deals e in omega arith)) } in
      let none = subst (λ n. NoneBy n kept.log) (sym next_number) (none_of_new (length old) kept.log kept.below) in
      let next : IsRight (length old + 1) kept.log (length old) (next_dealer v)
      = record { numbered = next_number; agrees = (kept.log, sym (append-nil kept.log), none); deals = λ _. refl } in
      record {
        log = kept.log;
        right = λ j u is. subst (λ n. IsRight n kept.log j u) (sym longer) (each (IsRight (length old + 1) kept.log) dealt others next j u is);
        below = below_more (length old) (length new) kept.log (omega arith) kept.below;
        place = ⊎_elim
            (λ (h : IsHome stands s kept.log). inl (h.0, each (λ j u. u.away ≡ false) (h.1 id v at) (λ j u _ is. h.1 j u is) refl, h.2))
            (λ (h : IsAway stands s kept.log). inr (
              h.0,
              h.1,
              (
                h.2.0,
                each (λ j u. u.away ≡ true → (j ≡ h.2.0) × (u.seen ≡ kept.log))
                    (h.2.1 id v at) (λ j u _ is. h.2.1 j u is) (λ e. absurd (false≢true e)),
              ),
            )) kept.place;
      }

  -- a table opens with the state at home, and with one view that has seen nothing
  pub opens : (x : S) → stands x [] → Kept stands (At (0 ∷ []) (some (Some x) ∷ []) (first_view ∷ []))
  opens x legal = record {
    log = [];
    right = each_end (IsRight 1 []) [] first_view (none_at (IsRight 1 [])) (record { numbered = refl; agrees = ([], refl, tt); deals = λ _. refl });
    below = tt;
    place = inl (refl, each_end (λ j u. u.away ≡ false) [] first_view (none_at (λ j u. u.away ≡ false)) refl, (x, refl, legal));
  }

  -- what lies at home when the table closes stands after a history that agrees with the view of the
  -- seat handed in
  pub closes : (ws : List ℕ) (xs : List O) (id : ℕ) (v : V) (n : ℕ) (y : O) → Final (Seen (Kept stands) id v) ws xs
      → get_elem? ws 0 ≡ some n → n ≡ 0 → get_elem? xs 0 ≡ some y → IfSome y (λ x. (h : List (Entry E)) × Agrees v h × stands x h)
  closes ws xs id v n y (s, seen, words, len, values) word zeroed slot =
      let kept = seen.0 in
      ⊎_elim (λ (h : IsHome stands s kept.log).
      let there : some y ≡ some (Some h.2.0) = sym slot ∙ values 0 (Some h.2.0) (ap (λ hs. get_elem? hs 0) h.2.1) in
      let same = sym (some-injective y (Some h.2.0) there) in
      subst (λ z. IfSome z (λ x. (h : List (Entry E)) × Agrees v h × stands x h)) same (kept.log, (kept.right id v seen.1).agrees, h.2.2))
      (λ (h : IsAway stands s kept.log).
      let one : some n ≡ some 1 = sym word ∙ ap (λ l. get_elem? l 0) (sym words ∙ h.0) in
      let e : n ≡ 1 = some-injective n 1 one in absurd (omega arith)) kept.place

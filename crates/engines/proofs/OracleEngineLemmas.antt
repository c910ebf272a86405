-- The state of the oracle engine is that of its session, and so are its answers.
use Rattle.std.proofs.Common.{◌≡◌, ℕ, zero, suc, ◌+◌, ◌<◌, ◌≤◌, Bool, true, false, cond, not, ◌||◌, eqb, ltb-true, List, [], ◌∷◌, ◌++◌, ℤ, map, length, get_or, Option, Some, None, Result, Ok, Err, IsTrue, inl, inr, ⊎_elim, refl, sym, ◌∙◌, ap, subst, length-append, nat_le, nat_lt, unsigned_abs, arith}
use Rattle.std.specs.Prelude.{pos, ◌+ℤ◌, set, reverse, IfOk, IfErr, OnOk, OnErr}
use Rattle.std.specs.Cmp.{IsTotalOrder}
use Rattle.std.specs.List.{filter, flat_map, list_all}
use Rattle.std.specs.Ordering.{int_eq}
use Rattle.std.specs.declared.cmp.Ordering.{Ordering}
use Rattle.std.specs.declared.cmp.Ordering.TheVariants.{Equal}
use Rattle.std.proofs.lemmas.Bool.{and_parts, and_from, cases_lt, eqb-true, eqb-false, lt-ltb, true≢false}
use Rattle.std.proofs.lemmas.Grind.{flat_map-append}
use Rattle.std.proofs.lemmas.Int.{ints}
use Rattle.std.proofs.lemmas.List.{append-nil, map-append, reverse-append, length-reverse, length-set, length-map, map-set, get_or-map, get_or-set_same, get_or-set_other, get_or_append_left, get_or_push}
use Rattle.std.proofs.lemmas.List.Elements.{filter-append}
use Rattle.std.proofs.lemmas.List.Folds.{list_any-append, list_all-append}
use Rattle.std.proofs.lemmas.Result.{on_ok_weaker, on_err_weaker}
use Rattle.std.proofs.Math.Seq.{map-set_same}
use Rattle.lattice.specs.Times.{Times}
use Rattle.lattice.specs.Frontiers.{is_beyond}
use Rattle.lattice.specs.Order.{PartialOrderLaws, LatticeLaws, ExtendsLaws}
use Rattle.antichain.specs.Antichains.{SameElements, IsFrontier, least}
use Rattle.antichain.proofs.AntichainLemmas.{sorted_same}
use Rattle.antichain.proofs.InsertionLemmas.{least_beyond}
use Rattle.antichain.proofs.Lists.{among_contains, contains_among}
use Rattle.update.specs.Bags.{Entry, Alike, IsBag, count_of}
use Rattle.update.specs.Updates.{entry, as_of}
use Rattle.update.specs.declared.change.Update.{Update}
use Rattle.update.specs.declared.refusal.Refusal.{Refusal}
use Rattle.update.specs.declared.refusal.Refusal.TheVariants.{WrongWidth, ZeroWeight, WeightTooLarge, TimePassed, InputFull, NotPassed, GivenUp}
use Rattle.plan.specs.Ancestors.{feeds, numbers_below}
use Rattle.plan.specs.Changes.{AreDifferences, has_passed, query_at, open_for}
use Rattle.plan.specs.Edges.{numbers_where}
use Rattle.plan.specs.Nodes.{node_at, is_input}
use Rattle.plan.specs.Rules.{IsPlan, first_refusal}
use Rattle.update.specs.Refusals.{OnlyMemory, IsRefusalBy, IsMemoryOrOverflow}
use Rattle.plan.specs.Bounds.{HasLargeBound}
use Rattle.plan.specs.Widths.{width_of}
use Rattle.plan.specs.declared.node.Node.{Node}
use Rattle.plan.proofs.PlanLemmas.{no_first, no_fault}
use Rattle.plan.proofs.CountLemmas.{count_of-append}
use Rattle.histories.specs.declared.event.Fed.{Fed}
use Rattle.outstanding.specs.Inputs.{front_at, feed_faults, advance_faults}
use Rattle.histories.specs.Histories.States.{fed_to}
use Rattle.grammar.specs.Commands.{is_input_of}
use Rattle.oracle.specs.Evaluation.{HasLargeAbove, inputs_before, list_of, sums_at}
use Rattle.oracle.specs.Listing.{HasLargeDifference}
use Rattle.oracle.proofs.EvaluationLemmas.{inputs_with, inputs_without}
use Rattle.engines.specs.Engines.{IsTold, IsFound}
use Rattle.engines.specs.Orders.{in_order}
use Rattle.engines.specs.OracleStates.{Register, IsRegister, Records, with_entry, with_input, with_view, entry_refusal, input_refusal, view_refusal, AreFrontiers}
use Rattle.engines.specs.Sessions.{Session, with_change, with_frontier, with_since, change_refusal, frontier_refusal, since_refusal, view_frontier, read_refusal, changes_refusal, rows_at, frontier_at, changes_at}
use Rattle.engines.proofs.BagLemmas.{consolidated_bag-only}
use Rattle.engines.proofs.ChangesLemmas.{changes_are, differences_only}
use Rattle.engines.proofs.InputLemmas.{query_at_inputs}
use Rattle.engines.proofs.OrderLemmas.{in_order-sorted, in_order-has, in_order-only}
use Rattle.engines.proofs.RefusalLemmas.{answered, refused_by}
use Rattle.engines.proofs.LargeLemmas.{large_above, large_difference}

-- ---- the index of an input's list

next_number : (n : ℕ) → n + 1 ≡ suc n
next_number n = omega arith

places_grow : (p : List Node) (n : ℕ) → inputs_before p n ≤ inputs_before p (suc n)
places_grow p n = by (is_input (node_at p n)) refl
  where
    by : (b : Bool) → is_input (node_at p n) ≡ b → inputs_before p n ≤ inputs_before p (suc n)
    by true e = let k = ap (inputs_before p) (sym (next_number n)) ∙ inputs_with p n e in omega (arith, k)
    by false e = let k = ap (inputs_before p) (sym (next_number n)) ∙ inputs_without p n e in omega (arith, k)

-- a greater number has one input more before it
pub place_before : (p : List Node) (i n : ℕ) → i < n → is_input (node_at p i) ≡ true → inputs_before p i < inputs_before p n
place_before p i zero l t = absurd (omega (arith, l))
place_before p i (suc n) l t =
    ⊎_elim
    (λ k. let before = place_before p i n k t in let grows = places_grow p n in omega (arith, before, grows))
    (λ k. let same : n ≡ i = omega (arith, k, l) in last same)
    (cases_lt i n)
  where
    last : n ≡ i → inputs_before p i < inputs_before p (suc n)
    last same =
        let one = ap (inputs_before p) (sym (next_number n)) ∙ inputs_with p n (ap (λ m. is_input (node_at p m)) same ∙ t) in
        let own = ap (inputs_before p) same in
        omega (arith, one, own)

-- the index of an input is below the number of inputs
pub place_within : (p : List Node) (i : ℕ) → IsTrue (is_input_of p i) → inputs_before p i < length (numbers_where is_input p)
place_within p i h = let parts = and_parts _ _ h in place_before p i (length p) (ltb-true _ _ parts.0) parts.1

places_apart : (p : List Node) (i j : ℕ) → is_input (node_at p i) ≡ true → is_input (node_at p j) ≡ true → inputs_before p i ≡ inputs_before p j → i ≡ j
places_apart p i j t u e =
    ⊎_elim
    (λ k. let before = place_before p i j k t in absurd (omega (arith, before, e)))
    (λ k. ⊎_elim (λ m. let before = place_before p j i m u in absurd (omega (arith, before, e))) (λ m. omega (arith, k, m)) (cases_lt j i))
    (cases_lt i j)

-- ---- lists that are stored in vectors

-- replacing an element by one that looks the same changes nothing that is seen
pub put_back : {X Y : Type 0} (f : X → Y) (xs : List X) (i : ℕ) (old new : X) → old ≡ get_or xs i old → f new ≡ f old → map f (set xs i new) ≡ map f xs
put_back f xs i old new is e = map-set_same f xs i new old (e ∙ ap f is)

-- shows where a pushed change is stored
pub put_behind : {X Z : Type 0} (f : X → List Z) (xs : List X) (i : ℕ) (old new : X) (z : Z) → i < length xs → old ≡ get_or xs i old → f new ≡ f old ++ z ∷ []
    → map f (set xs i new) ≡ set (map f xs) i (get_or (map f xs) i [] ++ z ∷ [])
put_behind f xs i old new z l is e = map-set f xs i new ∙ ap (set (map f xs) i) (e ∙ ap (λ ys. ys ++ z ∷ []) (ap f is ∙ sym (get_or-map f xs i old [] l)))

-- the index of an input is within the lists
pub in_lists : {X Y : Type 0} (f : X → Y) (xs : List X) (p : List Node) (input place : ℕ) → IsTrue (is_input_of p input) → length (map f xs) ≡ length (numbers_where is_input p) → place ≡ inputs_before p input → place < length xs
in_lists f xs p input place there lists e = let within = place_within p input there in let long = length-map xs f in omega (arith, within, lists, long, e)

-- how many changes an input has accepted
pub taken_is : {X Z : Type 0} (f : X → List Z) (xs : List X) (p : List Node) (input place taken : ℕ) (x : X) → place < length xs → place ≡ inputs_before p input → x ≡ get_or xs place x → taken ≡ length (f x) → taken ≡ length (list_of p (map f xs) input)
taken_is f xs p input place taken x l e is t =
    t ∙ ap length (ap f is ∙ (sym (get_or-map f xs place x [] l) ∙ ap (λ k. get_or (map f xs) k []) e))

-- ---- one more change

-- the rows have the width of the node
abbrev wide_at : {T : Type 0} → List Node → ℕ → List (Update T) → Bool
wide_at p n us = list_all (λ u. eqb (length u.row) (width_of p n)) us

module _ {T : Type 0} (r : Register T) (is : IsRegister r) (f : Fed T) (there : IsTrue (is_input_of r.plan f.input)) where
  -- the list of the change's input has the change at its end, and all other lists stay the same
  own_list : list_of r.plan (with_entry f r).changes f.input ≡ list_of r.plan r.changes f.input ++ f.update ∷ []
  own_list =
      let place = place_within r.plan f.input there in
      let lists = is.lists in
      get_or-set_same r.changes (inputs_before r.plan f.input) (list_of r.plan r.changes f.input ++ f.update ∷ []) [] (omega (arith, place, lists))

  other_list : (i : ℕ) → is_input (node_at r.plan i) ≡ true → (f.input ≡ i → ⊥) → list_of r.plan (with_entry f r).changes i ≡ list_of r.plan r.changes i
  other_list i t apart =
      get_or-set_other r.changes (inputs_before r.plan f.input) (inputs_before r.plan i) (list_of r.plan r.changes f.input ++ f.update ∷ []) []
      (λ e. apart (places_apart r.plan f.input i (and_parts _ _ there).1 t (sym e)))

  -- the invariant holds after an accepted change
  pub entry_register : IsTrue (eqb (length f.update.row) (width_of r.plan f.input)) → IsRegister (with_entry f r)
  entry_register wide = record {
    lists = length-set r.changes (inputs_before r.plan f.input) (list_of r.plan r.changes f.input ++ f.update ∷ []) ∙ is.lists;
    wide = λ n l t. by n l t (eqb f.input n) refl;
    inputs = is.inputs;
    sinces = is.sinces;
  }
    where
      own : IsTrue (wide_at r.plan f.input (list_of r.plan (with_entry f r).changes f.input))
      own =
          let parts = and_parts _ _ there in
          ap (wide_at r.plan f.input) own_list
          ∙ (list_all-append (λ (u : Update T). eqb (length u.row) (width_of r.plan f.input)) (list_of r.plan r.changes f.input) (f.update ∷ [])
          ∙ and_from _ _ (is.wide f.input (ltb-true _ _ parts.0) parts.1) (and_from _ _ wide refl))

      by : (n : ℕ) → n < length r.plan → is_input (node_at r.plan n) ≡ true → (b : Bool) → eqb f.input n ≡ b → IsTrue (wide_at r.plan n (list_of r.plan (with_entry f r).changes n))
      by n l t true e = subst (λ (m : ℕ). IsTrue (wide_at r.plan m (list_of r.plan (with_entry f r).changes m))) (eqb-true f.input n e) own
      by n l t false e = ap (wide_at r.plan n) (other_list n t (eqb-false f.input n e)) ∙ is.wide n l t

  -- after an accepted change, the register stands for the session with the change
  pub entry_records : (s : Session T) → Records r s → Records (with_entry f r) (with_change f s)
  entry_records s a = record { changes = λ i h. by i h (eqb f.input i) refl; inputs = a.inputs; since = a.since }
    where
      own : list_of r.plan (with_entry f r).changes f.input ≡ reverse (f.update ∷ fed_to f.input s.fed)
      own =
          own_list
          ∙ (ap (λ (us : List (Update T)). us ++ f.update ∷ []) (a.changes f.input there)
          ∙ sym (reverse-append (f.update ∷ []) (fed_to f.input s.fed)))

      by : (i : ℕ) → IsTrue (is_input_of r.plan i) → (b : Bool) → eqb f.input i ≡ b → list_of r.plan (with_entry f r).changes i ≡ reverse (cond b (f.update ∷ []) [] ++ fed_to i s.fed)
      by i h true e = subst (λ (j : ℕ). list_of r.plan (with_entry f r).changes j ≡ reverse (f.update ∷ fed_to j s.fed)) (eqb-true f.input i e) own
      by i h false e = other_list i (and_parts _ _ h).1 (eqb-false f.input i e) ∙ a.changes i h

module _ {T : Type 0} (times : Times T) where
  -- a change that is not refused has the width of its input
  pub entry_wide : (r : Register T) (f : Fed T) → entry_refusal times r f ≡ None → IsTrue (eqb (length f.update.row) (width_of r.plan f.input))
  entry_wide r f e =
      no_fault (eqb (length f.update.row) (width_of r.plan f.input))
      (no_first (not (eqb (length f.update.row) (width_of r.plan f.input))) WrongWidth ((int_eq f.update.diff (pos 0), ZeroWeight)
      ∷ (not (nat_le (unsigned_abs f.update.diff) 2147483647), WeightTooLarge) ∷ (not (is_beyond times (front_at f.input r.inputs) f.update.time), TimePassed)
      ∷ (not (nat_lt (length (list_of r.plan r.changes f.input)) 1048576), InputFull) ∷ []) e).0

  -- the tests of a change see the same frontiers and the same number of changes as the register
  pub same_faults : (r : Register T) (f : Fed T) (inputs : List (List T)) (taken : ℕ) → inputs ≡ r.inputs → taken ≡ length (list_of r.plan r.changes f.input) → first_refusal (feed_faults times r.plan (front_at f.input inputs) taken f) ≡ entry_refusal times r f
  same_faults r f inputs taken e t = λ j. first_refusal (feed_faults times r.plan (front_at f.input (e j)) (t j) f)

  -- the invariant holds after a change, accepted or not
  pub after_entry : (r : Register T) (lists : List (List (Update T))) (f : Fed T) (place : ℕ) (x : Result (Unit {0}) Refusal) → IsRegister r → IsTrue (is_input_of r.plan f.input) → entry_refusal times r f ≡ None
      → place ≡ inputs_before r.plan f.input → OnOk x (lists ≡ set r.changes place (get_or r.changes place [] ++ f.update ∷ [])) → OnErr x (lists ≡ r.changes) → IsRegister (record { plan = r.plan; changes = lists; inputs = r.inputs; sinces = r.sinces })
  after_entry r lists f place (Ok u) is there accepted at pushed stays =
      let whole : lists ≡ (with_entry f r).changes = pushed ∙ ap (λ k. set r.changes k (get_or r.changes k [] ++ f.update ∷ [])) at in
      subst (λ (ls : List (List (Update T))). IsRegister (record { plan = r.plan; changes = ls; inputs = r.inputs; sinces = r.sinces })) (sym whole) (entry_register r is f there (entry_wide r f accepted))
  after_entry r lists f place (Err e) is there accepted at pushed stays =
      subst (λ (ls : List (List (Update T))). IsRegister (record { plan = r.plan; changes = ls; inputs = r.inputs; sinces = r.sinces })) (sym stays) (record { lists = is.lists; wide = is.wide; inputs = is.inputs; sinces = is.sinces })

  -- the register refuses a change or a frontier if and only if the session does
  same_entry_refusal : (r : Register T) (s : Session T) (f : Fed T) → IsTrue (is_input_of r.plan f.input) → Records r s → entry_refusal times r f ≡ change_refusal times r.plan s f
  same_entry_refusal r s f there a = λ j. first_refusal (feed_faults times r.plan (front_at f.input (a.inputs j)) (taken j) f)
    where
      taken : length (list_of r.plan r.changes f.input) ≡ length (fed_to f.input s.fed)
      taken = ap length (a.changes f.input there) ∙ length-reverse (fed_to f.input s.fed)

  same_input_refusal : (r : Register T) (s : Session T) (i : ℕ) (ts : List T) → Records r s → input_refusal times r i ts ≡ frontier_refusal times r.plan s i ts
  same_input_refusal r s i ts a = ap (λ (fronts : List (List T)). first_refusal (advance_faults times (front_at i fronts) ts)) a.inputs

  -- answers the clause `answered` of change
  pub entry_answered : (r c : Register T) (f : Fed T) (s : Session T) (x : Result (Unit {0}) Refusal) → IsTrue (is_input_of r.plan f.input) → IsRegister r
      → OnOk x (c ≡ with_entry f r) → OnOk x (entry_refusal times r f ≡ None) → IfErr x (IsRefusalBy (entry_refusal times r f)) → OnErr x (c ≡ r) → Records r s
      → IsTold (change_refusal times r.plan s f) (Records c (with_change f s)) (Records c s) x
  entry_answered r c f s x there is taken accepted refused stays a =
      subst (λ (o : Option Refusal). IsTold o (Records c (with_change f s)) (Records c s) x) (same_entry_refusal r s f there a)
      (answered (entry_refusal times r f) (Records c (with_change f s)) (Records c s) x
      (on_ok_weaker x (λ e. subst (λ (d : Register T). Records d (with_change f s)) (sym e) (entry_records r is f there s a)) taken) accepted refused
      (on_err_weaker x (λ e. subst (λ (d : Register T). Records d s) (sym e) a) stays))

  -- if nothing refuses a command and it is refused all the same, memory was refused
  pub memory_alone : (o : Option Refusal) (x : Result (Unit {0}) Refusal) → o ≡ None → OnlyMemory x → IfErr x (IsRefusalBy o)
  memory_alone o x e h = subst (λ (q : Option Refusal). IfErr x (IsRefusalBy q)) (sym e) h

  -- answers the clause `answered` of advance
  pub input_answered : (r c : Register T) (i : ℕ) (ts : List T) (s : Session T) (x : Result (Unit {0}) Refusal)
      → OnOk x (c ≡ with_input i ts r) → OnOk x (input_refusal times r i ts ≡ None) → IfErr x (λ refusal. input_refusal times r i ts ≡ Some refusal) → OnErr x (c ≡ r) → Records r s
      → IsTold (frontier_refusal times r.plan s i ts) (Records c (with_frontier i ts s)) (Records c s) x
  input_answered r c i ts s x taken accepted refused stays a =
      subst (λ (o : Option Refusal). IsTold o (Records c (with_frontier i ts s)) (Records c s) x) (same_input_refusal r s i ts a)
      (answered (input_refusal times r i ts) (Records c (with_frontier i ts s)) (Records c s) x
      (on_ok_weaker x (λ e. subst (λ (d : Register T). Records d (with_frontier i ts s)) (sym e) moved) taken) accepted (refused_by (input_refusal times r i ts) x refused)
      (on_err_weaker x (λ e. subst (λ (d : Register T). Records d s) (sym e) a) stays))
    where
      moved : Records (with_input i ts r) (with_frontier i ts s)
      moved = record { changes = a.changes; inputs = ap (λ (fronts : List (List T)). set fronts i ts) a.inputs; since = a.since }

  -- answers the clause `answered` of allow
  pub view_answered : (r c : Register T) (v : ℕ) (ts : List T) (s : Session T) (x : Result (Unit {0}) Refusal) → IsRegister r → v < length r.plan
      → OnOk x (c ≡ with_view v ts r) → OnOk x (view_refusal times r v ts ≡ None) → IfErr x (λ refusal. view_refusal times r v ts ≡ Some refusal) → OnErr x (c ≡ r) → Records r s
      → IsTold (since_refusal times r.plan s v ts) (Records c (with_since v ts s)) (Records c s) x
  view_answered r c v ts s x is within taken accepted refused stays a =
      subst (λ (o : Option Refusal). IsTold o (Records c (with_since v ts s)) (Records c s) x) (ap (λ since. first_refusal (advance_faults times since ts)) (a.since v within))
      (answered (view_refusal times r v ts) (Records c (with_since v ts s)) (Records c s) x
      (on_ok_weaker x (λ e. subst (λ (d : Register T). Records d (with_since v ts s)) (sym e) moved) taken) accepted (refused_by (view_refusal times r v ts) x refused)
      (on_err_weaker x (λ e. subst (λ (d : Register T). Records d s) (sym e) a) stays))
    where
      by : (u : ℕ) → u < length r.plan → (b : Bool) → eqb u v ≡ b → front_at u (set r.sinces v ts) ≡ cond b ts (s.since u)
      by u l true e = ap (λ n. front_at n (set r.sinces v ts)) (eqb-true u v e) ∙ get_or-set_same r.sinces v ts [] (let long = is.sinces in omega (arith, within, long))
      by u l false e = get_or-set_other r.sinces v u ts [] (λ same. eqb-false u v e same) ∙ a.since u l

      moved : Records (with_view v ts r) (with_since v ts s)
      moved = record { changes = a.changes; inputs = a.inputs; since = λ u l. by u l (eqb u v) refl }

  -- from the least time on, for the nodes below a number
  abbrev pub AreLeast : T → ℕ → List (List T) → Type 0
  AreLeast minimum n sinces = (u : ℕ) → u < n → front_at u sinces ≡ minimum ∷ []

  pub least_more : (n : ℕ) (old new : List (List T)) → n < length old → new ≡ set old n (times.least ∷ []) → AreLeast times.least n old → AreLeast times.least (n + 1) new
  least_more n old new within e least = λ u l. ap (front_at u) e ∙ ⊎_elim (λ before. get_or-set_other old n u (times.least ∷ []) [] (λ same. omega (arith, before, same)) ∙ least u before)
      (λ behind. let same : n ≡ u = omega (arith, behind, l) in subst (λ (k : ℕ). front_at k (set old n (times.least ∷ [])) ≡ times.least ∷ []) same (get_or-set_same old n (times.least ∷ []) [] within)) (cases_lt u n)

-- ---- a list and its reverse have the same sums

module _ {T : Type 0} (times : Times T) (t : T) where
  as_of-append : (us vs : List (Update T)) → as_of times t (us ++ vs) ≡ as_of times t us ++ as_of times t vs
  as_of-append us vs =
      ap (map entry) (filter-append (λ (u : Update T). times.below u.time t) us vs)
      ∙ map-append entry (filter (λ (u : Update T). times.below u.time t) us) (filter (λ (u : Update T). times.below u.time t) vs)

  reversed_alike : (us : List (Update T)) → Alike (as_of times t (reverse us)) (as_of times t us)
  reversed_alike [] row = refl
  reversed_alike (u ∷ us) row =
      let back = ap (λ (vs : List (Update T)). count_of (as_of times t vs) row) (reverse-append (u ∷ []) us) in
      let behind = ap (λ es. count_of es row) (as_of-append (reverse us) (u ∷ [])) ∙ count_of-append (as_of times t (reverse us)) (as_of times t (u ∷ [])) row in
      let front = ap (λ es. count_of es row) (as_of-append (u ∷ []) us) ∙ count_of-append (as_of times t (u ∷ [])) (as_of times t us) row in
      back ∙ (behind ∙ (swapped _ _ _ (reversed_alike us row) ∙ sym front))
    where
      swapped : (m n k : ℤ) → m ≡ n → (m +ℤ k) ≡ (k +ℤ n)
      swapped m n k e = omega (arith, ints, e)

-- ---- the times that are open for a view

-- the frontiers, one after another, of the inputs below a number that feed a view
abbrev feeding : {T : Type 0} → List Node → ℕ → (ℕ → List T) → ℕ → List T
feeding p v k m = flat_map k (filter (λ i. feeds p i v) (numbers_below m))

module _ {T : Type 0} (times : Times T) where
  -- if the frontiers of each input have the same times beyond them, so do all of them together
  pub same_open : (p : List Node) (f g : ℕ → List T) (v : ℕ) (t : T) → ((i : ℕ) → IsTrue (is_input_of p i) → is_beyond times (f i) t ≡ is_beyond times (g i) t)
      → is_beyond times (open_for times p f v) t ≡ is_beyond times (open_for times p g v) t
  same_open p f g v t h = up_to (length p) (omega arith)
    where
      split : (k : ℕ → List T) (m : ℕ) → is_beyond times (feeding p v k (suc m)) t ≡ (is_beyond times (feeding p v k m) t || is_beyond times (flat_map k (cond (feeds p m v) (m ∷ []) [])) t)
      split k m =
          ap (λ (is : List ℕ). is_beyond times (flat_map k is) t) (filter-append (λ i. feeds p i v) (numbers_below m) (m ∷ []))
          ∙ (ap (λ (ts : List T). is_beyond times ts t) (flat_map-append k (filter (λ i. feeds p i v) (numbers_below m)) (cond (feeds p m v) (m ∷ []) []))
          ∙ list_any-append (λ x. times.below x t) (feeding p v k m) (flat_map k (cond (feeds p m v) (m ∷ []) [])))

      last : (m : ℕ) → m < length p → (b : Bool) → feeds p m v ≡ b → is_beyond times (flat_map f (cond b (m ∷ []) [])) t ≡ is_beyond times (flat_map g (cond b (m ∷ []) [])) t
      last m l false e = refl
      last m l true e =
          ap (λ (ts : List T). is_beyond times ts t) (append-nil (f m))
          ∙ (h m (and_from _ _ (lt-ltb m (length p) l) (and_parts _ _ e).0)
          ∙ ap (λ (ts : List T). is_beyond times ts t) (sym (append-nil (g m))))

      up_to : (m : ℕ) → m ≤ length p → is_beyond times (feeding p v f m) t ≡ is_beyond times (feeding p v g m) t
      up_to zero l = refl
      up_to (suc m) l =
          split f m
          ∙ ((λ j. up_to m (omega (arith, l)) j || last m (omega (arith, l)) (feeds p m v) refl j)
          ∙ sym (split g m))

  -- the frontiers of the inputs below n, in order
  pub record AreSome (p : List Node) (inputs : List (List T)) (n : ℕ) (frontiers : List (List T)) : Type 0 where
    pub count : length frontiers ≡ inputs_before p n
    pub beyond : (i : ℕ) → i < n → is_input (node_at p i) ≡ true → (t : T) → is_beyond times (list_of p frontiers i) t ≡ is_beyond times (front_at i inputs) t

  -- keeps the invariant of `frontiers` at an input
  pub some_more : (p : List Node) (inputs : List (List T)) (n : ℕ) (old new : List (List T)) (F : List T) → is_input (node_at p n) ≡ true → new ≡ old ++ F ∷ []
      → ((t : T) → is_beyond times F t ≡ is_beyond times (front_at n inputs) t) → AreSome p inputs n old → AreSome p inputs (n + 1) new
  some_more p inputs n old new F input e h so = subst (AreSome p inputs (n + 1)) (sym e) (record { count = long; beyond = each })
    where
      long : length (old ++ F ∷ []) ≡ inputs_before p (n + 1)
      long = let parts = length-append old (F ∷ []) in let count = so.count in let one = inputs_with p n input in omega (arith, parts, count, one)

      each : (i : ℕ) → i < n + 1 → is_input (node_at p i) ≡ true → (t : T) → is_beyond times (list_of p (old ++ F ∷ []) i) t ≡ is_beyond times (front_at i inputs) t
      each i l there t =
          ⊎_elim
          (λ k.
          let place = place_before p i n k there in
          let count = so.count in
          ap (λ (ts : List T). is_beyond times ts t) (get_or_append_left old (F ∷ []) [] (inputs_before p i) (omega (arith, place, count))) ∙ so.beyond i k there t)
          (λ k.
          let same : n ≡ i = omega (arith, k, l) in
          subst (λ (j : ℕ). is_beyond times (list_of p (old ++ F ∷ []) j) t ≡ is_beyond times (front_at j inputs) t) same
          (ap (λ (ts : List T). is_beyond times ts t) (get_or_push old F [] (inputs_before p n) so.count) ∙ h t))
          (cases_lt i n)

  -- keeps the invariant of `frontiers` at another node
  pub some_same : (p : List Node) (inputs : List (List T)) (n : ℕ) (old : List (List T)) → is_input (node_at p n) ≡ false → AreSome p inputs n old → AreSome p inputs (n + 1) old
  some_same p inputs n old none so = record { count = so.count ∙ sym (inputs_without p n none); beyond = each }
    where
      each : (i : ℕ) → i < n + 1 → is_input (node_at p i) ≡ true → (t : T) → is_beyond times (list_of p old i) t ≡ is_beyond times (front_at i inputs) t
      each i l there t =
          ⊎_elim
          (λ k. so.beyond i k there t)
          (λ k. let same : n ≡ i = omega (arith, k, l) in absurd (true≢false (sym there ∙ (ap (λ j. is_input (node_at p j)) (sym same) ∙ none))))
          (cases_lt i n)

  -- past the last node all inputs have their frontiers
  pub some_all : (p : List Node) (inputs : List (List T)) (n : ℕ) (all : List (List T)) → length p ≤ n → AreSome p inputs n all → AreFrontiers times p inputs all
  some_all p inputs n all long so i h t = let parts = and_parts _ _ h in let within : i < length p = ltb-true _ _ parts.0 in so.beyond i (omega (arith, within, long)) parts.1 t

-- ---- questions

module _ {T : Type 0} {times : Times T} (o : PartialOrderLaws times) (r : Register T) (s : Session T) (a : Records r s) (v : ℕ) where
  same_found : view_frontier times r.plan s v ≡ least times (open_for times r.plan (λ i. front_at i r.inputs) v)
  same_found = ap (λ (fronts : List (List T)). least times (open_for times r.plan (λ i. front_at i fronts) v)) (sym a.inputs)

  -- a time is open for the view if and only if it is so in the session
  pub same_passed : (elements : List T) (t : T) → elements ≡ open_for times r.plan (λ i. front_at i r.inputs) v → is_beyond times (view_frontier times r.plan s v) t ≡ is_beyond times elements t
  same_passed elements t e =
      ap (λ (ts : List T). is_beyond times ts t) same_found
      ∙ (least_beyond o (open_for times r.plan (λ i. front_at i r.inputs) v) t
      ∙ ap (λ (ts : List T). is_beyond times ts t) (sym e))

  -- a time may be read if and only if it may be in the session
  same_kept : v < length r.plan → (t : T) (b : Bool) → is_beyond times (front_at v r.sinces) t ≡ b → not (is_beyond times (s.since v) t) ≡ not b
  same_kept within t b e = ap (λ (since : List T). not (is_beyond times since t)) (sym (a.since v within)) ∙ ap not e

  -- a read is refused if its time is still open, and if it was given up
  pub open_refuses : (t : T) → is_beyond times (view_frontier times r.plan s v) t ≡ true → read_refusal times r.plan s v t ≡ Some NotPassed
  open_refuses t e = ap (λ b. first_refusal ((b, NotPassed) ∷ (not (is_beyond times (s.since v) t), GivenUp) ∷ [])) e

  pub given_up_refuses : v < length r.plan → (t : T) → is_beyond times (view_frontier times r.plan s v) t ≡ false → is_beyond times (front_at v r.sinces) t ≡ false → read_refusal times r.plan s v t ≡ Some GivenUp
  given_up_refuses within t e kept = rw (e, same_kept within t false kept) refl

  passed_reads : v < length r.plan → (t : T) → is_beyond times (view_frontier times r.plan s v) t ≡ false → is_beyond times (front_at v r.sinces) t ≡ true → read_refusal times r.plan s v t ≡ None
  passed_reads within t e kept = rw (e, same_kept within t true kept) refl

  -- a question for changes is refused if and only if the least time was given up
  pub changes_wanted : v < length r.plan → is_beyond times (front_at v r.sinces) times.least ≡ true → changes_refusal times r.plan s v ≡ None
  changes_wanted within kept = rw (same_kept within times.least true kept) refl

  pub changes_given_up : v < length r.plan → is_beyond times (front_at v r.sinces) times.least ≡ false → changes_refusal times r.plan s v ≡ Some GivenUp
  changes_given_up within kept = rw (same_kept within times.least false kept) refl

  -- the least open times, in order, are the printed frontier
  pub frontier_found : {cmp : T → T → Ordering} → IsTotalOrder cmp → ((t u : T) → cmp t u ≡ Equal → t ≡ u) → (elements F : List T) → elements ≡ open_for times r.plan (λ i. front_at i r.inputs) v
      → IsFrontier times cmp F → SameElements F (least times elements) → F ≡ frontier_at times r.plan s cmp v
  frontier_found {cmp} total exact elements F e is same =
      let found = view_frontier times r.plan s v in
      let all : least times elements ≡ view_frontier times r.plan s v = ap (least times) e ∙ sym same_found in
      let own : SameElements F (view_frontier times r.plan s v) = subst (λ (G : List T). SameElements F G) all same in
      sorted_same total F (in_order cmp found) is.ascending (in_order-sorted cmp total found)
      (λ t h. in_order-has cmp exact found t (among_contains t found (own.into t (contains_among t F h))))
      (λ t h. among_contains t F (own.back t (contains_among t found (in_order-only cmp found t h))))

  module _ (plan : IsPlan r.plan) (within : v < length r.plan) where
    -- the query of each node is that of the session
    same_query_of : (n : ℕ) → n < length r.plan → (t : T) → Alike (query_at times r.plan (list_of r.plan r.changes) n t) (query_at times r.plan (λ i. fed_to i s.fed) n t)
    same_query_of n l t =
        query_at_inputs r.plan plan (λ i. as_of times t (list_of r.plan r.changes i)) (λ i. as_of times t (fed_to i s.fed))
        (λ n l i row. ap (λ (us : List (Update T)). count_of (as_of times t us) row) (a.changes n (and_from _ _ (lt-ltb n (length r.plan) l) i)) ∙ reversed_alike times t (fed_to n s.fed) row)
        n l

    same_query : (t : T) → Alike (query_at times r.plan (list_of r.plan r.changes) v t) (query_at times r.plan (λ i. fed_to i s.fed) v t)
    same_query t = same_query_of v within t

    -- if a number of the query is too large, so is a bound
    module _ {cmp : T → T → Ordering} (l : LatticeLaws times) (x : ExtendsLaws times cmp) (total : IsTotalOrder cmp) where
      -- the cause of a read that overflowed
      pub large_query : (t : T) → HasLargeAbove r.plan (sums_at times r.plan r.changes t) v → HasLargeBound times cmp r.plan (λ i. fed_to i s.fed)
      large_query t large = large_above o l x total r.plan plan r.changes (λ i. fed_to i s.fed) same_query_of v within t large

      -- the cause of a question for changes that overflowed
      pub large_changes : (F : List T) → HasLargeDifference times r.plan r.changes F v → HasLargeBound times cmp r.plan (λ i. fed_to i s.fed)
      large_changes F large = large_difference o l x total r.plan plan r.changes (λ i. fed_to i s.fed) same_query_of v within F large

    -- answers the clause `answered` of read
    pub rows_answered : (cause Large : Type 0) → (cause → Large) → (t : T) (x : Result (List Entry) Refusal) → is_beyond times (view_frontier times r.plan s v) t ≡ false → is_beyond times (front_at v r.sinces) t ≡ true
        → IfOk x (λ bag. Alike bag (query_at times r.plan (list_of r.plan r.changes) v t)) → IfOk x IsBag → IfErr x (IsMemoryOrOverflow cause)
        → IsFound (IsMemoryOrOverflow Large) (read_refusal times r.plan s v t) (rows_at times r.plan s v t) x
    rows_answered cause Large found t (Ok bag) passed kept alike is refused = (passed_reads within t passed kept, consolidated_bag-only _ bag is (λ row. alike row ∙ same_query t row))
    rows_answered cause Large found t (Err e) passed kept alike is refused = inr (⊎_elim (λ m. inl m) (λ l. inr (l.0, found l.1)) refused)

    -- the differences of the inputs' lists and frontiers are the session's changes
    pub changes_found : {cmp : T → T → Ordering} → LatticeLaws times → ExtendsLaws times cmp → IsTotalOrder cmp → (frontiers : List (List T)) (us : List (Update T)) → AreFrontiers times r.plan r.inputs frontiers
        → AreDifferences times cmp r.plan (list_of r.plan r.changes) (open_for times r.plan (list_of r.plan frontiers) v) v us → us ≡ changes_at times r.plan s cmp v
    changes_found {cmp} l x total frontiers us are d =
        let F = open_for times r.plan (list_of r.plan frontiers) v in
        let G = view_frontier times r.plan s v in
        let tests : has_passed times F ≡ has_passed times G = λ j t. not (same t j) in
        let own : AreDifferences times cmp r.plan (λ i. fed_to i s.fed) G v us = record {
          consolidated = d.consolidated;
          passed = subst (λ (test : T → Bool). IsTrue (list_all (λ u. test u.time) us)) tests d.passed;
          sums = λ t h row. d.sums t (subst (λ (test : T → Bool). IsTrue (test t)) (sym tests) h) row ∙ same_query t row;
        } in
        differences_only o total r.plan (λ i. fed_to i s.fed) G v us (changes_at times r.plan s cmp v) own (changes_are o l x total r.plan s.fed plan v within G)
      where
        same : (t : T) → is_beyond times (open_for times r.plan (list_of r.plan frontiers) v) t ≡ is_beyond times (view_frontier times r.plan s v) t
        same t =
            same_open times r.plan (list_of r.plan frontiers) (λ i. front_at i r.inputs) v t (λ i h. are i h t)
            ∙ sym (same_passed (open_for times r.plan (λ i. front_at i r.inputs) v) t refl)

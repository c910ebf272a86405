-- A legal history in which each kind of event occurs. A row goes through an arrange node into a
-- join and a count, on two workers, and is read at a view of the count. It shows that the premises
-- of the theorems can be met.
use Rattle.std.proofs.Common.{◌≡◌, ℕ, zero, suc, ◌≤◌, Bool, true, false, not, ◌||◌, List, [], ◌∷◌, ◌++◌, sym, refl, ap, ◌∙◌, IsTrue, None, Some, arith, nat_le, pos, inl}
use Rattle.std.proofs.lemmas.Bool.{and_parts, false≢true, true≢false}
use Rattle.std.proofs.lemmas.List.Folds.{list_all-append}
use Rattle.std.proofs.lemmas.Bool.Decides.{Decides-int_eq, nat_tests}
use Rattle.antichain.specs.Antichains.{least}
use Rattle.antichain.proofs.Lists.{contains_among}
use Rattle.update.specs.Bags.{Entry, total_by}
use Rattle.update.specs.declared.change.Update.{Update}
use Rattle.plan.specs.Ancestors.{reaches}
use Rattle.plan.specs.Widths.{width_of}
use Rattle.plan.specs.Rules.{IsPlan}
use Rattle.plan.specs.declared.node.Node.{Node}
use Rattle.plan.specs.declared.node.Node.TheVariants.{Input, Arrange, Join, Reduce, Output}
use Rattle.plan.specs.declared.kind.Kind.TheVariants.{Count}
use Rattle.histories.specs.declared.event.Site.{Site}
use Rattle.histories.specs.declared.event.Bundle.{Bundle}
use Rattle.histories.specs.declared.event.Emission.{Emission}
use Rattle.histories.specs.declared.event.Event.{Event}
use Rattle.histories.specs.declared.event.Event.TheVariants.{Feed, Advance, Allow, Look, Take, TakeHeld, Give}
use Rattle.histories.specs.Histories.Dataflows.{Dataflow, IsDataflow, node_of}
use Rattle.histories.specs.Histories.States.{State, update_times, queue, held_at}
use Rattle.histories.specs.Histories.NodeLaws.{NodeLaw, LoadRule, IsWithinLoad}
use Rattle.plan.specs.Nodes.{is_reduction}
use Rattle.lattice.specs.Frontiers.{is_beyond, all_beyond}
use Rattle.lattice.specs.Naturals.{nat_times, nat_order}
use Rattle.std.specs.List.{slice_get}
use Rattle.histories.specs.Histories.{state_after, give_state, IsAllowed, IsLegal}
use Rattle.histories.specs.Histories.Cuts.{cut}
use Rattle.histories.specs.Histories.Examples.{IsExample}
use Rattle.histories.specs.Histories.Outstanding.{stamp}
use Rattle.histories.proofs.HistoryLemmas.CutLemmas.{cut_whole, cut_filled, cut_stamped}

abbrev nodes : List Node
nodes = Input 1 ∷ Arrange 0 1 ∷ Join 1 1 ∷ Reduce Count 1 ∷ Output 2 ∷ Output 3 ∷ []

abbrev p : Dataflow
p = record { nodes = nodes; workers = 2 }

at_most : {m n : ℕ} → nat_le m n ≡ true → m ≤ n
at_most {m} {n} e = grind (arith, nat_tests)

is_plan : IsPlan nodes
unfolding width_of
is_plan zero l = refl
is_plan (suc zero) l = refl
is_plan (suc (suc zero)) l = refl
is_plan (suc (suc (suc zero))) l = refl
is_plan (suc (suc (suc (suc zero)))) l = refl
is_plan (suc (suc (suc (suc (suc zero))))) l = refl
is_plan (suc (suc (suc (suc (suc (suc n)))))) l = absurd (omega (arith, l))

is_dataflow : IsDataflow p
is_dataflow = record { plan = is_plan; staffed = omega (arith) }

-- the row (5), and what the count gives for it
abbrev five : Update ℕ
five = record { time = 0; row = pos 5 ∷ []; diff = pos 1 }

abbrev counted : Update ℕ
counted = record { time = 0; row = pos 5 ∷ pos 1 ∷ []; diff = pos 1 }

abbrev site : ℕ → ℕ → Site
site n port = record { node = n; port = port; worker = 1 }

-- a bundle of updates at the time 0
abbrev parcel : ℕ → ℕ → List (Update ℕ) → Bundle ℕ
parcel n port us = record { place = site n port; updates = us; stamp = 0 ∷ [] }

abbrev by : ℕ → List (Update ℕ) → Emission ℕ
by n us = record { node = n; worker = 1; updates = us }

abbrev give : ℕ → List (Update ℕ) → List ℕ → Event ℕ
give n us ts = Give (by n us) ts (cut nat_times p (by n us))

abbrev fed : List (Event ℕ)
fed = Look 0 ∷ Feed 2 (record { input = 0; update = five }) ∷ []

abbrev arranged_next : List (Event ℕ)
arranged_next = Take 0 (parcel 0 0 (five ∷ [])) ∷ fed

abbrev arranged : List (Event ℕ)
arranged = Take 0 (parcel 1 0 (five ∷ [])) ∷ give 0 (five ∷ []) [] ∷ arranged_next

abbrev joined_next : List (Event ℕ)
joined_next = Take 0 (parcel 2 0 (five ∷ [])) ∷ give 1 (five ∷ []) [] ∷ arranged

abbrev joined_again : List (Event ℕ)
joined_again = Take 0 (parcel 2 1 (five ∷ [])) ∷ give 2 [] [] ∷ joined_next

abbrev count_next : List (Event ℕ)
count_next = Take 0 (parcel 3 0 (five ∷ [])) ∷ give 2 (five ∷ []) [] ∷ joined_again

abbrev waiting : List (Event ℕ)
waiting = Advance 2 0 (1 ∷ []) ∷ give 3 [] (0 ∷ []) ∷ count_next

abbrev turned : List (Event ℕ)
turned = TakeHeld 1 3 ∷ waiting

abbrev counted_next : List (Event ℕ)
counted_next = Take 0 (parcel 5 0 (counted ∷ [])) ∷ give 3 (counted ∷ []) [] ∷ turned

abbrev seen : List (Event ℕ)
seen = give 5 (counted ∷ []) [] ∷ counted_next

abbrev all : List (Event ℕ)
all = Allow 2 5 (0 ∷ []) ∷ seen

from_start : (t : ℕ) → nat_le 0 t ≡ true
from_start t = grind (arith, nat_tests)

allowed_feed : IsAllowed nat_times p (state_after nat_times p []) (Feed 2 (record { input = 0; update = five }))
unfolding width_of
allowed_feed = record { client = omega (arith); input = (omega (arith), refl); width = refl; some = λ e. false≢true ((Decides-int_eq (pos 1) (pos 0)).1 e); small = at_most refl; not_passed = refl; room = omega (arith) }

-- each take of a waiting bundle is allowed
allowed_take : (n port : ℕ) (us : List (Update ℕ)) (h : List (Event ℕ)) → (state_after nat_times p h).hand 1 ≡ None → slice_get (queue (site n port) (state_after nat_times p h).in_flight) 0 ≡ Some (parcel n port us) → IsAllowed nat_times p (state_after nat_times p h) (Take 0 (parcel n port us))
allowed_take n port us h free waits = record { worker = omega (arith); free = free; waits = waits; turn = λ _. refl }

abbrev held : List (Event ℕ) → ℕ → List ℕ
held h n = held_at n 1 (state_after nat_times p h).held

-- each give is allowed
allowed_give : (n : ℕ) (us : List (Update ℕ)) (ts : List ℕ) (h : List (Event ℕ)) → (state_after nat_times p h).hand 1 ≡ Some n
    → IsTrue (all_beyond nat_times (held_at n 1 (state_after nat_times p h).held) (update_times us ++ ts))
    → NodeLaw nat_times p (give_state nat_times p (state_after nat_times p h) (by n us) ts (cut nat_times p (by n us))) n 1 → LoadRule nat_times p (give_state nat_times p (state_after nat_times p h) (by n us) ts (cut nat_times p (by n us))) n 1
    → IsAllowed nat_times p (state_after nat_times p h) (give n us ts)
allowed_give n us ts h hand onward law load = record {
  worker = omega (arith);
  in_hand = hand;
  onward = onward;
  law = law;
  load = load;
  whole = λ s f. ap (total_by f) (cut_whole nat_times p (by n us) is_dataflow (omega (arith)) s);
  filled = cut_filled nat_times p (by n us);
  stamped = cut_stamped nat_times p (by n us) nat_order (held h n) (and_parts (all_beyond nat_times (held h n) (update_times us)) (all_beyond nat_times (held h n) ts) (sym (list_all-append (is_beyond nat_times (held h n)) (update_times us) ts) ∙ onward)).0;
}

light : (n : ℕ) (w : State ℕ) → is_reduction (node_of p n) ≡ false → IsWithinLoad nat_times p w n 1 → LoadRule nat_times p w n 1
light n w e l = record { within = λ _. l; final = λ f. absurd (false≢true (sym e ∙ f)) }

first_give : IsAllowed nat_times p (state_after nat_times p arranged_next) (give 0 (five ∷ []) [])
unfolding stamp least
first_give = allowed_give 0 (five ∷ []) [] arranged_next refl refl (λ t e row. rw (from_start t) refl) (light 0 _ refl (at_most refl))

arranged_give : IsAllowed nat_times p (state_after nat_times p arranged) (give 1 (five ∷ []) [])
unfolding stamp least
arranged_give = allowed_give 1 (five ∷ []) [] arranged refl refl (λ t e row. rw (from_start t) refl) (light 1 _ refl (at_most refl))

-- the join gives nothing while nothing has come to the other side
joined_give : IsAllowed nat_times p (state_after nat_times p joined_next) (give 2 [] [])
unfolding stamp least
joined_give = allowed_give 2 [] [] joined_next refl refl (λ t e row. rw (from_start t) refl) (light 2 _ refl (at_most refl))

joined_again_give : IsAllowed nat_times p (state_after nat_times p joined_again) (give 2 (five ∷ []) [])
unfolding stamp least
joined_again_give = allowed_give 2 (five ∷ []) [] joined_again refl refl (λ t e row. rw (from_start t) refl) (light 2 _ refl (at_most refl))

-- the count holds its time until no more input can come at or before it
count_give : IsAllowed nat_times p (state_after nat_times p count_next) (give 3 [] (0 ∷ []))
unfolding stamp least
count_give = allowed_give 3 [] (0 ∷ []) count_next refl refl (λ t e row. absurd (false≢true (ap (λ b. not (b || false)) (sym (from_start t)) ∙ e)))
    (record { within = λ f. absurd (true≢false f); final = λ _. record { apart = tt; held = refl; observed = refl } })

allowed_advance : IsAllowed nat_times p (state_after nat_times p (give 3 [] (0 ∷ []) ∷ count_next)) (Advance 2 0 (1 ∷ []))
allowed_advance = record { client = omega (arith); input = (omega (arith), refl); onward = refl }

allowed_turn : IsAllowed nat_times p (state_after nat_times p waiting) (TakeHeld 1 3)
unfolding stamp least reaches
allowed_turn = record { worker = omega (arith); within = omega (arith); free = refl; held = 0; holds = contains_among 0 (0 ∷ []) (inl refl); passed = refl }

counted_give : IsAllowed nat_times p (state_after nat_times p turned) (give 3 (counted ∷ []) [])
unfolding stamp least reaches
counted_give = allowed_give 3 (counted ∷ []) [] turned refl refl (λ t e row. rw (from_start t) refl)
    (record { within = λ f. absurd (true≢false f); final = λ _. record { apart = (refl, tt); held = refl; observed = refl } })

seen_give : IsAllowed nat_times p (state_after nat_times p counted_next) (give 5 (counted ∷ []) [])
unfolding stamp least
seen_give = allowed_give 5 (counted ∷ []) [] counted_next refl refl (λ t e row. rw (from_start t) refl) (light 5 _ refl (at_most refl))

fed_legal : IsLegal nat_times p fed
fed_legal = (tt, (allowed_feed, tt))

arranged_legal : IsLegal nat_times p arranged
unfolding stamp
arranged_legal = (allowed_take 1 0 (five ∷ []) (give 0 (five ∷ []) [] ∷ arranged_next) refl refl, (first_give, (allowed_take 0 0 (five ∷ []) fed refl refl, fed_legal)))

joined_legal : IsLegal nat_times p joined_again
unfolding stamp
joined_legal = (allowed_take 2 1 (five ∷ []) (give 2 [] [] ∷ joined_next) refl refl, (joined_give, (allowed_take 2 0 (five ∷ []) (give 1 (five ∷ []) [] ∷ arranged) refl refl, (arranged_give, arranged_legal))))

waiting_legal : IsLegal nat_times p waiting
unfolding stamp
waiting_legal = (allowed_advance, (count_give, (allowed_take 3 0 (five ∷ []) (give 2 (five ∷ []) [] ∷ joined_again) refl refl, (joined_again_give, joined_legal))))

all_legal : IsLegal nat_times p all
unfolding stamp
all_legal = (record { client = omega (arith); within = omega (arith); view = refl; onward = refl }, (seen_give, (allowed_take 5 0 (counted ∷ []) (give 3 (counted ∷ []) [] ∷ turned) refl refl, (counted_give, (allowed_turn, waiting_legal)))))

-- the history, with the proof that it is an example
pub example : (q : Dataflow) × (h : List (Event ℕ)) × (v : ℕ) × (us : List (Update ℕ)) × (front : List ℕ) × (since : List ℕ) × (t : ℕ) × IsExample q h v us front since t
unfolding stamp least reaches
example = (
  p,
  all,
  5,
  counted ∷ [],
  1 ∷ [],
  0 ∷ [],
  0,
  record {
    dataflow = is_dataflow;
    join = refl;
    reduction = refl;
    legal = all_legal;
    kinds = refl;
    within = omega (arith);
    view = refl;
    reading = record { stands = record { into = λ t c. c; back = λ t c. c }; held = refl; sums = λ t e row. refl };
    passed = refl;
    held = refl;
    some = λ e. false≢true (ap is_nothing e);
  },
)
  where
    is_nothing : List Entry → Bool
    is_nothing [] = true
    is_nothing (x ∷ xs) = false

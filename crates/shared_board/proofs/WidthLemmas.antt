-- Each event of a board keeps the widths of its rows, if what it sends has them.
use Rattle.std.proofs.Common.{◌≡◌, ℕ, true, eqb, List, [], ◌∷◌, ◌++◌, length, IsTrue, refl, ap, ◌∙◌}
use Rattle.std.specs.Prelude.{unwrap_or}
use Rattle.std.specs.List.{list_all, slice_get}
use Rattle.std.proofs.lemmas.Bool.{and_from, eq-eqb}
use Rattle.std.proofs.lemmas.List.Folds.{list_all-append}
use Rattle.antichain.proofs.Lists.{all_at, all_from}
use Rattle.plan.specs.Nodes.{sources}
use Rattle.plan.specs.Widths.{width_of}
use Rattle.plan.proofs.SortLemmas.{input_reads_none}
use Rattle.histories.specs.declared.event.Bundle.{Bundle}
use Rattle.histories.specs.declared.event.Fed.{Fed}
use Rattle.histories.specs.declared.event.Event.{Event}
use Rattle.histories.specs.declared.event.Event.TheVariants.{Feed, Advance, Allow, Look, Take, TakeHeld, Give}
use Rattle.histories.specs.Histories.Dataflows.{Dataflow, node_of}
use Rattle.histories.specs.Histories.States.{State}
use Rattle.histories.specs.Histories.{alone, without, next_state, IsFeed, IsAllowed}
use Rattle.histories.proofs.HistoryLemmas.FlowLemmas.{queued, among_left}
use Rattle.shared_board.specs.Widths.{is_wide_for, are_wide_for, HasWidths, IsSentWide}
use Rattle.lattice.specs.Times.{Times}

module _ {T : Type 0} (times : Times T) (p : Dataflow) (w : State T) where
  -- a change that is fed has its input's width
  pub fed_wide : (client : ℕ) (f : Fed T) → IsFeed times p w client f → is_wide_for p (alone p f) ≡ true
  fed_wide client f x =
      and_from (eqb (length f.update.row) (width_of p.nodes (unwrap_or (slice_get (sources (node_of p f.input)) 0) f.input))) true
      (ap (λ z. eqb (length f.update.row) (width_of p.nodes (unwrap_or z f.input))) (input_reads_none (node_of p f.input) x.input.1 0) ∙ eq-eqb (length f.update.row) (width_of p.nodes f.input) x.width) refl

  more_wide : (xs ys : List (Bundle T)) → are_wide_for p xs ≡ true → are_wide_for p ys ≡ true → IsTrue (list_all (is_wide_for p) (xs ++ ys))
  more_wide xs ys x y = list_all-append (is_wide_for p) xs ys ∙ and_from (are_wide_for p xs) (are_wide_for p ys) x y

  pub widths_after : (e : Event T) → HasWidths p w → IsAllowed times p w e → IsSentWide p e → HasWidths p (next_state times p w e)
  widths_after (Feed client f) h x sent = record {
    in_flight = more_wide w.in_flight (alone p f ∷ []) h.in_flight (and_from (is_wide_for p (alone p f)) true (fed_wide client f x) refl);
    received = h.received;
  }
  widths_after (Advance client i ts) h x sent = record { in_flight = h.in_flight; received = h.received }
  widths_after (Allow client v ts) h x sent = record { in_flight = h.in_flight; received = h.received }
  widths_after (Look actor) h x sent = h
  widths_after (Take number bundle) h x sent = record {
    in_flight = all_from (is_wide_for p) (without bundle.place w.in_flight number) (λ b m. all_at (is_wide_for p) w.in_flight b h.in_flight (among_left bundle.place w.in_flight number b m));
    received = and_from (is_wide_for p bundle) (are_wide_for p w.received) (all_at (is_wide_for p) w.in_flight bundle h.in_flight (queued bundle.place w.in_flight number bundle x.waits).0) h.received;
  }
  widths_after (TakeHeld k n) h x sent = record { in_flight = h.in_flight; received = h.received }
  widths_after (Give g ts sent) h x wide = record { in_flight = more_wide w.in_flight sent h.in_flight wide; received = h.received }

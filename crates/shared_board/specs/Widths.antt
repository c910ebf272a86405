-- The widths of rows on a board: the rows of a bundle have the width of the node that its place
-- reads. No law of histories asks for it, since rows of another width could cancel. The workers see
-- to it.
use Rattle.std.specs.Prelude.{ℕ, Bool, List, unwrap_or, IsTrue, ⊤}
use Rattle.std.specs.List.{list_all}
use Rattle.plan.specs.Widths.{width_of}
use Rattle.linear.specs.Widths.{are_wide}
use Rattle.histories.specs.declared.event.Site.{Site}
use Rattle.histories.specs.declared.event.Bundle.{Bundle}
use Rattle.histories.specs.declared.event.Event.{Event}
use Rattle.histories.specs.declared.event.Event.TheVariants.{Feed, Advance, Allow, Look, Take, TakeHeld, Give}
use Rattle.histories.specs.Histories.Dataflows.{Dataflow, source_of}
use Rattle.histories.specs.Histories.States.{State}

-- the width of the rows that arrive at a place: that of the node read there, or the input's own
abbrev pub width_at : Dataflow → Site → ℕ
width_at p site = width_of p.nodes (unwrap_or (source_of p site.node site.port) site.node)

module _ {T : Type 0} (p : Dataflow) where
  abbrev pub is_wide_for : Bundle T → Bool
  is_wide_for b = are_wide (width_at p b.place) b.updates

  abbrev pub are_wide_for : List (Bundle T) → Bool
  are_wide_for bundles = list_all is_wide_for bundles

  -- what is in flight has its width, and what was received had it
  pub record HasWidths (w : State T) : Type 0 where
    pub in_flight : IsTrue (are_wide_for w.in_flight)
    pub received : IsTrue (are_wide_for w.received)

  -- what an event sends has its width, where the laws of histories do not say so
  abbrev pub IsSentWide : Event T → Type 0
  IsSentWide (Feed client f) = ⊤
  IsSentWide (Advance client i ts) = ⊤
  IsSentWide (Allow client v ts) = ⊤
  IsSentWide (Look actor) = ⊤
  IsSentWide (Take number bundle) = ⊤
  IsSentWide (TakeHeld k n) = ⊤
  IsSentWide (Give g ts sent) = IsTrue (are_wide_for sent)

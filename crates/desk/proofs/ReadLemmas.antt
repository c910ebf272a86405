-- What a reader of an arrangement may ask of it: the boundary up to which it has taken, and where
-- the next insertion ends.
use Rattle.std.proofs.Common.{◌≡◌, List, [], ◌∷◌, Some, IsTrue, sym, ◌∙◌, ap, subst}
use Rattle.std.specs.Prelude.{Option, None, IsSomeAnd}
use Rattle.std.specs.List.{Contains}
use Rattle.std.proofs.lemmas.Bool.{and_from}
use Rattle.lattice.specs.Times.{Times}
use Rattle.lattice.specs.Order.{PartialOrderLaws}
use Rattle.lattice.specs.Frontiers.{all_beyond}
use Rattle.batch.specs.Intervals.{all_between, is_interval_of}
use Rattle.trace.specs.Holds.{HoldState}
use Rattle.trace.specs.Readings.{Insertion, reached}
use Rattle.spine.specs.HoldRules.{forbids}
use Rattle.spine.specs.Spines.{boundaries}
use Rattle.operator.specs.Arrangements.{ArrangementState, IsArrangement, IsInTurn, AreInTurn}
use Rattle.operator.specs.Joins.{IsSide}
use Rattle.operator.proofs.HoldLemmas.{some_passes}
use Rattle.operator.proofs.TurnLemmas.{firsts}
use Rattle.desk.specs.Joinings.{IsReading}

-- an answer that is there, and what is known of it
pub some_and : {X : Type 0} (r : Option X) (P : X → Type 0) (x : X) → r ≡ Some x → IsSomeAnd r P → P x
some_and r P x e h = subst (λ z. IsSomeAnd z P) e h

pub some_not : {X : Type 0} (r : Option X) (P : X → Type 0) → r ≡ None → IsSomeAnd r P → ⊥
some_not r P e h = subst (λ z. IsSomeAnd z P) e h

module _ {T : Type 0} {times : Times T} {a : ArrangementState T} {inserted later taken : List (Insertion T)} {boundary : List T} (known : IsArrangement times a) (r : IsReading times a inserted later taken boundary) where
  -- the reader's hold keeps its boundary open
  pub reading_asks : IsTrue (forbids times a.spine.holds boundary)
  reading_asks = some_passes (λ (h : HoldState T). all_beyond times h.physical boundary) a.holds a.spine.holds r.number r.hold known.holds r.held r.behind

  pub reading_ends : boundary ≡ reached a.spine.list.start taken
  reading_ends = r.ends ∙ ap (λ start. reached start taken) (sym r.start)

  -- so it may still be read from there
  pub reading_readable : Contains (boundaries a.spine) boundary
  reading_readable =
      subst (Contains (boundaries a.spine)) (sym reading_ends)
      (r.«open» later taken r.all (subst (λ u. IsTrue (forbids times a.spine.holds u)) reading_ends reading_asks))

  pub reading_turn : AreInTurn times a.spine.list.start inserted
  reading_turn = subst (λ start. AreInTurn times start inserted) (sym r.start) r.in_turn

  -- what a join has taken of it is a side of the join
  pub reading_side : IsSide times a.spine inserted taken boundary
  reading_side = record {
    stands = r.stands;
    start = r.start;
    in_turn = r.in_turn;
    later = later;
    all = r.all;
    ends = r.ends;
    readable = reading_readable;
  }

-- the next insertion is of the times between its reader's boundary and its end
pub next_between : {T : Type 0} {times : Times T} (o : PartialOrderLaws times) {a : ArrangementState T} {inserted later taken : List (Insertion T)} {boundary : List T} {next : Insertion T} → IsReading times a inserted (next ∷ later) taken boundary
    → IsTrue (is_interval_of times boundary next.upper next.updates)
next_between {T} {times} o {a} {inserted} {later} {taken} {boundary} {next} r =
    let start = times.least ∷ [] in
    let turn : IsInTurn times (reached start taken) next = (firsts o start later (next ∷ taken) (subst (AreInTurn times start) r.all r.in_turn)).0 in
    subst (λ F. IsTrue (is_interval_of times F next.upper next.updates)) (sym r.ends)
    (and_from (all_beyond times (reached start taken) next.upper) (all_between times (reached start taken) next.upper next.updates) turn.forward turn.between)

-- What a batch that goes into a spine, or an empty one that does not, makes of a desk.
use Rattle.std.proofs.Common.{◌≡◌, ◌≢◌, ℕ, List, [], ◌∷◌, Option, Some, IsTrue, length, set, sym, refl, ap, ◌∙◌, subst, arith}
use Rattle.std.specs.List.{slice_get}
use Rattle.lattice.specs.Times.{Times}
use Rattle.lattice.specs.Frontiers.{all_beyond}
use Rattle.batch.specs.Descriptions.{BatchState}
use Rattle.batch.specs.Intervals.{all_between}
use Rattle.trace.specs.BatchLists.{Continues, insertion_of}
use Rattle.trace.specs.Readings.{Insertion, reached}
use Rattle.histories.specs.Histories.Dataflows.{Dataflow}
use Rattle.operator.specs.Arrangements.{ArrangementState, rows_have, upper_of}
use Rattle.desk_laws.specs.Own.{DeskView, IsArrangedOn, IsNextBatch, IsSpineAt, waiting_in, waits_on}
use Rattle.desk_laws.proofs.KeptLemmas.{same_desk}
use Rattle.desk.specs.Desks.{IsPutAway}
use Rattle.desk.specs.Sealings.{IsInserted, MayInsert}
use Rattle.desk.proofs.DeskLemmas.{other_nodes, holding_same, with_arrangement}
use Rattle.desk.proofs.PlaceLemmas.{get_own, one_entry}

pub empty : {A : Type 0} (xs : List A) → length xs ≡ 0 → xs ≡ []
empty [] h = refl
empty (x ∷ xs) h = absurd (omega (arith, h))

module _ {T : Type 0} (times : Times T) (p : Dataflow) (d : DeskView T) (n : ℕ) (batch : BatchState T) where
  -- an empty batch is not put away
  pub none_put : batch.updates ≡ [] → IsPutAway times p n batch d d
  none_put e = record {
    others = λ m far. same_desk m d;
    none = λ _. refl;
    gathered = refl;
    holding = λ ports s. s;
    waits = refl;
    inserted = λ some start inserted y. absurd (some e);
  }

  module _ (next : IsNextBatch times p d n batch) (a : ArrangementState T) (own : slice_get d.arrangements n ≡ Some (Some a)) where
    it_is : next.arrangement ≡ a
    it_is = one_entry d.arrangements n next.arrangement a next.there own

    -- the batch may be inserted
    pub may_put : MayInsert times a batch
    may_put = record {
      room = subst (λ (z : ArrangementState T). IsTrue z.spine.list.reserved) it_is next.room;
      continues = subst (λ (z : ArrangementState T). Continues z.spine.list.worker z.spine.list.node (upper_of z.spine) batch) it_is next.continues;
      rows = subst (λ (z : ArrangementState T). IsTrue (rows_have z.width batch.updates)) it_is next.rows;
      times_are = next.times_are;
    }

    -- the batch was inserted
    module _ (b : ArrangementState T) (is : IsInserted times a b batch) (some : batch.updates ≢ []) where
      abbrev c : DeskView T
      c = with_arrangement n b d

      there_now : slice_get c.arrangements n ≡ Some (Some b)
      there_now = get_own d.arrangements n (Some b) (Some a) own

      goes_in : (start : List T) (inserted : List (Insertion T)) → IsArrangedOn times p d n start inserted → IsArrangedOn times p c n start (insertion_of batch ∷ inserted)
      goes_in start inserted y =
          let z = subst (IsSpineAt times p n inserted) (one_entry d.arrangements n y.arrangement a y.there own) y.spine in
          let ends : upper_of next.arrangement.spine ≡ reached (times.least ∷ []) inserted = ap (λ (r : ArrangementState T). upper_of r.spine) it_is ∙ (z.stands.upper ∙ ap (λ from. reached from inserted) z.start) in
          record {
            arrangement = b;
            there = there_now;
            spine = record {
              width = is.width ∙ z.width;
              start = is.start ∙ z.start;
              stands = is.stands inserted z.stands;
              in_turn = (
                record {
                  forward = subst (λ from. IsTrue (all_beyond times from batch.description.upper)) ends next.forward;
                  some = some;
                  between = subst (λ from. IsTrue (all_between times from batch.description.upper batch.updates)) ends next.between;
                },
                z.in_turn,
              );
              «open» = is.whole inserted z.«open»;
            };
            begins = y.begins;
          }

      pub put_in : IsPutAway times p n batch d c
      put_in = record {
        others = other_nodes d n b;
        none = λ e. absurd (some e);
        gathered = refl;
        holding = holding_same times p d n a b own is.holds;
        waits = (ap (waits_on c n) next.node ∙ ap waiting_in there_now) ∙ (is.waiting ∙ sym (ap (waits_on d n) next.node ∙ ap waiting_in own));
        inserted = λ _. goes_in;
      }

-- ---- the whole call

module _ {T : Type 0} (times : Times T) (d : DeskView T) (n : ℕ) (batch : BatchState T) where
  -- what the insertion asks for
  pub there_to_put : (p : Dataflow) × IsNextBatch times p d n batch → (a : ArrangementState T) × (slice_get d.arrangements n ≡ Some (Some a)) × MayInsert times a batch
  there_to_put (p, next) = (next.arrangement, next.there, may_put times p d n batch next next.arrangement next.there)

  -- and what it gives
  pub put_away_by : (arrangements : List (Option (ArrangementState T)))
      → ((a : ArrangementState T) → slice_get d.arrangements n ≡ Some (Some a) → (b : ArrangementState T) × (arrangements ≡ set d.arrangements n (Some b)) × IsInserted times a b batch)
      → batch.updates ≢ [] → (p : Dataflow) → IsNextBatch times p d n batch → IsPutAway times p n batch d (record d { arrangements = arrangements })
  put_away_by arrangements inserted some p next =
      let x = inserted next.arrangement next.there in
      subst (λ xs. IsPutAway times p n batch d (record d { arrangements = xs })) (sym x.1) (put_in times p d n batch next next.arrangement next.there x.0 x.2 some)

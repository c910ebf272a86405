-- Frontiers that a tally finds are those of what is outstanding, since it counts just that.
use Rattle.std.proofs.Common.{◌≡◌, Bool, List, Result, Ok, Err, sym, ◌∙◌}
use Rattle.std.specs.Result.{IfOk}
use Rattle.lattice.specs.Times.{Times}
use Rattle.lattice.specs.Order.{PartialOrderLaws}
use Rattle.lattice.specs.Frontiers.{is_beyond}
use Rattle.antichain.specs.Antichains.{least, SameElements}
use Rattle.antichain.proofs.InsertionLemmas.{least_beyond}
use Rattle.progress.specs.declared.place.Place.{Place}
use Rattle.progress.specs.declared.counted.Counted.{Counted}
use Rattle.progress.specs.Tallies.{SameCounts, times_where}
use Rattle.progress.proofs.CountLemmas.{counts_tell}
use Rattle.progress.proofs.FrontierLemmas.{least_counted}

module _ {T : Type 0} (times : Times T) (o : PartialOrderLaws times) (test : Place → Bool) (counted there : List (Counted T)) (same : SameCounts counted there) where
  pub found_there : (found : List T) → SameElements found (least times (times_where test counted)) → SameElements found (least times (times_where test there))
  found_there found h =
      let k = least_counted times o test counted there same in
      record { into = λ t c. k.into t (h.into t c); back = λ t c. h.back t (k.back t c) }

  pub beyond_there : (t : T) → is_beyond times (least times (times_where test counted)) t ≡ is_beyond times (least times (times_where test there)) t
  beyond_there t = least_beyond o (times_where test counted) t ∙ (counts_tell times test counted there same t ∙ sym (least_beyond o (times_where test there) t))

-- what follows from a fact of an answer is a fact of the answer
pub if_ok : {T E : Type 0} (r : Result T E) (P Q : T → Type 0) → ((x : T) → P x → Q x) → IfOk r P → IfOk r Q
if_ok (Ok x) P Q f h = f x h
if_ok (Err e) P Q f h = tt

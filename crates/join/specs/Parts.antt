-- Parts of a list, and their totals. A sum that goes on update by update may meet the total of any
-- part on its way.
use Rattle.std.specs.Prelude.{List, ◌++◌}
use Rattle.std.specs.List.Sorted.{IsPermutation}
use Rattle.update.specs.Updates.{HasLargeTotal}
use Rattle.update.specs.declared.change.Update.{Update}
use Rattle.lattice.specs.Times.{Times}

module _ {T : Type 0} where
  -- part is a part of us: with the rest it has the elements of us
  abbrev pub ArePartOf : List (Update T) → List (Update T) → Type 0
  ArePartOf part us = (rest : List (Update T)) × IsPermutation (part ++ rest) us

  -- over some part of the updates, the total of some row at some time is no 64-bit number; a single
  -- update is a part too
  pub record HasLargePart (times : Times T) (us : List (Update T)) : Type 0 where
    pub part : List (Update T)
    pub within : ArePartOf part us
    pub large : HasLargeTotal times part

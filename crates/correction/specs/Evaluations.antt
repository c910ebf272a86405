-- From one time of a key to the next: what was evaluated last, and what of it changes.
use Rattle.std.specs.Prelude.{◌≡◌, ◌&&◌, not, List, ◌++◌, ℤ, ◌+ℤ◌, neg_ℤ, IsTrue, length, map}
use Rattle.std.specs.List.{filter, list_all}
use Rattle.update.specs.Bags.{Entry, Alike, IsBag, count_of}
use Rattle.update.specs.Updates.{as_of}
use Rattle.update.specs.declared.change.Update.{Update}
use Rattle.plan.specs.Reductions.{has_key}
use Rattle.plan.specs.Operators.{negated_entry}
use Rattle.correction.specs.declared.evaluation.Evaluation.{Evaluation}
use Rattle.correction.specs.Corrections.{put}
use Rattle.lattice.specs.Times.{Times}

-- entries were appended at a time, and these are the same bag
abbrev pub Appends : {T : Type 0} → T → List (Update T) → List (Update T) → List Entry → Type 0
Appends t old new es = (entries : List Entry) × (new ≡ old ++ put t entries) × Alike entries es

-- some entries of both lists were read, and these ones add up to what they change
abbrev pub Moves : (want had entries want_left had_left : List Entry) → Type 0
Moves want had entries want_left had_left = (row : List ℤ)
    → count_of entries row +ℤ (count_of want_left row +ℤ neg_ℤ (count_of had_left row))
    ≡ count_of want row +ℤ neg_ℤ (count_of had row)

-- what a reducer answers for these rows of a key, however they are written
pub record IsAnswerFor (reduce : List ℤ → List Entry → List Entry) (key : List ℤ) (rows answer : List Entry) : Type 0 where
  pub value : (entries : List Entry) → Alike rows entries → Alike answer (reduce key entries)
  pub bag : IsBag answer
  pub keyed : IsTrue (list_all (has_key (length key) key) answer)

module _ {T : Type 0} (times : Times T) where
  -- the updates at or before one time but not at or before another
  abbrev pub between : T → T → List (Update T) → List (Update T)
  between after upto us = filter (λ u. times.below u.time upto && not (times.below u.time after)) us

  -- at its time the answer of the evaluation is the sum of what was given
  abbrev pub IsEvaluation : List (Update T) → Evaluation T → Type 0
  IsEvaluation given e = Alike e.answer (as_of times e.time given)

  -- at the time this is what the reducer makes of the updates of a key's rows
  abbrev pub IsAnswer : (List ℤ → List Entry → List Entry) → List ℤ → List (Update T) → T → List Entry → Type 0
  IsAnswer reduce key rows t answer =
      (entries : List Entry) → Alike (as_of times t rows) entries → Alike answer (reduce key entries)

  -- the draft has entries at the time, which add up to what is wanted less what was given up to it
  pub record IsDraft (t : T) (want : List Entry) (given draft : List (Update T)) : Type 0 where
    pub entries : List Entry
    pub draft_is : draft ≡ put t entries
    pub adds_up : Alike entries (want ++ map negated_entry (as_of times t given))

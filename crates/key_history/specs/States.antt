-- What a contract sees of the history of a key.
use Rattle.std.specs.Prelude.{◌-◌, ℕ, List, ◌++◌, ℤ, length, take}
use Rattle.update.specs.declared.change.Update.{Update}

-- a key, its joined times, which of them are pending, and what was given of it
pub record HistoryState (T : Type 0) : Type 0 where
  pub key : List ℤ
  pub times : List T
  pub due : List T
  pub given : List (Update T)

module _ {T : Type 0} where
  -- a history after more was given of its key
  abbrev pub given_more : List (Update T) → HistoryState T → HistoryState T
  given_more more h = record h { given = h.given ++ more }

  -- a history without the last `many` updates that were given
  abbrev pub given_less : ℕ → HistoryState T → HistoryState T
  given_less many h = record h { given = take (length h.given - many) h.given }

  -- a history of which these times are still pending
  abbrev pub due_left : List T → HistoryState T → HistoryState T
  due_left due h = record h { due = due }

  -- a history with other joined times and pending ones
  abbrev pub times_put : List T → List T → HistoryState T → HistoryState T
  times_put ts due h = record h { times = ts; due = due }

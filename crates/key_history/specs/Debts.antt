-- What a reduction owes of one key, in whole numbers without bounds. It is why a call may be
-- refused for a number that is too large.
use Rattle.std.specs.Prelude.{◌≡◌, ℕ, true, false, List, ℤ, IsTrue}
use Rattle.std.specs.List.{list_all}
use Rattle.update.specs.Bags.{Entry}
use Rattle.update.specs.Updates.{AreApart}
use Rattle.update.specs.declared.change.Update.{Update}
use Rattle.plan.specs.Changes.{has_passed}
use Rattle.joined_times.specs.Joined.{Member, of_key}
use Rattle.correction.specs.Corrections.{IsRight, IsTooMuch}
use Rattle.lattice.specs.Times.{Times}

module _ {T : Type 0} (times : Times T) where
  -- updates of one key up to some step of a computation, each at a time that the frontier has
  -- passed: at or before each of their times they sum to what the reducer makes of what was taken
  pub record IsOwed (k : ℕ) (reduce : List ℤ → List Entry → List Entry) (taken : List (Update T)) (key : List ℤ)
      (front : List T) (us : List (Update T)) : Type 0 where
    pub keyed : IsTrue (list_all (of_key k key) us)
    pub apart : AreApart times us
    pub passed : IsTrue (list_all (λ u. has_passed times front u.time) us)
    pub sums : (u : Update T) → Member u us → (t : T) → times.below t u.time ≡ true → IsRight times k reduce taken us key t

  -- at a time that the frontier has passed, after these updates of a key and with all that is owed
  -- of it before the time, a number is too large
  pub record IsOverfullAt (k : ℕ) (reduce : List ℤ → List Entry → List Entry) (taken : List (Update T)) (front : List T)
      (key : List ℤ) (t : T) (us : List (Update T)) : Type 0 where
    pub passed : IsTrue (has_passed times front t)
    pub owed : IsOwed k reduce taken key front us
    pub before : (s : T) → times.below s t ≡ true → times.below t s ≡ false → IsRight times k reduce taken us key s
    pub large : IsTooMuch times k reduce taken us key t

  -- so for some key, at some time and after some updates
  abbrev pub IsOverfull : ℕ → (List ℤ → List Entry → List Entry) → List (Update T) → List T → Type 0
  IsOverfull k reduce taken front =
      (key : List ℤ) × (t : T) × (us : List (Update T)) × IsOverfullAt k reduce taken front key t us

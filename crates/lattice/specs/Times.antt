-- What definitions need of a type of times, in one record. Each implementation of the traits of
-- timestamps gives one; the traits promise that its members are what their names say.
use Rattle.std.specs.Prelude.{Bool}

pub record Times (T : Type 0) : Type 0 where
  -- the first time is at or before the second
  pub below : T → T → Bool
  -- the least time at or after both
  pub joined : T → T → T
  -- the greatest time at or before both
  pub met : T → T → T
  -- the least time
  pub least : T

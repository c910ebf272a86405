-- The lattice with only one time: its laws, and updates moved to it.
use Rattle.std.specs.Prelude.{true, refl}
use Rattle.std.specs.declared.cmp.Ordering.TheVariants.{Equal}
use Rattle.lattice.specs.Times.{Times}
use Rattle.lattice.specs.Order.{PartialOrderLaws, LatticeLaws, ExtendsLaws}
use Rattle.update.specs.declared.change.Update.{Update}
use Rattle.update.specs.declared.unit_time.UnitTime.{UnitTime}

-- the one time is at or before itself, and its own join and meet
abbrev pub unit_times : Times UnitTime
unit_times = record { below = λ _ _. true; joined = λ t _. t; met = λ t _. t; least = record {} }

-- the one time is partially ordered
pub unit_order : PartialOrderLaws unit_times
unit_order = record {
  reflexive = λ t. refl;
  transitive = λ t u v h k. refl;
  antisymmetric = λ t u h k. refl;
}

-- the one time is its own join and meet
pub unit_bounds : LatticeLaws unit_times
unit_bounds = record {
  join_left = λ t u. refl;
  join_right = λ t u. refl;
  join_least = λ t u v h k. refl;
  meet_left = λ t u. refl;
  meet_right = λ t u. refl;
  meet_greatest = λ t u v h k. refl;
}

-- the order of sorting extends the partial order
pub unit_extends : ExtendsLaws unit_times (λ _ _. Equal)
unit_extends = record { extends = λ t u h. refl; exact = λ t u e. refl }

-- the update, moved to the one time
abbrev pub at_unit_time : {T : Type 0} → Update T → Update UnitTime
at_unit_time u = record { time = record {}; row = u.row; diff = u.diff }

use Rattle.std.proofs.Common.{refl}
use Rattle.histories.proofs.HistoryLemmas.WitnessLemmas.{counting_flows, listing_flows, copying_flows, joining_plan, doubling_plan, linear_plan, distinct_gives, cut_in_two, allow_legal, in_flight_fronts, held_fronts, gone_fronts, quiet_while_held, stamp_of_three, stamp_of_one, product_bound, doubled_bounds, linear_bounds}
use Rattle.histories.proofs.witnesses.definitions_fit_examples.Goals as goal

pub returns : goal.returns
returns c = record {
  dataflows = (counting_flows, listing_flows, copying_flows);
  plans = (joining_plan, doubling_plan, linear_plan);
  distinct = distinct_gives;
  cut_in_two = cut_in_two;
  allow = allow_legal;
  allowed = refl;
  in_flight = in_flight_fronts;
  held = held_fronts;
  gone = gone_fronts;
  quiet = quiet_while_held;
  stamp = stamp_of_three;
  stamp_of_one = stamp_of_one;
  home = refl;
  product = product_bound;
  doubled = doubled_bounds;
  linear = linear_bounds;
  from_start = refl;
  given_up = refl;
}

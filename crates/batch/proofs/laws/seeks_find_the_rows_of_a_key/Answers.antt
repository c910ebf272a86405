use Rattle.batch.proofs.SeekLemmas.{found_is_filter, front_left_out}
use Rattle.batch.proofs.laws.seeks_find_the_rows_of_a_key.Goals as goal

pub returns : goal.returns
returns g c = record {
  found = found_is_filter;
  all = front_left_out;
}

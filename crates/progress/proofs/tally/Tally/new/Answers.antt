use Rattle.std.proofs.Common.{◌<◌, sym, subst, ◌∙◌}
use Rattle.std.proofs.lemmas.Bool.{false≢true}
use Rattle.progress.proofs.MarkLemmas.{mark_at}
use Rattle.progress.proofs.tally.Tally.new.Goals as goal

pub invariant_of-result : goal.invariant_of-result
invariant_of-result g c = record {
  plan = c.len-2.ensures.plan;
  len = c.in_ok-table.ensures.len ∙ c.len-2.ensures.len;
  current = λ n d l unmarked. absurd (false≢true (sym unmarked ∙ (sym (mark_at c.in_ok-table.table n d l) ∙ c.in_ok-table.ensures.marked n (subst (λ z. n < z) c.in_ok-table.ensures.len l))));
}

use Rattle.std.proofs.Common.{◌<◌, sym, subst, ◌∙◌}
use Rattle.progress.specs.Kept.{AreAsked}
use Rattle.progress.proofs.AskedLemmas.{asked_none}
use Rattle.progress.proofs.MarkLemmas.{mark_at}
use Rattle.progress.proofs.table.Table.new.Goals as goal

pub invariant_of-result : goal.invariant_of-result
invariant_of-result g c =
    subst (λ xs. AreAsked xs c.in_ok-kept.kept.items) (sym c.new-asked.ensures.items)
    (asked_none c.in_ok-kept.kept.items (λ n d l. sym (mark_at c.in_ok-kept.kept.items n d l) ∙ c.in_ok-kept.ensures.marked n (subst (λ z. n < z) c.in_ok-kept.ensures.len l)))

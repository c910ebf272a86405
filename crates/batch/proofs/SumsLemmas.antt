-- Lists with equal totals have equal sums.
use Rattle.std.proofs.Common.{◌≡◌, Bool, ◌&&◌, List, ℤ, sym, ◌∙◌}
use Rattle.update.specs.declared.change.Update.{Update}
use Rattle.update.specs.Bags.{same_row, Alike}
use Rattle.update.specs.Updates.{as_of, total_where}
use Rattle.update.proofs.UniqueLemmas.{count_as_of}
use Rattle.lattice.specs.Times.{Times}

-- lists with the same totals have alike sums at every time; contracts speak of totals, and readers
-- need sums
pub sums_from_totals : {T : Type 0} (times : Times T) (us vs : List (Update T)) → ((p : List ℤ → T → Bool) → total_where p us ≡ total_where p vs) → (t : T) → Alike (as_of times t us) (as_of times t vs)
sums_from_totals times us vs same t row =
    count_as_of times row t us ∙ same (λ r s. same_row r row && times.below s t) ∙ sym (count_as_of times row t vs)

use Rattle.std.proofs.Common.{pos, refl, arith}
use Rattle.std.specs.Cmp.{int_cmp_total}
use Rattle.std.specs.Cmp.Lexicographic.{lists_ties, lists_total}
use Rattle.std.specs.Ordering.{int_cmp}
use Rattle.std.proofs.lemmas.List.{length-replicate}
use Rattle.std.proofs.lemmas.List.Filters.{dedup_is}
use Rattle.std.proofs.lemmas.List.Kept.{IsStrictlySortedBy-dedup}
use Rattle.update.specs.Bags.{same_row}
use Rattle.reducer.proofs.TallyLemmas.{none_counted, tallied_among, sorted_among}
use Rattle.reducer.proofs.tally.Tally.of.Goals as goal

pub invariant_of-result : goal.invariant_of-result
invariant_of-result g c =
    let is = dedup_is same_row c.sort_unstable.new.self.items c.dedup.new.self.items c.dedup.ensures.filtered in
    record {
      lengths = rw c.in_ok-counts.ensures.counts (let many = length-replicate c.len.result (pos 0) in omega (arith, many, c.len.ensures));
      ascending = rw is (IsStrictlySortedBy-dedup (lists_total int_cmp_total) (λ a b. lists_ties int_cmp (λ x y. refl) a b) c.sort_unstable.new.self.items c.sort_unstable.ensures.sorted);
    }

pub returns-clause-nothing : goal.returns-clause-nothing
returns-clause-nothing g c = rw c.in_ok-counts.ensures.counts (none_counted c.dedup.new.self.items c.len.result)

pub returns-clause-among : goal.returns-clause-among
returns-clause-among g c p all =
    let is = dedup_is same_row c.sort_unstable.new.self.items c.dedup.new.self.items c.dedup.ensures.filtered in
    tallied_among p c.dedup.new.self.items c.in_ok-counts.counts.items
    (rw is (sorted_among same_row p c.args.updates.now c.sort_unstable.new.self.items (rw c.in_ok-rows.ensures.rows at c.sort_unstable.ensures.permutation) all))

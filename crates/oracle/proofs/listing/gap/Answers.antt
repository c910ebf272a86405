use Rattle.std.proofs.Common.{◌≡◌, ◌∙◌, ◌++◌, List, ℤ, ap}
use Rattle.std.specs.Prelude.{◌+ℤ◌}
use Rattle.update.specs.Bags.{HasLargeCount, count_of}
use Rattle.update.specs.Updates.{as_of}
use Rattle.update.specs.Refusals.{IsMemoryOrOverflow}
use Rattle.oracle.specs.Listing.{HasLargeGap}
use Rattle.oracle.proofs.ListingLemmas.{large_gap}
use Rattle.oracle.proofs.ResultLemmas.{err_more, refused_by}
use Rattle.oracle.proofs.listing.gap.Goals as goal

pub returns-clause-refused : goal.returns-clause-refused
returns-clause-refused g c =
    let times = g.T.PartialOrder.times in
    let t = c.args.t in
    let us = c.args.listed.now in
    let bag = c.args.bag.now in
    let entries = c.put_listed.new.entries in
    let whole : c.put_all.new.entries ≡ bag = c.in_ok-put_all.ensures.all ∙ ap (λ items. items ++ bag) c.new-entries.ensures in
    let counts : (r : List ℤ) → count_of c.put_listed.new.entries r +ℤ count_of (as_of times t us) r ≡ count_of bag r = λ r. c.in_ok-put_listed.ensures.counts r ∙ ap (λ es. count_of es r) whole in
    err_more (IsMemoryOrOverflow (HasLargeCount entries)) (IsMemoryOrOverflow (HasLargeGap times t bag us))
    (λ e refused. refused_by (HasLargeCount entries) (HasLargeGap times t bag us) e (large_gap times t entries bag us counts) refused)
    c.into_bag.result c.into_bag.ensures.refused

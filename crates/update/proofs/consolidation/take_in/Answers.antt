use Rattle.std.proofs.Common.{true, false, slice_index_or, w64, rules}
use Rattle.std.specs.Prelude.{FitsSigned}
use Rattle.update.proofs.TakeLemmas.{same_read, sum_read, diff_read_wide, total_kept}
use Rattle.update.proofs.GatherLemmas.{group_grow, fit_grow, fit_grown, group_begin, fit_begin, fit_begun}
use Rattle.update.proofs.consolidation.take_in.Goals as goal

pub returns-then-are_same-clause-gathered : goal.returns-then-are_same-clause-gathered
returns-then-are_same-clause-gathered g c d more =
    let cmp = g.T.Ord.cmp in
    let us = c.args.updates.now in
    let i = c.args.run.at in
    let j = c.args.next in
    let n = c.args.run.total in
    let u = slice_index_or us i d in
    let v = slice_index_or us j d in
    let same = same_read us i j c.requires.before c.requires.within cmp _ _ d _ true c.index-updates-run.is c.index-updates-next-2.is c.are_same.ensures c.if-are_same.true in
    let fits : FitsSigned w64 c.index-updates-next.result.diff = search rules in
    let fits_read : FitsSigned w64 c.from-diff.result = search rules in
    let sum = sum_read us i j c.requires.before c.requires.within n _ d c.from-diff.result c.index-updates-next.is fits fits_read c.from-diff.ensures c.requires.small c.ranges.next.fits in
    group_grow cmp u v n _ more _ same sum

pub returns-then-are_same-clause-fits : goal.returns-then-are_same-clause-fits
returns-then-are_same-clause-fits g c d more all =
    let cmp = g.T.Ord.cmp in
    let us = c.args.updates.now in
    let i = c.args.run.at in
    let j = c.args.next in
    let n = c.args.run.total in
    let u = slice_index_or us i d in
    let v = slice_index_or us j d in
    let same = same_read us i j c.requires.before c.requires.within cmp _ _ d _ true c.index-updates-run.is c.index-updates-next-2.is c.are_same.ensures c.if-are_same.true in
    let fits : FitsSigned w64 c.index-updates-next.result.diff = search rules in
    let fits_read : FitsSigned w64 c.from-diff.result = search rules in
    let sum = sum_read us i j c.requires.before c.requires.within n _ d c.from-diff.result c.index-updates-next.is fits fits_read c.from-diff.ensures c.requires.small c.ranges.next.fits in
    fit_grow cmp u v n _ more same sum all

pub returns-then-are_same-clause-so_far : goal.returns-then-are_same-clause-so_far
returns-then-are_same-clause-so_far g c d more all =
    let cmp = g.T.Ord.cmp in
    let us = c.args.updates.now in
    let i = c.args.run.at in
    let j = c.args.next in
    let n = c.args.run.total in
    let u = slice_index_or us i d in
    let v = slice_index_or us j d in
    let same = same_read us i j c.requires.before c.requires.within cmp _ _ d _ true c.index-updates-run.is c.index-updates-next-2.is c.are_same.ensures c.if-are_same.true in
    let fits : FitsSigned w64 c.index-updates-next.result.diff = search rules in
    let fits_read : FitsSigned w64 c.from-diff.result = search rules in
    let sum = sum_read us i j c.requires.before c.requires.within n _ d c.from-diff.result c.index-updates-next.is fits fits_read c.from-diff.ensures c.requires.small c.ranges.next.fits in
    fit_grown cmp u v n _ more same sum all

pub returns-clause-gathered : goal.returns-clause-gathered
returns-clause-gathered g c d more =
    let cmp = g.T.Ord.cmp in
    let us = c.args.updates.now in
    let i = c.args.run.at in
    let j = c.args.next in
    let n = c.args.run.total in
    let u = slice_index_or us i d in
    let v = slice_index_or us j d in
    let apart = same_read us i j c.requires.before c.requires.within cmp _ _ d _ false c.index-updates-run.is c.index-updates-next-2.is c.are_same.ensures c.if-are_same.false in
    let fits : FitsSigned w64 c.index-updates-next.result.diff = search rules in
    let fits_read : FitsSigned w64 c.from-diff.result = search rules in
    let diff = diff_read_wide us i j c.requires.before c.requires.within _ d c.from-diff.result c.index-updates-next.is fits fits_read c.from-diff.ensures in
    let total = total_kept n j c.requires.small c.ranges.next.fits in
    group_begin cmp u v _ n _ more _ _ apart (c.in_ok-at.ensures.first d) diff (rw total at (c.in_ok-at.ensures.settled d))

pub returns-clause-fits : goal.returns-clause-fits
returns-clause-fits g c d more all =
    let cmp = g.T.Ord.cmp in
    let us = c.args.updates.now in
    let i = c.args.run.at in
    let j = c.args.next in
    let n = c.args.run.total in
    let u = slice_index_or us i d in
    let v = slice_index_or us j d in
    let apart = same_read us i j c.requires.before c.requires.within cmp _ _ d _ false c.index-updates-run.is c.index-updates-next-2.is c.are_same.ensures c.if-are_same.false in
    let fits : FitsSigned w64 c.index-updates-next.result.diff = search rules in
    let fits_read : FitsSigned w64 c.from-diff.result = search rules in
    let diff = diff_read_wide us i j c.requires.before c.requires.within _ d c.from-diff.result c.index-updates-next.is fits fits_read c.from-diff.ensures in
    fit_begin cmp u v _ n _ more apart (c.in_ok-at.ensures.first d) diff all

pub returns-clause-so_far : goal.returns-clause-so_far
returns-clause-so_far g c d more all =
    let cmp = g.T.Ord.cmp in
    let us = c.args.updates.now in
    let i = c.args.run.at in
    let j = c.args.next in
    let n = c.args.run.total in
    let u = slice_index_or us i d in
    let v = slice_index_or us j d in
    let apart = same_read us i j c.requires.before c.requires.within cmp _ _ d _ false c.index-updates-run.is c.index-updates-next-2.is c.are_same.ensures c.if-are_same.false in
    let fits : FitsSigned w64 c.index-updates-next.result.diff = search rules in
    let fits_read : FitsSigned w64 c.from-diff.result = search rules in
    let diff = diff_read_wide us i j c.requires.before c.requires.within _ d c.from-diff.result c.index-updates-next.is fits fits_read c.from-diff.ensures in
    let total = total_kept n j c.requires.small c.ranges.next.fits in
    fit_begun cmp u v _ n _ more apart (c.in_ok-at.ensures.first d) diff (rw total at c.in_ok-at.ensures.fits) all

use Rattle.std.proofs.Common.{◌≡◌, ◌≤◌, ◌<◌, ◌*◌, ◌^◌, ◌++◌, length, take, drop, slice_index_or}
use Rattle.std.specs.Prelude.{unsigned_abs}
use Rattle.update.specs.declared.change.Update.{Update}
use Rattle.update.specs.Groups.{group_sums, groups_of, groups_from, AllFit}
use Rattle.update.proofs.consolidation.gather.Given as goal

-- the groups that are finished, with those of the current group and of the updates still to come,
-- are all groups
abbrev pub invariant-loop-next : goal.invariant-loop-next
invariant-loop-next g l =
    let cmp = g.T.Ord.cmp in
    let all = l.initial.updates in
    record {
      before : l.run.at < l.next;
      long : length l.updates ≡ length all;
      rest : drop l.next l.updates ≡ drop l.next all;
      gathered : (d : Update g.row.T.Denot) → take l.run.at l.updates ++ group_sums (groups_of cmp (slice_index_or l.updates l.run.at d) l.run.total (drop l.next all)) ≡ group_sums (groups_from cmp all);
      fits : (d : Update g.row.T.Denot) → AllFit (groups_from cmp all) → AllFit (groups_of cmp (slice_index_or l.updates l.run.at d) l.run.total (drop l.next all));
      so_far : (d : Update g.row.T.Denot) → AllFit (groups_of cmp (slice_index_or l.updates l.run.at d) l.run.total (drop l.next all)) → AllFit (groups_from cmp all);
      small : unsigned_abs l.run.total ≤ l.next * 2 ^ 63;
    }

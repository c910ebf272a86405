use Rattle.std.proofs.Common.{[]}
use Rattle.joined_times.specs.Additions.{IsMerging}
use Rattle.joined_times.proofs.OrderLemmas.{ends, merged_ascending, merged_members}
use Rattle.joined_times.proofs.times.merged.Given.{Over}
use Rattle.joined_times.proofs.times.merged.Goals as goal

-- at the end of the merge nothing is left to come
all_merged : (g : Over) (c : goal.In_ok-extend_from_slice-2 g) → IsMerging g.T.Ord.cmp c.args.xs.now c.args.ys.now c.extend_from_slice-2.new.self.items [] []
all_merged g c =
    ends g.met.T.Ord.total c.in_ok-at.at.left c.in_ok-at.at.right c.in_ok-at.ensures.ended c.in_ok-extend_from_slice.ensures.items c.in_ok-extend_from_slice-2.ensures.items c.in_ok-at.ensures.merging

pub returns-clause-members : goal.returns-clause-members
returns-clause-members g c = merged_members (all_merged g c)

pub returns-clause-ascending : goal.returns-clause-ascending
returns-clause-ascending g c = merged_ascending (all_merged g c)

use Rattle.std.proofs.Common.{map}
use Rattle.joined_times.specs.Joined.{Member}
use Rattle.joined_times.proofs.MemberLemmas.{through, back, in_each, itself}
use Rattle.joined_times.proofs.AdditionLemmas.{empty_parts}
use Rattle.joined_times.proofs.times.parts_of.Goals as goal

pub returns-clause-members : goal.returns-clause-members
returns-clause-members g c s =
    through (in_each (back (c.keep_once.ensures.members s)) itself)
    (through (c.in_ok-push_parts.ensures.members s)
    (empty_parts s c.in_ok-within.within.items c.new-beyond.result.items (Member s (map (λ r. g.T.PartialOrder.times.joined r c.args.bounds.meet) c.args.near.now)) c.in_ok-within.ensures.items c.new-beyond.ensures.items))

use Rattle.std.proofs.Common.{◌↔◌, subst, sym}
use Rattle.joined_times.specs.Joined.{Member}
use Rattle.joined_times.specs.Additions.{IsFreshBy, SameMembers}
use Rattle.joined_times.proofs.MemberLemmas.{through, in_each, itself}
use Rattle.joined_times.proofs.AdditionLemmas.{fresh_all}
use Rattle.joined_times.proofs.times.with_times.Given.{Over}
use Rattle.joined_times.proofs.times.with_times.Goals as goal

-- the new times, each once, as they were passed
same_new : (g : Over) (c : goal.After-drop-distinct-2 g) → SameMembers c.args.new.now c.deref.result.now
same_new g c =
    let sorted : SameMembers c.args.new.now c.keep_once.new.times.items = subst (λ ts. SameMembers ts c.keep_once.new.times.items) c.in_ok-distinct.ensures.items c.keep_once.ensures.members in
    subst (SameMembers c.args.new.now) (sym c.deref.ensures.value) sorted

-- what was appended, each once, are the fresh times
fresh : (g : Over) (c : goal.After-drop-distinct-2 g) (t : _) → Member t c.keep_once-2.new.times.items ↔ IsFreshBy g.T.PartialOrder.times c.args.new.now c.args.times.now t
fresh g c =
    fresh_all g.met.T.PartialOrder.order g.met.T.Lattice.bounds c.args.times.now c.deref.result.now c.args.new.now c.new-fresh.result.items c.push_fresh.new.fresh.items c.keep_once-2.new.times.items
    (same_new g c) c.new-fresh.ensures.items c.in_ok-push_fresh.ensures.appended c.keep_once-2.ensures.members

pub returns-clause-times : goal.returns-clause-times
returns-clause-times g c t =
    let is : Member t c.deref-2.result.now ↔ IsFreshBy g.T.PartialOrder.times c.args.new.now c.args.times.now t = subst (λ xs. Member t xs ↔ IsFreshBy g.T.PartialOrder.times c.args.new.now c.args.times.now t) (sym c.deref-2.ensures.value) (fresh g c t) in
    through (c.in_ok-merged.ensures.members t) (in_each itself is)

pub returns-clause-due : goal.returns-clause-due
returns-clause-due g c t =
    let is : Member t c.deref-3.result.now ↔ IsFreshBy g.T.PartialOrder.times c.args.new.now c.args.times.now t = subst (λ xs. Member t xs ↔ IsFreshBy g.T.PartialOrder.times c.args.new.now c.args.times.now t) (sym c.deref-3.ensures.value) (fresh g c t) in
    through (c.in_ok-merged-2.ensures.members t) (in_each itself is)

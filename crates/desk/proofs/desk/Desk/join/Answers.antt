use Rattle.std.proofs.Common.{rules, ◌≡◌, ap, subst, ◌∙◌}
use Rattle.update.specs.Refusals.{IsMemoryOrOverflow}
use Rattle.plan.specs.Nodes.{node_at}
use Rattle.plan.specs.declared.node.Node.TheVariants.{Join}
use Rattle.join.specs.declared.side.Side.TheVariants.{Left, Right}
use Rattle.histories.specs.Histories.{state_after}
use Rattle.histories.specs.Histories.Dataflows.{node_of}
use Rattle.histories.specs.Histories.Promises.{changes_in}
use Rattle.shared_board.specs.Large.{HasNoSmallBound}
use Rattle.desk_laws.specs.declared.hand.Hand.TheVariants.{Ready, Taken}
use Rattle.desk.specs.Desks.{IsTooLarge, Leads}
use Rattle.desk.specs.Joinings.{IsJoinedWith}
use Rattle.desk.proofs.JoinCauseLemmas.{left_large, right_large}
use Rattle.desk.proofs.JoinLemmas.{before, joined_left, joined_right, next_left, next_right, second_port}
use Rattle.desk.proofs.ResultLemmas.{if_err_from, if_ok_back, if_ok_from, memory_or}
use Rattle.desk.proofs.desk.Desk.join.Goals as goal

pub join_side-requires : goal.join_side-requires
join_side-requires g c =
    let times = g.T.PartialOrder.times in
    let s = c.requires.someones in
    let p = s.dataflow in
    let q = s.is in
    let w = state_after times p s.events in
    let k = s.worker in
    let d = c.args.self.now in
    let bundle = c.args.bundle.now in
    let more = c.args.more in
    let l = c.args.left in
    let r = c.args.right in
    let e : node_of p bundle.place.node ≡ Join l r = ap (λ z. node_at z bundle.place.node) s.nodes ∙ c.requires.joins in
    let b = before times p q w k d bundle more l r e s.right in
    (search rules, (b.join, b.there, next_left times p q w k d bundle more l r e s.right b.join b.there g.met.T.PartialOrder.order c.if-bundle-eq0.true))

pub returns-then-bundle-eq0-clause-leads : goal.returns-then-bundle-eq0-clause-leads
returns-then-bundle-eq0-clause-leads g c =
    let times = g.T.PartialOrder.times in
    let d = c.args.self.now in
    let bundle = c.args.bundle.now in
    let more = c.args.more in
    let l = c.args.left in
    let r = c.args.right in
    if_ok_from c.join_side.result (λ out. Leads times c.args.plan.now d (Taken bundle more) c.join_side.new.self (Ready bundle.place.node out.items)) (λ out f p q nodes es legal k x.
    let w = state_after times p es in
    let e : node_of p bundle.place.node ≡ Join l r = ap (λ z. node_at z bundle.place.node) nodes ∙ c.requires.joins in
    joined_left times p q w k d bundle more l r e x g.met.T.PartialOrder.order g.met.T.Ord.total c.if-bundle-eq0.true c.join_side.new.self out.items
    (if_ok_back c.join_side.result (λ out. IsJoinedWith times g.T.Ord.cmp Left bundle.place.node l r bundle.updates out.items d c.join_side.new.self) out f c.join_side.ensures.joined))

pub returns-then-bundle-eq0-clause-refused : goal.returns-then-bundle-eq0-clause-refused
returns-then-bundle-eq0-clause-refused g c =
    let times = g.T.PartialOrder.times in
    let cmp = g.T.Ord.cmp in
    let d = c.args.self.now in
    let bundle = c.args.bundle.now in
    let more = c.args.more in
    let l = c.args.left in
    let r = c.args.right in
    if_err_from c.join_side.result _ (IsMemoryOrOverflow (IsTooLarge times cmp c.args.plan.now d (Taken bundle more))) (λ refusal refused. memory_or (λ large p q nodes es legal k x.
    let w = state_after times p es in
    let e : node_of p bundle.place.node ≡ Join l r = ap (λ z. node_at z bundle.place.node) nodes ∙ c.requires.joins in
    let b = before times p q w k d bundle more l r e x in
    subst (λ z. HasNoSmallBound times cmp z (changes_in w)) nodes
    (left_large times g.met.T.PartialOrder.order cmp p q es legal k d bundle more l r e x b.join b.there c.if-bundle-eq0.true (large b.join b.there))) refused) c.join_side.ensures.refused

pub join_side-requires-2 : goal.join_side-requires-2
join_side-requires-2 g c =
    let times = g.T.PartialOrder.times in
    let s = c.requires.someones in
    let p = s.dataflow in
    let q = s.is in
    let w = state_after times p s.events in
    let k = s.worker in
    let d = c.args.self.now in
    let bundle = c.args.bundle.now in
    let more = c.args.more in
    let l = c.args.left in
    let r = c.args.right in
    let e : node_of p bundle.place.node ≡ Join l r = ap (λ z. node_at z bundle.place.node) s.nodes ∙ c.requires.joins in
    let b = before times p q w k d bundle more l r e s.right in
    (search rules, (b.join, b.there, next_right times p q w k d bundle more l r e s.right b.join b.there g.met.T.PartialOrder.order (second_port times p q w k d bundle more l r e s.right c.if-bundle-eq0.false)))

pub returns-clause-leads : goal.returns-clause-leads
returns-clause-leads g c =
    let times = g.T.PartialOrder.times in
    let d = c.args.self.now in
    let bundle = c.args.bundle.now in
    let more = c.args.more in
    let l = c.args.left in
    let r = c.args.right in
    if_ok_from c.join_side-2.result (λ out. Leads times c.args.plan.now d (Taken bundle more) c.join_side-2.new.self (Ready bundle.place.node out.items)) (λ out f p q nodes es legal k x.
    let w = state_after times p es in
    let e : node_of p bundle.place.node ≡ Join l r = ap (λ z. node_at z bundle.place.node) nodes ∙ c.requires.joins in
    joined_right times p q w k d bundle more l r e x g.met.T.PartialOrder.order g.met.T.Ord.total (second_port times p q w k d bundle more l r e x c.if-bundle-eq0.false) c.join_side-2.new.self out.items
    (if_ok_back c.join_side-2.result (λ out. IsJoinedWith times g.T.Ord.cmp Right bundle.place.node r l bundle.updates out.items d c.join_side-2.new.self) out f c.join_side-2.ensures.joined))

pub returns-clause-refused : goal.returns-clause-refused
returns-clause-refused g c =
    let times = g.T.PartialOrder.times in
    let cmp = g.T.Ord.cmp in
    let d = c.args.self.now in
    let bundle = c.args.bundle.now in
    let more = c.args.more in
    let l = c.args.left in
    let r = c.args.right in
    if_err_from c.join_side-2.result _ (IsMemoryOrOverflow (IsTooLarge times cmp c.args.plan.now d (Taken bundle more))) (λ refusal refused. memory_or (λ large p q nodes es legal k x.
    let w = state_after times p es in
    let e : node_of p bundle.place.node ≡ Join l r = ap (λ z. node_at z bundle.place.node) nodes ∙ c.requires.joins in
    let b = before times p q w k d bundle more l r e x in
    subst (λ z. HasNoSmallBound times cmp z (changes_in w)) nodes
    (right_large times g.met.T.PartialOrder.order cmp p q es legal k d bundle more l r e x b.join b.there (second_port times p q w k d bundle more l r e x c.if-bundle-eq0.false) (large b.join b.there))) refused) c.join_side-2.ensures.refused

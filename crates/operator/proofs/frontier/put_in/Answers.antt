use Rattle.std.proofs.Common.{◌≡◌, true, ◌++◌, ◌∷◌, [], List, ◌∙◌, ap, sym}
use Rattle.lattice.specs.Frontiers.{is_beyond}
use Rattle.antichain.proofs.InsertionLemmas.{beyond_already}
use Rattle.operator.proofs.FrontLemmas.{beyond_put}
use Rattle.operator.proofs.frontier.put_in.Goals as goal

pub returns-in_ok-push-clause-beyond : goal.returns-in_ok-push-clause-beyond
returns-in_ok-push-clause-beyond g c s =
    let times = g.T.PartialOrder.times in
    let items = c.in_ok-push.ensures.items ∙ ap (λ (xs : List g.row.T.Denot). xs ++ c.args.t ∷ []) c.drop_later.ensures in
    ap (λ (xs : List g.row.T.Denot). is_beyond times xs s) items ∙ beyond_put times g.met.T.PartialOrder.order c.args.t s c.args.front.now.items

pub returns-else-not-is_beyond-clause-beyond : goal.returns-else-not-is_beyond-clause-beyond
returns-else-not-is_beyond-clause-beyond g c s =
    let times = g.T.PartialOrder.times in
    let there : is_beyond times c.args.front.now.items c.args.t ≡ true =
    ap (λ (xs : List g.row.T.Denot). is_beyond times xs c.args.t) (sym c.as_slice.ensures.value) ∙ sym c.is_beyond.ensures ∙ c.if-not-is_beyond.false in
    beyond_already g.met.T.PartialOrder.order c.args.t s c.args.front.now.items there

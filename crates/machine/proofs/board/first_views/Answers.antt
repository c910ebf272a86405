use Rattle.std.proofs.Common.{◌≡◌, ◌++◌, ◌∷◌, [], replicate, ap, ◌∙◌, arith}
use Rattle.views.specs.Views.{ViewState}
use Rattle.outstanding.proofs.PutLemmas.{put_alike}
use Rattle.machine.proofs.board.first_views.Goals as goal

pub loop-node-preserved : goal.loop-node-preserved
loop-node-preserved g c =
    let i = c.loop-node in
    let first : ViewState g.row.T.Denot = record { since = g.T.PartialOrder.times.least ∷ []; captured = [] } in
    let since : c.into.result ≡ g.T.PartialOrder.times.least ∷ [] = c.into.ensures ∙ (c.in_ok-push.ensures.items ∙ (ap (λ ts. ts ++ c.minimum.result ∷ []) c.new-since.ensures.items ∙ ap (λ t. t ∷ []) c.minimum.ensures)) in
    put_alike i.views.items c.push-in-loop-node.new.self.items i._node first c.new.result (c.new.ensures ∙ (λ j. record { since = since j; captured = [] })) i.invariant c.in_ok-push-2.ensures.items

pub returns-clause-first : goal.returns-clause-first
returns-clause-first g c =
    let i = c.loop-node in
    let all : i._node ≡ c.args.nodes = omega (arith, c.loop-node-test.false, i.auto._node-end) in
    i.invariant ∙ ap (λ n. replicate n (record { since = g.T.PartialOrder.times.least ∷ []; captured = [] })) all

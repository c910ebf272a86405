use Rattle.std.proofs.Common.{◌<◌, ◌≤◌, length, get_or, subst, ap, ◌∙◌}
use Rattle.machine.proofs.BoardLemmas.RoutingLemmas.{edges_there, none_there}
use Rattle.machine.proofs.board.routing.Routing.edges_from.Goals as goal

pub returns-in-Some : goal.returns-in-Some
returns-in-Some c =
    let all = c.deref.ensures.value in
    let look = c.in-Some.ensures.lookup in
    c.as_slice.ensures
    ∙ edges_there _ c.args.self.now c.self.view_is _ _ c.self.invariant c.args.node c.number.result c.in-Some.edges.now c.number.ensures
    (subst (λ xs. c.number.result < length xs) all look.3.0) (look.1 ∙ ap (λ xs. get_or xs c.number.result c.in-Some.edges.now) all)

pub returns-in-None : goal.returns-in-None
returns-in-None c =
    none_there _ c.args.self.now c.self.view_is _ _ c.self.invariant c.args.node c.number.result c.number.ensures
    (subst (λ xs. length xs ≤ c.number.result) c.deref.ensures.value c.in-None.ensures.lookup.3)

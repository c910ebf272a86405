use Rattle.std.proofs.lemmas.Grind.{common_steps}
use Rattle.std.proofs.Common.{◌≤◌, ◌<◌, ◌+◌, ◌∙◌, arith}
use Rattle.update.proofs.Places.{rest_later, get_later, rest_swapped}
use Rattle.update.proofs.consolidation.next_group.Goals as goal

pub returns-clause-first : goal.returns-clause-first
returns-clause-first g c d =
    c.swap.ensures.by_index.0 d
    ∙ get_later (c.args.at + 1) c.args.from c.sum_group.new.updates c.args.updates.now d (omega (arith, c.requires.before)) c.sum_group.ensures.rest

pub returns-clause-rest : goal.returns-clause-rest
returns-clause-rest g c =
    let next : c.in_ok-next.next ≤ c.args.at + 1 = c.in_ok-next.ensures.next in
    let behind : c.in_ok-next.next < c.args.from + 1 = omega (arith, c.requires.before, next) in
    let here : c.args.from < c.args.from + 1 = omega arith in
    rest_swapped c.in_ok-next.next c.args.from (c.args.from + 1) c.sum_group.new.updates c.swap.new.self behind here c.swap.ensures.len c.swap.ensures.by_index
    ∙ rest_later (c.args.at + 1) (c.args.from + 1) c.sum_group.new.updates c.args.updates.now (omega (arith, c.requires.before)) c.sum_group.ensures.rest

pub returns-clause-settled : goal.returns-clause-settled
returns-clause-settled g c = grind (arith, common_steps)

use Rattle.std.proofs.Common.{rules, ◌≡◌}
use Rattle.steps.proofs.WorkerLemmas.{first_worker}
use Rattle.steps.proofs.worker.Worker.new.Goals as goal

pub invariant_of-result : goal.invariant_of-result
invariant_of-result g c =
    let copied : c.in_ok-plan.plan ≡ c.args.plan.now = search rules in
    first_worker g.T.PartialOrder.times g.T.Ord.cmp g.met.T.PartialOrder.order c.args.plan.now c.args.workers c.args.number c.args.actor c.known.ensures c.requires.first.0 c.requires.first.1 c.requires.worker
    c.in_ok-plan.plan copied c.in_ok-routing.routing c.in_ok-routing.ensures.routing c.in_ok-desk.desk c.in_ok-desk.ensures.right

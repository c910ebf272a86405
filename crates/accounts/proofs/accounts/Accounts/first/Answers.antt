use Rattle.std.proofs.Common.{◌∙◌, List, length, sym, subst, ap, ap₂}
use Rattle.std.proofs.lemmas.List.{length-map}
use Rattle.plan.specs.Rules.{IsPlan}
use Rattle.plan.specs.declared.node.Node.{Node}
use Rattle.progress.specs.Tallies.{SameCounts}
use Rattle.outstanding.specs.Loads.{first_stations}
use Rattle.accounts.specs.Accounts.{AccountState, IsCounted, items_left}
use Rattle.accounts.proofs.EventLemmas.{counted_first}
use Rattle.accounts.proofs.accounts.Accounts.first.Goals as goal

pub invariant_of-result : goal.invariant_of-result
invariant_of-result g c =
    let plan = c.args.plan in
    let inputs = c.in_ok-inputs.inputs in
    let mid = c.count_inputs.new.tally.items in
    let new = c.first-2.new.tally.items in
    let nodes = c.count_inputs.ensures.nodes ∙ c.in_ok-tally.ensures.nodes in
    let same = subst (λ (ns : List Node). SameCounts mid (items_left (length ns) inputs)) c.in_ok-tally.ensures.nodes c.in_ok-count_inputs.ensures.counted in
    subst (λ (x : AccountState g.row.T.Denot). IsCounted x new)
    (ap₂ (λ ns stations. record { nodes = ns; stations = stations; inputs = inputs }) (sym (c.in_ok-stations.ensures.nodes ∙ nodes))
    (sym (c.in_ok-stations.ensures.first ∙ ap (λ n. first_stations n c.args.workers) (c.len-nodes.ensures.len ∙ ap length (c.plan-2.ensures.value ∙ nodes)))))
    (counted_first plan c.args.workers inputs new (subst IsPlan nodes c.plan-2.ensures.plan) (ap length c.in_ok-inputs.ensures.first ∙ length-map plan _) (λ test. c.in_ok-stations.ensures.counted test ∙ same test))

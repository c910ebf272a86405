use Rattle.std.proofs.Common.{not, ap, ◌∙◌}
use Rattle.plan.specs.Changes.{has_passed}
use Rattle.progress.specs.Tallies.{is_input_upstream}
use Rattle.accounts.specs.Accounts.{AccountState, input_front_of}
use Rattle.accounts.proofs.QuestionLemmas.{beyond_there}
use Rattle.accounts.proofs.accounts.Accounts.input_has_passed.Goals as goal

pub returns-clause-value : goal.returns-clause-value
returns-clause-value g c =
    let tally = c.self.inside.tally in
    c.input_has_passed.ensures.value
    ∙ (ap not (beyond_there g.T.PartialOrder.times g.met.T.PartialOrder.order (is_input_upstream tally.nodes c.args.node) tally.items _ c.self.invariant.counts c.args.t.now)
    ∙ ap (λ (a : AccountState g.row.T.Denot). has_passed g.T.PartialOrder.times (input_front_of g.T.PartialOrder.times a c.args.node) c.args.t.now) c.self.view_is)

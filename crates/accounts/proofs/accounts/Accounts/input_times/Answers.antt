use Rattle.std.proofs.Common.{◌≡◌, ◌∙◌, subst}
use Rattle.std.specs.Result.{IfOk}
use Rattle.lattice.specs.Frontiers.{is_beyond}
use Rattle.progress.specs.Tallies.{is_input_upstream}
use Rattle.accounts.specs.Accounts.{AccountState, input_front_of}
use Rattle.accounts.proofs.QuestionLemmas.{beyond_there, if_ok}
use Rattle.accounts.proofs.accounts.Accounts.input_times.Goals as goal

pub returns-clause-beyond : goal.returns-clause-beyond
returns-clause-beyond g c =
    let tally = c.self.inside.tally in
    subst (λ (a : AccountState g.row.T.Denot). IfOk c.input_times_of.result (λ found. (t : g.row.T.Denot) → is_beyond g.T.PartialOrder.times found t ≡ is_beyond g.T.PartialOrder.times (input_front_of g.T.PartialOrder.times a c.args.node) t)) c.self.view_is
    (if_ok c.input_times_of.result _ _ (λ found h t. h t ∙ beyond_there g.T.PartialOrder.times g.met.T.PartialOrder.order (is_input_upstream tally.nodes c.args.node) tally.items _ c.self.invariant.counts t) c.input_times_of.ensures.beyond)

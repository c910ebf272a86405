use Rattle.std.proofs.Common.{◌≡◌, sym, ◌∙◌, rules}
use Rattle.lattice.specs.Frontiers.{all_beyond}
use Rattle.lattice.proofs.FrontierLemmas.{beyond_later, all_beyond_from}
use Rattle.antichain.proofs.frontier.Antichain.is_beyond.Goals as goal

pub returns-clause-times : goal.returns-clause-times
returns-clause-times g c =
    let order = g.met.T.PartialOrder.order in
    let value : c.all_beyond.result ≡ all_beyond g.T.PartialOrder.times c.args.other.now c.args.self.now = search rules in (
      (λ yes t h. beyond_later order c.args.other.now c.args.self.now t (sym value ∙ yes) h),
      (λ h. value ∙ all_beyond_from order c.args.other.now c.args.self.now h),
    )

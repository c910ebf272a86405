use Rattle.std.proofs.Common.{rules, ◌≡◌, ◌≤◌, subst, sym}
use Rattle.plan.specs.Nodes.{key_of}
use Rattle.plan.specs.Rules.{IsPlan}
use Rattle.plan.proofs.KeyLemmas.{key_few, key_some}
use Rattle.plan.proofs.plan.Plan.key.Goals as goal

pub returns-clause-few : goal.returns-clause-few
returns-clause-few c =
    let key : c.unwrap_or.result ≡ key_of c.args.self.now c.args.id = search rules in
    subst (λ k. k ≤ 8) (sym key) (key_few c.args.self.now (subst IsPlan c.self.view_is c.self.invariant.plan) c.args.id c.requires)

pub returns-clause-some : goal.returns-clause-some
returns-clause-some c a =
    let key : c.unwrap_or.result ≡ key_of c.args.self.now c.args.id = search rules in
    subst (λ k. 1 ≤ k) (sym key) (key_some c.args.self.now (subst IsPlan c.self.view_is c.self.invariant.plan) c.args.id c.requires a)

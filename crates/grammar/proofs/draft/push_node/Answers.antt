use Rattle.std.proofs.Common.{◌++◌, [], ◌∷◌, rules}
use Rattle.plan.specs.Rules.{node_refusal}
use Rattle.update.specs.Refusals.{IsRefusalBy}
use Rattle.grammar.proofs.PlaceLemmas.{node_refused}
use Rattle.grammar.proofs.draft.push_node.Goals as goal

pub returns-in-Err : goal.returns-in-Err
returns-in-Err c =
    let by : IsRefusalBy (node_refusal c.args.plan.now c.args.node) c.in-Err.refusal = search rules in
    node_refused (node_refusal c.args.plan.now c.args.node) c.in-Err.refusal c.of.result (c.args.plan.now ++ c.args.node ∷ []) by c.of.ensures

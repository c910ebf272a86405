-- A bundle of a linear node is in hand, and nothing lies gathered for the node.
use Rattle.std.proofs.Common.{rules, ◌≡◌, [], None, IsTrue, get_or, sym, subst, ◌∙◌}
use Rattle.std.specs.List.{slice_get}
use Rattle.std.proofs.lemmas.Bool.{eqb-true}
use Rattle.plan.specs.Nodes.{arranged_by, is_linear, node_at}
use Rattle.desk_laws.specs.Own.{DeskView, gathered_in}
use Rattle.desk.proofs.PassedOnLemmas.{none_lies, none_of}
use Rattle.desk.proofs.desk.Desk.passes_on.Goals as goal

pub returns-then-len-ge-MANY : goal.returns-then-len-ge-MANY
returns-then-len-ge-MANY g c h =
    let n = c.in-Taken.bundle.place.node in
    let plan = c.args.plan.now in
    let linear : IsTrue (is_linear (node_at plan n)) = search rules in
    let plain : arranged_by (node_at plan n) ≡ None = none_of (arranged_by (node_at plan n)) (sym c.is_arranged.ensures ∙ c.if-is_arranged.false) in
    let empty : c.len-then-len-ge-MANY.result ≡ 0 = eqb-true c.len-then-len-ge-MANY.result 0 h in
    let xs = c.self.inside.gathered.items in
    let us = c.index.result.now in
    let there : us ≡ get_or xs n us = subst (λ i. us ≡ get_or xs i us) c.number.ensures c.index.ensures in
    record {
      bundle = c.in-Taken.bundle;
      more = c.in-Taken.more;
      taken = c.in-Taken.is;
      linear = linear;
      plain = plain;
      none = subst (λ (d : DeskView g.row.T.Denot). gathered_in (slice_get d.gathered n) ≡ []) c.self.view_is (none_lies xs n us there (sym c.len-then-len-ge-MANY.ensures ∙ empty));
    }

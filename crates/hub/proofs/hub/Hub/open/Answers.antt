use Rattle.std.proofs.Common.{rules, subst, sym, ◌≡◌, ◌∷◌, []}
use Rattle.std.specs.Prelude.{Some}
use Rattle.atomic_table.specs.Table.{opening}
use Rattle.hub.specs.Rules.{Kept, first_view}
use Rattle.hub.proofs.StepLemmas.{opens}
use Rattle.hub.proofs.hub.Hub.open.Goals as goal

pub new-requires : goal.new-requires
new-requires g c = let e : c.push.new.self.items ≡ Some c.args.state ∷ [] = search rules in
    subst (λ xs. Kept g.P.Protocol.stands (opening (0 ∷ []) xs first_view)) (sym e) (opens _ c.args.state c.requires.opening)

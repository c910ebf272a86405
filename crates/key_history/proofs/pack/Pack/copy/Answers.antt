use Rattle.std.proofs.Common.{subst, FitsSigned, w64, rules}
use Rattle.std.proofs.lemmas.Int.{to_z-of_z}
use Rattle.key_history.specs.Packs.{ArePacked}
use Rattle.key_history.proofs.PackLemmas.{copied}
use Rattle.key_history.proofs.pack.Pack.copy.Goals as goal

pub returns : goal.returns
returns g c =
    let s = c.self.inside in
    let a = subst (λ vs. ArePacked vs s.heads.items s.columns.items) c.self.view_is c.self.invariant in
    let head = c.index.result.now in
    let fits : FitsSigned w64 head.diff = search rules in
    copied c.args.self.now s.heads.items s.columns.items a c.args.i head c.requires.within c.index.ensures _ _ c.row-row.ensures (to_z-of_z w64 head.diff fits)

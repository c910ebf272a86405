use Rattle.std.proofs.Common.{◌+◌, sym, ◌∙◌, ap, subst, arith}
use Rattle.key_history.specs.Packs.{ArePacked}
use Rattle.key_history.proofs.PackLemmas.{place_more, place_within}
use Rattle.key_history.proofs.pack.Pack.place_behind.Goals as goal

pub overflow_add-result : goal.overflow_add-result
overflow_add-result g c =
    let s = c.self.inside in
    let a = subst (λ vs. ArePacked vs s.heads.items s.columns.items) c.self.view_is c.self.invariant in
    let more = place_more c.args.self.now s.heads.items s.columns.items a c.args.i c.index.result.now c.requires.within c.index.ensures in
    let within = place_within c.args.self.now s.heads.items s.columns.items a (c.args.i + 1) in
    let at = c.requires.place in
    let ok = s.columns.ok in
    let small = s.columns.small in
    omega (arith, more, within, at, ok, small)

pub returns : goal.returns
returns g c =
    let s = c.self.inside in
    let a = subst (λ vs. ArePacked vs s.heads.items s.columns.items) c.self.view_is c.self.invariant in
    let more = place_more c.args.self.now s.heads.items s.columns.items a c.args.i c.index.result.now c.requires.within c.index.ensures in
    ap (λ n. n + c.index.result.now.width) c.requires.place ∙ sym more

use Rattle.std.proofs.Common.{◌++◌, ◌∷◌, [], ◌∙◌, slice_get, IsSomeAnd, subst, FitsSigned, w64, rules}
use Rattle.std.proofs.lemmas.Int.{to_z-of_z}
use Rattle.key_history.specs.Packs.{ArePacked}
use Rattle.key_history.proofs.PackLemmas.{pushed_read, read_of, packed_read}
use Rattle.key_history.proofs.pack.Pack.push_from.Given.{Over}
use Rattle.key_history.proofs.pack.Pack.push_from.Goals as goal

module _ (g : Over) (c : goal.After-push_reserved g) where
  -- the lists have one more update
  more-1 : IsSomeAnd (slice_get c.args.out.now c.args.i) (λ u. ArePacked (c.args.self.now ++ u ∷ []) c.push_reserved.new.self.items c.append_row.new.list.items)
  more-1 =
      let s = c.self.inside in
      let a = subst (λ vs. ArePacked vs s.heads.items s.columns.items) c.self.view_is c.self.invariant in
      let fits : FitsSigned w64 c.diff.result = search rules in
      pushed_read c.args.self.now s.heads.items s.columns.items a _ c.time.result c.diff.result c.in_ok-width.width _ _
      (c.push_reserved.ensures.items ∙ (λ j. c.reserve.ensures.items j ++ record { time = c.time.result; diff = to_z-of_z w64 c.diff.result fits j; width = c.in_ok-width.width } ∷ []))
      c.time.ensures c.diff.ensures c.in_ok-width.ensures.more c.in_ok-width.ensures.width c.in_ok-width.ensures.some c.in_ok-width.ensures.few

pub invariant_of-self-2 : goal.invariant_of-self-2
invariant_of-self-2 g c =
    packed_read c.args.self.now c.push_reserved.new.self.items c.append_row.new.list.items _ (more-1 g c)

pub returns-clause-more : goal.returns-clause-more
returns-clause-more g c =
    read_of c.args.self.now c.push_reserved.new.self.items c.append_row.new.list.items _ (more-1 g c)

use Rattle.std.proofs.Common.{◌++◌, ◌∷◌, [], ◌∙◌, ap, subst, FitsSigned, w64, rules}
use Rattle.std.proofs.lemmas.Int.{to_z-of_z}
use Rattle.key_history.specs.Packs.{ArePacked}
use Rattle.key_history.proofs.PackLemmas.{pushed, view_of, packed_view}
use Rattle.key_history.proofs.pack.Pack.push.Given.{Over}
use Rattle.key_history.proofs.pack.Pack.push.Goals as goal

module _ (g : Over) (c : goal.After-push_reserved g) where
  -- the lists have one more update
  more-1 : ArePacked (c.args.self.now ++ c.args.update.now ∷ []) c.push_reserved.new.self.items c.extend_from_slice.new.self.items
  more-1 =
      let s = c.self.inside in
      let a = subst (λ vs. ArePacked vs s.heads.items s.columns.items) c.self.view_is c.self.invariant in
      let u = c.args.update.now in
      let fits : FitsSigned w64 u.diff = search rules in
      pushed c.args.self.now s.heads.items s.columns.items a u _ _
      (c.push_reserved.ensures.items ∙ (λ j. c.reserve.ensures.items j ++ record { time = u.time; diff = to_z-of_z w64 u.diff fits j; width = c.width.ensures.width j } ∷ []))
      (c.in_ok-extend_from_slice.ensures.items ∙ ap (λ cs. s.columns.items ++ cs) c.columns.ensures.columns)
      c.columns.ensures.some c.columns.ensures.few

pub invariant_of-self-2 : goal.invariant_of-self-2
invariant_of-self-2 g c =
    packed_view (c.args.self.now ++ c.args.update.now ∷ []) c.push_reserved.new.self.items c.extend_from_slice.new.self.items (more-1 g c)

pub returns-clause-more : goal.returns-clause-more
returns-clause-more g c =
    view_of (c.args.self.now ++ c.args.update.now ∷ []) c.push_reserved.new.self.items c.extend_from_slice.new.self.items (more-1 g c)

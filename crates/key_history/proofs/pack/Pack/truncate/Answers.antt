use Rattle.std.proofs.Common.{take, ◌∙◌, ap, subst}
use Rattle.key_history.specs.Packs.{ArePacked}
use Rattle.key_history.proofs.PackLemmas.{cut_off, view_of, packed_view}
use Rattle.key_history.proofs.pack.Pack.truncate.Given.{Over}
use Rattle.key_history.proofs.pack.Pack.truncate.Goals as goal

module _ (g : Over) (c : goal.After-truncate-2 g) where
  -- each list has its first items
  cut-1 : ArePacked (take c.args.len c.args.self.now) c.truncate.new.self.items c.truncate-2.new.self.items
  cut-1 =
      let s = c.self.inside in
      let a = subst (λ vs. ArePacked vs s.heads.items s.columns.items) c.self.view_is c.self.invariant in
      let parts = cut_off c.args.self.now s.heads.items s.columns.items a c.args.len in
      let columns = c.truncate-2.ensures.items ∙ ap (λ n. take n s.columns.items) c.place-place.ensures in record {
        heads_are = c.truncate.ensures.items ∙ parts.heads_are;
        columns_are = columns ∙ parts.columns_are;
        some = parts.some;
        few = parts.few;
      }

pub invariant_of-self : goal.invariant_of-self
invariant_of-self g c =
    packed_view (take c.args.len c.args.self.now) c.truncate.new.self.items c.truncate-2.new.self.items (cut-1 g c)

pub returns : goal.returns
returns g c =
    view_of (take c.args.len c.args.self.now) c.truncate.new.self.items c.truncate-2.new.self.items (cut-1 g c)

use Rattle.std.proofs.Common.{◌≡◌, ◌<◌, ◌+◌, ◌-◌, length, ap, subst, ◌∙◌, arith}
use Rattle.key_history.specs.Packs.{columns_before, ArePacked}
use Rattle.key_history.proofs.PackLemmas.{place_more}
use Rattle.key_history.proofs.pack.Pack.place.Given.{Over}
use Rattle.key_history.proofs.pack.Pack.place.Goals as goal

module _ (g : Over) (c : goal.After-row_known-1 g) where
  -- one row less
  less-1 : columns_before c.loop-left.left c.args.self.now ≡ columns_before (c.loop-left.left - 1) c.args.self.now + c.index.result.now.width
  less-1 =
      let s = c.self.inside in
      let a = subst (λ vs. ArePacked vs s.heads.items s.columns.items) c.self.view_is c.self.invariant in
      let old = c.loop-left.invariant.within in
      let test = c.loop-left-test.true in
      let within : c.loop-left.left - 1 < length c.args.self.now = omega (arith, old, test) in
      let next : c.loop-left.left ≡ c.loop-left.left - 1 + 1 = omega (arith, test) in
      ap (λ n. columns_before n c.args.self.now) next
      ∙ place_more c.args.self.now s.heads.items s.columns.items a (c.loop-left.left - 1) c.index.result.now within c.index.ensures

pub overflow_sub-place : goal.overflow_sub-place
overflow_sub-place g c =
    let less = less-1 g c in
    let at = c.loop-left.invariant.place in
    omega (arith, less, at)

pub loop-left-preserved : goal.loop-left-preserved
loop-left-preserved g c =
    let less = less-1 g c in
    let at = c.loop-left.invariant.place in
    let old = c.loop-left.invariant.within in
    let test = c.loop-left-test.true in
    record {
      low = omega (arith, test);
      within = omega (arith, old);
      place = omega (arith, less, at);
    }

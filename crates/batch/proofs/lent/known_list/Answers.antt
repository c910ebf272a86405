use Rattle.std.proofs.Common.{rules, Bool, ◌≡◌, ◌+◌, suc, take, IsTrue, subst, arith}
use Rattle.std.specs.List.{list_all}
use Rattle.update.specs.declared.change.Update.{Update}
use Rattle.batch.proofs.TimesLemmas.{all_to}
use Rattle.batch.proofs.lent.known_list.Goals as goal

pub loop-i-preserved : goal.loop-i-preserved
loop-i-preserved g c =
    let p : g.row.T.Denot → Bool = g.T.PartialOrder.times.below g.T.PartialOrder.times.least in
    let next : suc c.loop-i.i ≡ c.loop-i.i + 1 = omega arith in
    subst (λ n. IsTrue (list_all (λ (u : Update g.row.T.Denot). p u.time) (take n c.args.list.now))) next
    (all_to p c.args.list.now c.loop-i.i c.time.result c.time.ensures c.loop-i.invariant (search rules))

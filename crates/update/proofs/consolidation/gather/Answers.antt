use Rattle.std.proofs.Common.{true, ◌≡◌, [], ◌++◌, ◌+◌, refl, ◌<◌, length, take, drop, sym, ◌∙◌, ap, rules, arith}
use Rattle.std.specs.Prelude.{FitsSigned}
use Rattle.std.specs.Int.{w128}
use Rattle.update.specs.declared.change.Update.{Update}
use Rattle.std.proofs.lemmas.Int.{to_z-of_z}
use Rattle.std.proofs.lemmas.List.{append-nil}
use Rattle.std.proofs.lemmas.Result.{on_ok_weaker, IfOk-weaker}
use Rattle.std.proofs.lemmas.Grind.{common_steps}
use Rattle.update.proofs.Places.{rest_later, to_come}
use Rattle.update.proofs.consolidation.gather.Goals as goal

pub returns-in_err-run-clause-large : goal.returns-in_err-run-clause-large
returns-in_err-run-clause-large g c err all =
    let d = c.index-updates-0.result in
    let xs = c.args.updates.now in
    let next = c.loop-next.next in
    let left = to_come next c.loop-next.updates xs d (rw c.loop-next.invariant.long c.loop-next-test.true) c.loop-next.invariant.rest in
    let here = rw left at (c.loop-next.invariant.fits d all) in
    c.in_err-run.ensures.large (refl {a = true}) d (drop (next + 1) xs) here

pub returns-clause-gathered : goal.returns-clause-gathered
returns-clause-gathered g c =
    let d = c.index-updates-0.result in
    let nothing : drop c.loop-next.next c.args.updates.now ≡ [] = grind (arith, common_steps) in
    let so_far = rw nothing at (c.loop-next.invariant.gathered d) in
    let fits : FitsSigned w128 c.loop-next.run.total = search rules in
    IfOk-weaker c.sum_group.result _ _ (λ kept h. simp to_z-of_z at (h d) ∙ ap (λ us. take c.loop-next.run.at c.loop-next.updates ++ us) (sym (append-nil _)) ∙ so_far) c.sum_group.ensures.settled

pub returns-clause-fits : goal.returns-clause-fits
returns-clause-fits g c =
    let d = c.index-updates-0.result in
    let nothing : drop c.loop-next.next c.args.updates.now ≡ [] = grind (arith, common_steps) in
    let so_far = rw nothing at (c.loop-next.invariant.so_far d) in
    let fits : FitsSigned w128 c.loop-next.run.total = search rules in
    on_ok_weaker c.sum_group.result (λ f. so_far (simp to_z-of_z at f, tt)) c.sum_group.ensures.fits

pub returns-clause-large : goal.returns-clause-large
returns-clause-large g c err all =
    let d = c.index-updates-0.result in
    let nothing : drop c.loop-next.next c.args.updates.now ≡ [] = grind (arith, common_steps) in
    let last = rw nothing at (c.loop-next.invariant.fits d all) in
    let fits : FitsSigned w128 c.loop-next.run.total = search rules in
    c.sum_group.ensures.large err (simp to_z-of_z last.0)

pub loop-next-preserved : goal.loop-next-preserved
loop-next-preserved g c =
    let old = c.loop-next.updates in
    let xs = c.args.updates.now in
    let next = c.loop-next.next in
    let inside : next < length old = rw c.loop-next.invariant.long c.loop-next-test.true in
    let left = λ (d : Update g.row.T.Denot). to_come next old xs d inside c.loop-next.invariant.rest in
    record {
      before = omega (arith, c.in_ok-run.ensures.before);
      long = c.take_in.auto.updates ∙ c.loop-next.invariant.long;
      rest = c.in_ok-run.ensures.rest ∙ rest_later next (next + 1) old xs (omega arith) c.loop-next.invariant.rest;
      gathered = λ d. c.in_ok-run.ensures.gathered d (drop (next + 1) xs) ∙ rw (left d) at (c.loop-next.invariant.gathered d);
      fits = λ d all. c.in_ok-run.ensures.fits d (drop (next + 1) xs) (rw (left d) at (c.loop-next.invariant.fits d all));
      so_far = λ d all. c.loop-next.invariant.so_far d (rw (left d) (c.in_ok-run.ensures.so_far d (drop (next + 1) xs) all));
      small = c.in_ok-run.ensures.small;
    }

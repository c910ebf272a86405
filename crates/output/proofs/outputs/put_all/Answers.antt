use Rattle.std.proofs.Common.{◌≡◌, ◌-◌, take, drop, length, arith, take-append-drop, length-drop, length-take}
use Rattle.std.proofs.lemmas.Grind.{common_steps}
use Rattle.std.proofs.Math.Seq.{take-add}
use Rattle.std.proofs.lemmas.List.{append-nil}
use Rattle.std.proofs.lemmas.Result.{err_from_is_err_and}
use Rattle.output.proofs.outputs.put_all.Goals as goal

pub loop-at-preserved : goal.loop-at-preserved
loop-at-preserved g c =
    let put = c.in_ok-at.ensures.some in
    let at = c.loop-at.at in
    let n = c.in_ok-at.field-0 in
    let bytes = c.args.bytes.now in
    let step = g.met.W.Out.in_turn _ _ _ _ _ _ _ c.loop-at.invariant.taken put.2 in
    let rest : take (length bytes - at) (drop at bytes) ≡ drop at bytes = grind (arith, common_steps, length-drop at bytes) in
    record {
      within = omega (arith, put.1, length-take (length bytes - at) (drop at bytes), length-drop at bytes);
      taken = rw take-add (rw rest at step);
    }

pub returns-in_err-at-clause-beginning : goal.returns-in_err-at-clause-beginning
returns-in_err-at-clause-beginning g c =
    let at = c.loop-at.at in
    let bytes = c.args.bytes.now in
    let step = g.met.W.Out.in_turn _ _ _ _ _ _ _ c.loop-at.invariant.taken c.in_err-at.ensures.failed in
    let p = err_from_is_err_and c.from_residual.result c.from_residual.ensures.1 in
    rw (p.1) (take at bytes, (drop at bytes, take-append-drop at bytes), rw append-nil at step)

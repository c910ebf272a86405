use Rattle.std.proofs.Common.{◌≡◌, ◌+◌, suc, List, drop, inl, inr, refl, sym, subst, arith}
use Rattle.std.specs.Prelude.{Err}
use Rattle.std.proofs.lemmas.Result.{err_from_is_err_and}
use Rattle.session.specs.Moves.{AreMoved}
use Rattle.session.specs.declared.moves.Move.{Move}
use Rattle.session.proofs.MoveLemmas.{drop_here}
use Rattle.session.proofs.moves.drive.Goals as goal

pub returns-in_err-make : goal.returns-in_err-make
returns-in_err-make g c =
    let l = c.loop-move_ in
    let refusal = c.in_err-make.field-0.0 in
    let p = err_from_is_err_and c.from_residual.result c.from_residual.ensures.1 in
    rw (p.1, p.2) (l.invariant c.make.new.workers (Err refusal)
    (subst (λ ms. AreMoved g.T.PartialOrder.times g.T.Ord.cmp ms l.workers c.make.new.workers (Err refusal)) (sym (drop_here c.args.moves.now l.move_-index _ c.loop-move_-test.true))
    (inr (refusal, refl, c.in_err-make.ensures))))

pub loop-move_-preserved : goal.loop-move_-preserved
loop-move_-preserved g c new r rest =
    let l = c.loop-move_ in
    let next : l.move_-index + 1 ≡ suc l.move_-index = omega arith in
    let behind : List Move = drop (suc l.move_-index) c.args.moves.now in
    l.invariant new r
    (subst (λ ms. AreMoved g.T.PartialOrder.times g.T.Ord.cmp ms l.workers new r) (sym (drop_here c.args.moves.now l.move_-index _ c.loop-move_-test.true))
    (inl (c.make.new.workers, c.in_ok-make.ensures, subst (λ n. AreMoved g.T.PartialOrder.times g.T.Ord.cmp (drop n c.args.moves.now) c.make.new.workers new r) next rest)))

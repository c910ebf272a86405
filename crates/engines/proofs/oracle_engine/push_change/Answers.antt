use Rattle.std.proofs.Common.{ℕ, Vec, Global}
use Rattle.std.proofs.lemmas.Result.{err_from_is_err_and}
use Rattle.lattice.specs.declared.product.Pair.{Pair}
use Rattle.update.specs.declared.change.Update.{Update}
use Rattle.engines.proofs.OracleEngineLemmas.{put_back, put_behind}
use Rattle.engines.proofs.oracle_engine.push_change.Goals as goal

pub returns-in_err-push-clause-unchanged : goal.returns-in_err-push-clause-unchanged
returns-in_err-push-clause-unchanged c =
    let p = err_from_is_err_and c.from_residual.result c.from_residual.ensures.1 in
    rw p.1 (put_back (λ (v : Vec (Update (Pair ℕ ℕ)) Global). v.items) c.args.lists.now.items c.args.place c.index_mut.result.now c.push.new.self c.index_mut.ensures.value c.in_err-push.ensures.items)

pub returns-clause-pushed : goal.returns-clause-pushed
returns-clause-pushed c =
    put_behind (λ (v : Vec (Update (Pair ℕ ℕ)) Global). v.items) c.args.lists.now.items c.args.place c.index_mut.result.now c.push.new.self c.args.update c.requires c.index_mut.ensures.value c.in_ok-push.ensures.items

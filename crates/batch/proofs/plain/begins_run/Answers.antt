use Rattle.std.proofs.Common.{◌+◌, ◌<◌, cond, length, take, ap, ◌∙◌, arith}
use Rattle.columns.specs.Runs.{row_starts}
use Rattle.batch.proofs.CountLemmas.{run_counted}
use Rattle.batch.proofs.plain.begins_run.Goals as goal

pub returns-else-i-eq0-clause-begins : goal.returns-else-i-eq0-clause-begins
returns-else-i-eq0-clause-begins g c t =
    let us = c.args.updates.now in
    let i = c.args.i in
    let some : 0 < i = omega (arith, c.if-i-eq0.false) in
    run_counted us i c.index-updates-i-else-i-eq0-2.result c.index-updates-i-else-i-eq0.result c.ne.result some c.requires c.ne.ensures
    ∙ ap (λ b. length (row_starts (take i us)) + cond b 1 0) t

pub returns-else-i-eq0-clause-goes_on : goal.returns-else-i-eq0-clause-goes_on
returns-else-i-eq0-clause-goes_on g c f =
    let us = c.args.updates.now in
    let i = c.args.i in
    let some : 0 < i = omega (arith, c.if-i-eq0.false) in
    run_counted us i c.index-updates-i-else-i-eq0-2.result c.index-updates-i-else-i-eq0.result c.ne.result some c.requires c.ne.ensures
    ∙ ap (λ b. length (row_starts (take i us)) + cond b 1 0) f
    ∙ omega arith

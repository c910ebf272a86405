use Rattle.std.proofs.Common.{◌<◌, ◌+◌, get_or, arith}
use Rattle.std.proofs.lemmas.Bool.Decides.{nat_tests}
use Rattle.columns.proofs.RunLemmas.{number_is}
use Rattle.columns.proofs.runs.is_run_at.Goals as goal

pub returns-then-run-starts-2-clause-number : goal.returns-then-run-starts-2-clause-number
returns-then-run-starts-2-clause-number c holds =
    let run = c.args.run in
    let starts = c.args.starts.now in
    let few = c.if-run-starts.false in
    let early = c.if-starts-run.false in
    let last = c.if-run-starts-2.true in
    number_is starts c.requires.ascending run 0 c.args.place (omega (arith, few)) (omega (arith, early)) (λ h. omega (arith, h, last))

pub returns-else-run-starts-2-clause-number : goal.returns-else-run-starts-2-clause-number
returns-else-run-starts-2-clause-number c holds =
    let run = c.args.run in
    let starts = c.args.starts.now in
    let few = c.if-run-starts.false in
    let early = c.if-starts-run.false in
    let before : c.args.place < get_or starts (run + 1) 0 = grind (arith, nat_tests) in
    number_is starts c.requires.ascending run 0 c.args.place (omega (arith, few)) (omega (arith, early)) (λ h. before)

use Rattle.std.proofs.Common.{arith}
use Rattle.progress.proofs.elements.has_element.Goals as goal

pub returns-clause-missing : goal.returns-clause-missing
returns-clause-missing g c e has =
    let l = has.1 in
    let m = c.loop-number-test.false in
    c.loop-number.invariant has.0 (omega (arith, l, m)) has.2

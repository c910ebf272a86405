use Rattle.std.proofs.Common.{arith}
use Rattle.antichain.proofs.Lists.{among_contains}
use Rattle.progress.specs.CountLists.{listed}
use Rattle.progress.proofs.EntryLemmas.{no_entry}
use Rattle.progress.proofs.entries.entry_of.Goals as goal

pub returns-clause-missing : goal.returns-clause-missing
returns-clause-missing g c e there =
    let m = c.loop-number-test.false in
    no_entry c.args.few.now c.args.t.now (λ i d l h. c.loop-number.invariant i d (omega (arith, l, m)) h) (among_contains c.args.t.now (listed c.args.few.now) there)

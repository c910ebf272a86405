use Rattle.std.proofs.Common.{subst}
use Rattle.joined_times.specs.Joined.{JoinAlike}
use Rattle.key_history.proofs.CompactionLemmas.{alike_itself}
use Rattle.key_history.proofs.compaction.compact_times.Goals as goal

pub returns-in_err-times-clause-alike : goal.returns-in_err-times-clause-alike
returns-in_err-times-clause-alike g c = alike_itself g.T.PartialOrder.times c.args.since.now c.args.times.now.items

pub returns-clause-alike : goal.returns-clause-alike
returns-clause-alike g c =
    subst (λ z. JoinAlike g.T.PartialOrder.times c.args.since.now c.in_ok-times.field-0.items z) c.deref.ensures.value c.in_ok-times.ensures.alike

use Rattle.columns.proofs.SeekLemmas.{gone_not_after, rest_after}
use Rattle.columns.proofs.columns.Columns.first_past.Goals as goal

pub returns-clause-before : goal.returns-clause-before
returns-clause-before g c =
    gone_not_after c.args.key.now c.args.self.now c.args.from c.first_kept.result c.first_kept.ensures.before

pub returns-clause-rest : goal.returns-clause-rest
returns-clause-rest g c = rest_after c.args.key.now c.args.self.now c.first_kept.result c.first_kept.ensures.rest

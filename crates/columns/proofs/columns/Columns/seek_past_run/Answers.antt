use Rattle.columns.specs.Runs.{run_place}
use Rattle.columns.proofs.SeekLemmas.{gone_not_after, rest_after}
use Rattle.columns.proofs.columns.Columns.seek_past_run.Goals as goal

pub returns-clause-before : goal.returns-clause-before
returns-clause-before g c =
    gone_not_after c.args.key.now c.args.self.now (run_place c.args.self.now c.args.from) (run_place c.args.self.now c.run_kept.result) c.run_kept.ensures.before

pub returns-clause-rest : goal.returns-clause-rest
returns-clause-rest g c = rest_after c.args.key.now c.args.self.now (run_place c.args.self.now c.run_kept.result) c.run_kept.ensures.rest

use Rattle.std.proofs.Common.{rules}
use Rattle.batch.proofs.HandLemmas.{on_ok}
use Rattle.batch.proofs.merged_rows.put_row.Goals as goal

pub returns-then-are_settled-clause-fits : goal.returns-then-are_settled-clause-fits
returns-then-are_settled-clause-fits g c = on_ok c.push_run.result _ (c.are_settled.ensures.fits (search rules) c.args.row.now)

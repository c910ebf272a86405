use Rattle.correction.proofs.DraftLemmas.{same_counts}
use Rattle.correction.proofs.draft.has_same_count.Goals as goal

pub returns : goal.returns
returns c = same_counts c.args.want.now c.args.had.now c.args.i c.args.j c.count.result c.count-2.result c.count.type_inv c.count-2.type_inv c.count.ensures c.count-2.ensures

use Rattle.correction.proofs.DraftLemmas.{since_last}
use Rattle.correction.proofs.draft.draft_since.Goals as goal

pub returns-clause-draft : goal.returns-clause-draft
returns-clause-draft g c =
    let last = c.args.last.now in
    since_last g.met.T.PartialOrder.order c.args.time c.args.want.now c.args.given.now last.time c.requires.earlier last.answer c.requires.answer
    c.new-draft.result.items c.put_change.new.out.items c.put_back_since.new.out.items
    c.new-draft.ensures.items c.in_ok-put_change.ensures.changes c.in_ok-put_back_since.ensures.put

use Rattle.correction.proofs.DraftLemmas.{whole}
use Rattle.correction.proofs.draft.whole_draft.Goals as goal

pub returns-clause-draft : goal.returns-clause-draft
returns-clause-draft g c =
    whole g.met.T.PartialOrder.order c.args.time c.args.want.now c.args.given.now c.new-draft.result.items c.put_rest.new.out.items c.put_back.new.out.items
    c.new-draft.ensures.items c.in_ok-put_rest.ensures.put c.in_ok-put_back.ensures.put

use Rattle.std.proofs.Common.{◌∙◌}
use Rattle.correction.proofs.TalliedLemmas.{update_more}
use Rattle.correction.proofs.tallied.add_near.Goals as goal

pub returns-in_err-add_seen-clause-among : goal.returns-in_err-add_seen-clause-among
returns-in_err-add_seen-clause-among g c p all = c.add_seen.ensures.among p (c.loop-update.invariant.among p all)

pub returns-then-not-branch-clause-among : goal.returns-then-not-branch-clause-among
returns-then-not-branch-clause-among g c p all = c.add_seen.ensures.among p (c.loop-update.invariant.among p all)

pub loop-update-preserved : goal.loop-update-preserved
loop-update-preserved g c =
    let added = c.in_ok-add_seen.ensures.added in
    record {
      added = update_more g.T.PartialOrder.times c.args.time c.args.base.now c.loop-update.base c.add_seen.new.base c.args.near.now c.loop-update.update-index c.update-item.result
          c.loop-update-test.true c.update-item.is c.loop-update.invariant.added (added c.if-not-branch.false);
      undone_is = c.add_seen.ensures.undone ∙ c.loop-update.invariant.undone_is;
      among = λ p all. c.add_seen.ensures.among p (c.loop-update.invariant.among p all);
    }

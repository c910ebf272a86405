use Rattle.std.proofs.Common.{◌∙◌, take}
use Rattle.outstanding.specs.Stations.{lots}
use Rattle.accounts.specs.Accounts.{items_sent}
use Rattle.accounts.proofs.EventLemmas.{taken_back}
use Rattle.accounts.proofs.count.add_sent.Goals as goal

pub remove_sent-requires : goal.remove_sent-requires
remove_sent-requires g c = record {
  rest = c.args.tally.now.items;
  counts = λ test. c.in-Err.ensures.unchanged test ∙ c.loop-number.invariant.0 test;
}

pub returns-in-Err-clause-unchanged : goal.returns-in-Err-clause-unchanged
returns-in-Err-clause-unchanged g c =
    taken_back (items_sent (lots c.args.stations.now) (take c.loop-number.number c.args.sent.now)) c.args.tally.now.items c.add_one.new.tally.items c.remove_sent.new.tally.items
    (λ test. c.in-Err.ensures.unchanged test ∙ c.loop-number.invariant.0 test)
    c.remove_sent.ensures.counted

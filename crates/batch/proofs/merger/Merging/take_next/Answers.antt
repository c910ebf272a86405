use Rattle.std.proofs.Common.{◌≡◌, false, drop, rules}
use Rattle.batch.specs.Merges.{is_left_next}
use Rattle.batch.proofs.UnderwayLemmas.{right_is_within}
use Rattle.batch.proofs.merger.Merging.take_next.Goals as goal

pub take_right-requires-clause-within : goal.take_right-requires-clause-within
take_right-requires-clause-within g c =
    let next : is_left_next g.T.Ord.cmp (drop c.args.self.now.left c.args.us.now) (drop c.args.self.now.right c.args.vs.now) ≡ false = search rules in
    right_is_within g.T.PartialOrder.times g.T.Ord.cmp c.args.us.now c.args.vs.now c.args.self.now c.requires.underway c.requires.more next

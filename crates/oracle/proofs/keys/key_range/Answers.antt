use Rattle.std.proofs.Common.{take}
use Rattle.std.proofs.lemmas.List.{length-take-le}
use Rattle.oracle.proofs.PairLemmas.{key_range_is}
use Rattle.oracle.proofs.keys.key_range.Goals as goal

pub returns : goal.returns
returns c =
    key_range_is c.args.k c.key-key.result.now (take c.args.k c.args.row.now) c.args.bag.now c.before_key-from.result c.before_key-to.result
    c.key-key.ensures (length-take-le c.args.k c.args.row.now c.requires.key)
    c.before_key-to.ensures.inside c.before_key-from.ensures.inside
    c.before_key-from.ensures.before c.before_key-from.ensures.behind c.before_key-to.ensures.before c.before_key-to.ensures.behind

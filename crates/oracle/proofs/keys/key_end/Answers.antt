use Rattle.oracle.proofs.PairLemmas.{end_range, end_more, end_start}
use Rattle.oracle.proofs.keys.key_end.Goals as goal

pub returns-clause-range : goal.returns-clause-range
returns-clause-range c =
    end_range c.args.k c.key_at.result.now c.args.bag.now c.known.ensures.bag c.args.i c.before_key.result c.key_at.ensures.width c.key_at.ensures.key
    c.requires.inside c.requires.start c.before_key.ensures.inside c.before_key.ensures.before c.before_key.ensures.behind

pub returns-clause-more : goal.returns-clause-more
returns-clause-more c =
    end_more c.args.k c.key_at.result.now c.args.bag.now c.known.ensures.bag c.args.i c.before_key.result c.key_at.ensures.width c.key_at.ensures.key
    c.requires.inside c.requires.start c.before_key.ensures.inside c.before_key.ensures.before c.before_key.ensures.behind

pub returns-clause-start : goal.returns-clause-start
returns-clause-start c =
    end_start c.args.k c.key_at.result.now c.args.bag.now c.known.ensures.bag c.args.i c.before_key.result c.key_at.ensures.width c.key_at.ensures.key
    c.requires.inside c.requires.start c.before_key.ensures.inside c.before_key.ensures.before c.before_key.ensures.behind

use Rattle.std.proofs.Common.{sym}
use Rattle.joined_times.proofs.OrderLemmas.{take_left, take_right, take_both}
use Rattle.joined_times.proofs.times.take_next.Goals as goal

pub returns-in_ok-push-in-Less-clause-merging : goal.returns-in_ok-push-in-Less-clause-merging
returns-in_ok-push-in-Less-clause-merging g c =
    take_left g.met.T.Ord.total c.push.new.self.items c.args.at.left c.args.at.right c.index-xs-at.result c.index-ys-at.result c.requires.left c.requires.right c.index-xs-at.is c.index-ys-at.is (sym c.in-Less.ensures) c.in_ok-push-in-Less.ensures.items

pub returns-in_ok-push-in-Greater-clause-merging : goal.returns-in_ok-push-in-Greater-clause-merging
returns-in_ok-push-in-Greater-clause-merging g c =
    take_right g.met.T.Ord.total c.push-in-Greater.new.self.items c.args.at.left c.args.at.right c.index-xs-at.result c.index-ys-at.result c.requires.left c.requires.right c.index-xs-at.is c.index-ys-at.is (sym c.in-Greater.ensures) c.in_ok-push-in-Greater.ensures.items

pub returns-in_ok-push-in-Equal-clause-merging : goal.returns-in_ok-push-in-Equal-clause-merging
returns-in_ok-push-in-Equal-clause-merging g c =
    let same = g.met.T.Lattice.extends.exact c.index-xs-at.result c.index-ys-at.result (sym c.in-Equal.ensures) in
    take_both g.met.T.Ord.total c.push-in-Equal.new.self.items c.args.at.left c.args.at.right c.index-xs-at.result c.index-ys-at.result c.requires.left c.requires.right c.index-xs-at.is c.index-ys-at.is same c.in_ok-push-in-Equal.ensures.items

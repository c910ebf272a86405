use Rattle.machine.proofs.BoardLemmas.AllowLemmas.{kept_later}
use Rattle.machine.proofs.board.promises.later_sinces_keep_sums.Goals as goal

pub returns : goal.returns
returns g c earlier later captured emitted onward kept = kept_later g.met.T.PartialOrder.order earlier later captured emitted onward kept

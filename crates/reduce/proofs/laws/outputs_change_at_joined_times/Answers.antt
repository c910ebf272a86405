use Rattle.reduce.proofs.LawLemmas.{changes_at}
use Rattle.reduce.proofs.laws.outputs_change_at_joined_times.Goals as goal

pub returns : goal.returns
returns g c = record { joined = changes_at g.met.T.PartialOrder.order g.met.T.Lattice.bounds }

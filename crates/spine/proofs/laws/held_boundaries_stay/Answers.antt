use Rattle.trace.proofs.BatchListLemmas.{reached_boundary}
use Rattle.spine.proofs.BoundaryLemmas.{boundary_inserted, own_forbidden, own_left}
use Rattle.spine.proofs.laws.held_boundaries_stay.Goals as goal

pub returns-clause-forbidden : goal.returns-clause-forbidden
returns-clause-forbidden g c = own_forbidden g.met.T.PartialOrder.order

pub returns-clause-begun : goal.returns-clause-begun
returns-clause-begun g c s = reached_boundary s.list

pub returns-clause-inserted : goal.returns-clause-inserted
returns-clause-inserted g c = boundary_inserted

pub returns-clause-worked : goal.returns-clause-worked
returns-clause-worked g c = own_left g.met.T.PartialOrder.order

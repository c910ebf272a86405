use Rattle.std.proofs.Common.{sym}
use Rattle.lattice.proofs.RepresentativeLemmas.{representative_keeps, representative_one, join_representative, representative_greatest, representative_in_steps}
use Rattle.lattice.proofs.compaction.representatives_are_canonical.Goals as goal

pub returns : goal.returns
returns g c =
    let order = g.met.T.PartialOrder.order in
    let bounds = g.met.T.Lattice.bounds in
    record {
      reads = λ F t s b. sym (representative_keeps order bounds F t s b);
      one = representative_one order bounds;
      joins = join_representative order bounds;
      greatest = representative_greatest order bounds;
      in_steps = representative_in_steps order bounds;
    }

-- A worker's own before the first event.
use Rattle.std.proofs.Common.{ℕ, ◌<◌, [], ◌∷◌, refl}
use Rattle.lattice.specs.Times.{Times}
use Rattle.lattice.specs.Order.{PartialOrderLaws}
use Rattle.histories.specs.Histories.{initial_state}
use Rattle.histories.specs.Histories.Dataflows.{Dataflow}
use Rattle.operator_laws.proofs.PortLemmas.{port_first}
use Rattle.operator_laws.proofs.WorkerLemmas.{first_working}
use Rattle.desk_laws.specs.Own.{AreHolding, DeskView, IsLaid, IsOwn, first_keeps}
use Rattle.desk_laws.specs.declared.hand.Hand.TheVariants.{Free}

pub first_lem : {T : Type 0} (times : Times T) (o : PartialOrderLaws times) (p : Dataflow) (k : ℕ) → k < p.workers → (d : DeskView T) → AreHolding times p d (λ n port. times.least ∷ []) → IsLaid times p d Free (first_keeps times.least)
    → IsOwn times p (initial_state times p) k d Free
first_lem times o p k worker d sharing laid = record {
  worker = worker;
  keeps = first_keeps times.least;
  keeping = record {
    working = first_working times o p k;
    received = λ n source kind l e. refl;
    given = λ n source kind l e. refl;
    ports = port_first times o p;
  };
  laid = laid;
  hand = refl;
  come = tt;
  on = tt;
  holding = sharing;
}

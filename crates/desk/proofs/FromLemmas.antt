-- From one desk and hand to the next: the next are right for each worker that had the ones before.
use Rattle.std.proofs.Common.{List}
use Rattle.std.specs.declared.cmp.Ordering.{Ordering}
use Rattle.plan.specs.declared.node.Node.{Node}
use Rattle.desk_laws.specs.Own.{DeskView}
use Rattle.desk_laws.specs.declared.hand.Hand.{Hand}
use Rattle.desk.specs.Desks.{IsSomeones, IsTooLarge, Leads}
use Rattle.lattice.specs.Times.{Times}

module _ {T : Type 0} (times : Times T) (plan : List Node) where
  pub leads_same : (d : DeskView T) (h : Hand T) → Leads times plan d h d h
  leads_same d h p q e es legal k x = x

  module _ (d c : DeskView T) (h g : Hand T) (leads : Leads times plan d h c g) where
    pub someones_then : IsSomeones times plan d h → IsSomeones times plan c g
    someones_then x = record {
      dataflow = x.dataflow;
      nodes = x.nodes;
      is = x.is;
      events = x.events;
      legal = x.legal;
      worker = x.worker;
      right = leads x.dataflow x.is x.nodes x.events x.legal x.worker x.right;
    }

    pub leads_then : (b : DeskView T) (f : Hand T) → Leads times plan c g b f → Leads times plan d h b f
    leads_then b f next p q e es legal k x = next p q e es legal k (leads p q e es legal k x)

    -- what is too large for the other is too large for the one
    pub large_before : (cmp : T → T → Ordering) → IsTooLarge times cmp plan c g → IsTooLarge times cmp plan d h
    large_before cmp large p q e es legal k x = large p q e es legal k (leads p q e es legal k x)

-- What a bundle in hand brings to its node: rows that the node takes, and what lies there for them.
use Rattle.std.proofs.Common.{◌≡◌, ℕ, zero, suc, ◌<◌, Bool, false, ◌||◌, eqb, nat_lt, List, [], ◌∷◌, length, Option, Some, None, IsTrue, sym, refl, ap, ◌∙◌, subst, arith}
use Rattle.std.specs.List.{slice_get}
use Rattle.std.specs.Prelude.{unwrap_or}
use Rattle.std.proofs.lemmas.Bool.{and_parts, and_from, or_left}
use Rattle.std.proofs.lemmas.Bool.Decides.{nat_tests}
use Rattle.lattice.specs.Times.{Times}
use Rattle.lattice.specs.Frontiers.{all_beyond, is_beyond}
use Rattle.update.specs.declared.change.Update.{Update}
use Rattle.plan.specs.Nodes.{is_linear, node_at, sources}
use Rattle.plan.specs.Widths.{width_of}
use Rattle.plan.specs.declared.kind.Kind.{Kind}
use Rattle.plan.specs.declared.node.Node.{Node}
use Rattle.plan.specs.declared.node.Node.TheVariants.{Arrange, Input, Reduce}
use Rattle.linear.proofs.PortLemmas.{input_at}
use Rattle.linear.proofs.WidthLemmas.{plan_takes, plan_gives}
use Rattle.linear.specs.Applied.{linear_output}
use Rattle.linear.specs.Ports.{is_port}
use Rattle.linear.specs.Widths.{takes_rows, are_wide}
use Rattle.histories.specs.declared.event.Bundle.{Bundle}
use Rattle.histories.specs.declared.event.Site.{Site}
use Rattle.histories.specs.Histories.Dataflows.{Dataflow, IsDataflow, node_of, source_of}
use Rattle.histories.specs.Histories.States.{update_times}
use Rattle.operator.specs.Arrangements.{ArrangementState, rows_have, times_from}
use Rattle.operator.specs.Reductions.{ReducingView, have_width}
use Rattle.shared_board.specs.Widths.{width_at}
use Rattle.desk_laws.specs.Own.{DeskView}
use Rattle.desk_laws.specs.declared.hand.Hand.TheVariants.{Taken}
use Rattle.desk.specs.Desks.{IsSomeones}

module _ {T : Type 0} where
  any_row : (width : ℕ) (us : List (Update T)) → IsTrue (takes_rows (Input width) us)
  any_row width [] = refl
  any_row width (u ∷ us) = any_row width us

  module _ (p : Dataflow) (q : IsDataflow p) (site : Site) (us : List (Update T)) (port : IsTrue (is_port (node_of p site.node) site.port)) (wide : IsTrue (are_wide (width_at p site) us)) where
    -- the node accepts the rows of a bundle that fits it
    pub fitting : IsTrue (takes_rows (node_of p site.node) us)
    fitting = step (source_of p site.node site.port) refl
      where
        step : (x : Option ℕ) → source_of p site.node site.port ≡ x → IsTrue (takes_rows (node_of p site.node) us)
        step None e = let n = input_at (node_of p site.node) site.port port e in subst (λ node. IsTrue (takes_rows node us)) (sym n.1) (any_row n.0 us)
        step (Some s) e = plan_takes p.nodes q.plan site.node site.port s e us (subst (λ x. IsTrue (are_wide (width_of p.nodes (unwrap_or x site.node)) us)) e wide)

    -- the node's output rows have the width that the plan says
    pub widened : IsTrue (is_linear (node_of p site.node)) → IsTrue (are_wide (width_of p.nodes site.node) (linear_output (node_of p site.node) us))
    widened l = step (source_of p site.node site.port) refl
      where
        step : (x : Option ℕ) → source_of p site.node site.port ≡ x → IsTrue (are_wide (width_of p.nodes site.node) (linear_output (node_of p site.node) us))
        step None e =
            let n = input_at (node_of p site.node) site.port port e in
            subst (λ node. IsTrue (are_wide (width_of p.nodes site.node) (linear_output node us))) (sym n.1) (subst (λ x. IsTrue (are_wide (width_of p.nodes (unwrap_or x site.node)) us)) e wide)
        step (Some s) e = plan_gives p.nodes q.plan site.node site.port s e l us (subst (λ x. IsTrue (are_wide (width_of p.nodes (unwrap_or x site.node)) us)) e wide)

    -- at a reduction they have the width of its source
    pub reduced_wide : (kind : Kind) (source : ℕ) → node_of p site.node ≡ Reduce kind source → IsTrue (are_wide (width_of p.nodes source) us)
    reduced_wide kind source e =
        subst (λ x. IsTrue (are_wide (width_of p.nodes (unwrap_or x site.node)) us))
        (from site.port (subst (λ node. IsTrue (is_port node site.port)) e port)) wide
      where
        zero_port : (port : ℕ) → IsTrue (eqb port 0 || nat_lt port 1) → port ≡ 0
        zero_port zero h = refl
        zero_port (suc port) h = absurd (grind (arith, nat_tests))

        one : (port : ℕ) → IsTrue (is_port (Reduce kind source) port) → slice_get (source ∷ []) port ≡ Some source
        one port h = ap (slice_get (source ∷ [])) (zero_port port h)

        from : (port : ℕ) → IsTrue (is_port (Reduce kind source) port) → source_of p site.node port ≡ Some source
        from port h = ap (λ node. slice_get (sources node) port) e ∙ one port h

  -- times at or after the least one are beyond its frontier
  pub later_times : (times : Times T) (us : List (Update T)) → IsTrue (times_from times us) → IsTrue (all_beyond times (times.least ∷ []) (update_times us))
  later_times times [] h = refl
  later_times times (u ∷ us) h =
      let parts = and_parts (times.below times.least u.time) (times_from times us) h in
      and_from (is_beyond times (times.least ∷ []) u.time) (all_beyond times (times.least ∷ []) (update_times us)) (or_left (times.below times.least u.time) false parts.0) (later_times times us parts.1)

module _ {T : Type 0} (times : Times T) (plan : List Node) (d : DeskView T) (bundle : Bundle T) (more : Bool) (x : IsSomeones times plan d (Taken bundle more)) where
  abbrev n : ℕ
  n = bundle.place.node

  abbrev p : Dataflow
  p = x.dataflow

  at : node_of p n ≡ node_at plan n
  at = ap (λ nodes. node_at nodes n) x.nodes

  pub bundle_within : n < length plan
  bundle_within = subst (λ nodes. n < length nodes) x.nodes x.right.on_plan.hand.0

  pub bundle_placed : n < length d.gathered
  bundle_placed = subst (λ m. n < m) (sym x.right.on_plan.places) x.right.on_plan.hand.0

  pub bundle_rows : IsTrue (takes_rows (node_at plan n) bundle.updates)
  bundle_rows = subst (λ node. IsTrue (takes_rows node bundle.updates)) at (fitting p x.is bundle.place bundle.updates x.right.on_plan.hand.1 x.right.on_plan.hand.2)

  pub bundle_times : IsTrue (times_from times bundle.updates)
  bundle_times = x.right.on_plan.hand.3

  -- at an arrange node there is an arrangement for them
  pub arrangement_there : (source key : ℕ) → node_at plan n ≡ Arrange source key → (a : ArrangementState T) × (slice_get d.arrangements n ≡ Some (Some a)) × IsTrue (rows_have a.width bundle.updates)
  arrangement_there source key e =
      let own = x.right.own in
      let there = at ∙ e in
      let lies = own.laid.arranged n source key x.right.on_plan.hand.0 there in
      let wide = widened p x.is bundle.place bundle.updates x.right.on_plan.hand.1 x.right.on_plan.hand.2 (ap is_linear there) in (
        lies.arrangement,
        lies.there,
        subst (λ width. IsTrue (rows_have width bundle.updates)) (sym lies.spine.width) (subst (λ node. IsTrue (are_wide (width_of p.nodes n) (linear_output node bundle.updates))) there wide),
      )

  -- and at a reduction its state
  pub reduction_there : (kind : Kind) (source : ℕ) → node_at plan n ≡ Reduce kind source → (r : ReducingView T) × (slice_get d.reductions n ≡ Some (Some r)) × IsTrue (have_width r.width bundle.updates)
  reduction_there kind source e =
      let own = x.right.own in
      let there = at ∙ e in
      let lies = own.laid.reducing n source kind x.right.on_plan.hand.0 there in
      let wide = reduced_wide p x.is bundle.place bundle.updates x.right.on_plan.hand.1 x.right.on_plan.hand.2 kind source there in (
        lies.reduction,
        lies.there,
        subst (λ width. IsTrue (have_width width bundle.updates)) (sym lies.width) wide,
      )

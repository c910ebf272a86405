-- The frontiers of ports, as a worker was told them: what is beyond the one is beyond the other.
use Rattle.std.proofs.Common.{◌≡◌, ℕ, zero, suc, ◌+◌, ◌<◌, ◌≤◌, List, [], ◌∷◌, length, get_or, None, IsTrue, refl, sym, ap, ◌∙◌, arith}
use Rattle.std.specs.List.{slice_get}
use Rattle.lattice.specs.Times.{Times}
use Rattle.lattice.specs.Order.{PartialOrderLaws}
use Rattle.lattice.specs.Frontiers.{all_beyond}
use Rattle.lattice.proofs.FrontierLemmas.{all_beyond_from}
use Rattle.histories.specs.Histories.Dataflows.{Dataflow, node_of}
use Rattle.histories.specs.Histories.Outstanding.{port_frontier}
use Rattle.histories.specs.Histories.States.{State}
use Rattle.desk_laws.specs.Own.{other_port}
use Rattle.desk.specs.Upkeep.{AreTold, front_in, front_of_port, holds_elsewhere}
use Rattle.desk.proofs.PlaceLemmas.{read_at}

-- the other port of a join is one of two
pub other_few : (port : ℕ) → other_port port < 2
other_few zero = omega arith
other_few (suc port) = omega arith

module _ {T : Type 0} (times : Times T) (o : PartialOrderLaws times) (p : Dataflow) (w : State T) (fronts : List (List T)) (told : AreTold times p w fronts) (n port : ℕ) (within : n < length p.nodes) (few : port < 2) (holds : IsTrue (holds_elsewhere (node_of p n))) where
  pub told_after : IsTrue (all_beyond times (port_frontier times p w n port) (front_of_port fronts n port))
  told_after = all_beyond_from o (port_frontier times p w n port) (front_of_port fronts n port) (λ t b. sym (told n port within few holds t) ∙ b)

  pub told_before : IsTrue (all_beyond times (front_of_port fronts n port) (port_frontier times p w n port))
  told_before = all_beyond_from o (front_of_port fronts n port) (port_frontier times p w n port) (λ t b. told n port within few holds t ∙ b)

-- ---- a list with two frontiers for each node

none_behind : {A : Type 0} (xs : List A) (i : ℕ) → length xs ≤ i → slice_get xs i ≡ None
none_behind [] i l = refl
none_behind (x ∷ xs) zero l = absurd (omega (arith, l))
none_behind (x ∷ xs) (suc i) l = none_behind xs i (omega (arith, l))

module _ {T : Type 0} (fronts : List (List T)) (n port i : ℕ) (same : i ≡ n + (n + port)) where
  pub front_read : (F : List T) → i < length fronts → F ≡ get_or fronts i F → F ≡ front_of_port fronts n port
  front_read F l e = sym (ap front_in (ap (slice_get fronts) (sym same) ∙ read_at fronts i i F refl l e))

  pub front_none : length fronts ≤ i → [] ≡ front_of_port fronts n port
  front_none l = sym (ap front_in (ap (slice_get fronts) (sym same) ∙ none_behind fronts i l))

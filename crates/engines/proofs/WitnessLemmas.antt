-- The oracle engine can stand for a session: for each plan there is a register that stands for the
-- session before the first command.
use Rattle.std.proofs.Common.{◌≡◌, ℕ, zero, suc, eqb, List, [], ◌∷◌, length, map, refl, ap}
use Rattle.std.specs.Prelude.{slice_index_or}
use Rattle.std.specs.List.{list_all}
use Rattle.std.proofs.lemmas.List.{length-map, get_or-map}
use Rattle.update.specs.declared.change.Update.{Update}
use Rattle.plan.specs.Edges.{numbers_where}
use Rattle.plan.specs.Nodes.{is_input, node_at}
use Rattle.plan.specs.Widths.{width_of}
use Rattle.plan.specs.declared.node.Node.{Node}
use Rattle.oracle.specs.Evaluation.{inputs_before}
use Rattle.engines.specs.OracleStates.{Register, IsRegister, Records}
use Rattle.engines.specs.Sessions.{first_session}

abbrev no_updates : {T : Type 0} → List (Update T)
no_updates = []

none_in : {T : Type 0} (inputs : List ℕ) (n : ℕ) → slice_index_or (map (λ (i : ℕ). no_updates {T = T}) inputs) n [] ≡ []
none_in [] n = refl
none_in (i ∷ inputs) zero = refl
none_in (i ∷ inputs) (suc n) = none_in inputs n

module _ {T : Type 0} (least : T) (p : List Node) where
  -- a register without changes
  abbrev blank : Register T
  blank = record { plan = p; changes = map (λ i. no_updates) (numbers_where is_input p); inputs = (first_session least p).inputs; sinces = map (λ (node : Node). least ∷ []) p }

  -- the register stands for the first session
  pub register_stands : (r : Register T) × (r.plan ≡ p) × IsRegister r × Records r (first_session least p)
  register_stands = (
    blank,
    refl,
    record {
      lists = length-map (numbers_where is_input p) _;
      wide = λ n l e. ap (λ us. list_all (λ (u : Update T). eqb (length u.row) (width_of p n)) us) (none_in (numbers_where is_input p) (inputs_before p n));
      inputs = length-map p _;
      sinces = length-map p _;
    },
    record {
      changes = λ input e. none_in (numbers_where is_input p) (inputs_before p input);
      inputs = refl;
      since = λ view l. get_or-map (λ (node : Node). least ∷ []) p view (node_at p view) [] l;
    },
  )

-- What the loops of `edges.rt` keep: marks and edges, node by node.
use Rattle.std.proofs.Common.{◌≡◌, ℕ, suc, ◌+◌, ◌<◌, Bool, true, false, ◌||◌, eqb, ⊎_elim, eq-or-lt_of_le, List, [], ◌∷◌, ◌++◌, length, slice_get, slice_set, get_or, refl, ap, sym, ◌∙◌, arith}
use Rattle.std.specs.List.{list_any, filter, flat_map}
use Rattle.std.proofs.lemmas.List.{get_or-set_same, get_or-set_other}
use Rattle.std.proofs.lemmas.List.Elements.{filter-append}
use Rattle.std.proofs.lemmas.List.Concat.{flat_map-append}
use Rattle.plan.specs.Nodes.{node_at, sources}
use Rattle.plan.specs.Ancestors.{reaches, numbers_below}
use Rattle.plan.specs.Rules.{IsPlan}
use Rattle.plan.proofs.UpwardLemmas.{list_any_same}
use Rattle.plan.proofs.PlanLemmas.{source_smaller}
use Rattle.plan.proofs.StepLemmas.{above_by_sources}
use Rattle.plan.specs.Edges.{is_marked, leads_from, ports_of}
use Rattle.plan.specs.declared.edges.Edge.{Edge}
use Rattle.plan.specs.declared.node.Node.{Node}
use Rattle.plan.specs.declared.node.Node.TheVariants.{Concat, Join}

or_false : (b : Bool) → (b || false) ≡ b
or_false true = refl
or_false false = refl

-- a source is marked if and only if the source at port 0 or at port 1 is
pub marked_at_ports : (marks : List Bool) (node : Node) → list_any (λ source. get_or marks source false) (sources node) ≡ (is_marked marks (slice_get (sources node) 0) || is_marked marks (slice_get (sources node) 1))
marked_at_ports marks (Concat left right) = ap (λ b. get_or marks left false || b) (or_false (get_or marks right false))
marked_at_ports marks (Join left right) = ap (λ b. get_or marks left false || b) (or_false (get_or marks right false))
marked_at_ports marks node = refl

-- after the mark of node n is set, the marks of all nodes up to n are right
pub marks_with : (p : List Node) → IsPlan p → (above n : ℕ) (marks : List Bool) → n < length marks → ((m : ℕ) → m < n → get_or marks m false ≡ reaches p above m) → (mark : Bool) → mark ≡ (eqb above n || list_any (λ source. get_or marks source false) (sources (node_at p n))) → (m : ℕ) → m < n + 1 → get_or (slice_set marks n mark) m false ≡ reaches p above m
marks_with p plan above n marks l kept mark e m j =
    ⊎_elim
    (λ d. ap (λ k. get_or (slice_set marks n mark) k false) d ∙ get_or-set_same marks n mark false l ∙ e
    ∙ ap (λ b. eqb above n || b) (list_any_same (λ source. get_or marks source false) (reaches p above) (sources (node_at p n)) (λ port s found. kept s (source_smaller p plan n port s found)))
    ∙ sym (above_by_sources p plan above n) ∙ ap (reaches p above) (sym d))
    (λ k. get_or-set_other marks n m mark false (λ d. absurd (omega arith)) ∙ kept m k)
    (eq-or-lt_of_le (omega arith))

-- after the edges to node n are added, the edges to all nodes up to n are listed
pub edges_with : (p : List Node) (id n reader : ℕ) (edges : List Edge) → reader ≡ n → edges ≡ filter (leads_from p id) (flat_map ports_of (numbers_below n)) → edges ++ filter (leads_from p id) (ports_of reader) ≡ filter (leads_from p id) (flat_map ports_of (numbers_below (n + 1)))
edges_with p id n reader edges same kept =
    (λ i. kept i ++ filter (leads_from p id) (ports_of (same i)))
    ∙ sym (filter-append (leads_from p id) (flat_map ports_of (numbers_below n)) (ports_of n))
    ∙ ap (filter (leads_from p id)) (sym (flat_map-append ports_of (numbers_below n) (n ∷ [])))
    ∙ ap (λ m. filter (leads_from p id) (flat_map ports_of (numbers_below m))) next
  where
    next : suc n ≡ n + 1
    next = omega arith

-- The edges and the columns that a routing keeps: how the tables are built, and what they answer.
use Rattle.std.proofs.Common.{◌≡◌, ℕ, zero, suc, ◌+◌, ◌<◌, ◌≤◌, Bool, true, false, cond, List, [], ◌∷◌, ◌++◌, map, take, length, get_or, sym, refl, ap, ap₂, ◌∙◌, subst, Option, arith, inl, inr}
use Rattle.std.specs.List.{filter}
use Rattle.std.proofs.lemmas.List.{length-map, get_or-map, map_push, take_more}
use Rattle.std.proofs.lemmas.Option.{unwrap_or-slice_get}
use Rattle.antichain.proofs.Lists.{Among, filter_has}
use Rattle.plan.specs.Ancestors.{numbers_below}
use Rattle.plan.specs.Edges.{edges_from, leads_from}
use Rattle.plan.specs.Nodes.{node_at, arranged_by}
use Rattle.plan.specs.declared.edges.Edge.{Edge}
use Rattle.plan.specs.declared.node.Node.{Node}
use Rattle.plan.specs.declared.node.Node.TheVariants.{Input}
use Rattle.plan.proofs.PlanLemmas.{has_source, source_smaller}
use Rattle.progress.proofs.NumberLemmas.{numbers_long, number_at}
use Rattle.histories.specs.Histories.Dataflows.{Dataflow, node_of}
use Rattle.machine.specs.Boards.Routings.{IsRouting}
use Rattle.histories.proofs.HistoryLemmas.CutLemmas.{source_there}

-- ---- how the tables are built

-- the step that adds a node's columns
pub arranged_more : (nodes : List Node) (old new : List (Option ℕ)) (n m : ℕ) (more : Option ℕ) → n < length nodes → m ≡ n → more ≡ arranged_by (node_at nodes m) → old ≡ map arranged_by (take n nodes) → new ≡ old ++ more ∷ [] → new ≡ map arranged_by (take (n + 1) nodes)
arranged_more nodes old new n m more l s e k h =
    h
    ∙ (ap₂ (λ xs c. xs ++ c ∷ []) k (e ∙ ap arranged_by (ap (node_at nodes) s ∙ unwrap_or-slice_get nodes n (Input 0)))
    ∙ (sym (map_push arranged_by (take n nodes) (get_or nodes n (Input 0)))
    ∙ ap (map arranged_by) (sym (take_more nodes n (Input 0) l))))

-- ---- what the tables answer

-- each edge of a node leads from it, and to a node that exists
pub leading : (nodes : List Node) (n i : ℕ) (edge : Edge) (edges : List Edge) → edges ≡ edges_from nodes n → i < length edges → edge ≡ get_or edges i edge → leads_from nodes n edge ≡ true
leading nodes n i edge edges s l e = (filter_has (leads_from nodes n) _ edge (subst (Among edge) s (at edges i edge l e))).1
  where
    at : (xs : List Edge) (j : ℕ) (x : Edge) → j < length xs → x ≡ get_or xs j x → Among x xs
    at [] j x l e = absurd (omega (arith, l))
    at (y ∷ ys) zero x l e = inl (sym e)
    at (y ∷ ys) (suc j) x l e = inr (at ys j x (omega (arith, l)) e)

reader_there : (p : Dataflow) (n : ℕ) (edge : Edge) → leads_from p.nodes n edge ≡ true → edge.reader < length p.nodes
reader_there p n edge h = has_source p.nodes edge.reader edge.port n (source_there p edge n h)

none_passes : {X : Type 0} (test : X → Bool) (xs : List X) → ((x : X) → test x ≡ true → ⊥) → filter test xs ≡ []
none_passes test [] h = refl
none_passes {X} test (x ∷ xs) h = step (test x) refl (none_passes test xs h)
  where
    step : (b : Bool) → test x ≡ b → filter test xs ≡ [] → cond b (x ∷ filter test xs) (filter test xs) ≡ []
    step true e ih = absurd (h x e)
    step false e ih = ih

-- A routing as a function sees it: its fields are those of v, which is p
module _ (v p : Dataflow) (same : v ≡ p) (outgoing : List (List Edge)) (columns : List (Option ℕ)) (kept : IsRouting v outgoing columns) where
  abbrev r : IsRouting p outgoing columns
  r = subst (λ q. IsRouting q outgoing columns) same kept

  edges_long : length outgoing ≡ length p.nodes
  edges_long = ap length r.edges ∙ (length-map (numbers_below (length p.nodes)) (edges_from p.nodes) ∙ numbers_long (length p.nodes))

  columns_long : length columns ≡ length p.nodes
  columns_long = ap length r.arranged ∙ length-map p.nodes arranged_by

  -- the edges that are kept for a node
  pub edges_there : (n m : ℕ) (here : List Edge) → m ≡ n → m < length outgoing → here ≡ get_or outgoing m here → here ≡ edges_from p.nodes n
  edges_there n m here s l e =
      let k = subst (λ z. m < z) edges_long l in
      e
      ∙ (ap (λ xs. get_or xs m here) r.edges
      ∙ (get_or-map (edges_from p.nodes) (numbers_below (length p.nodes)) m 0 here (subst (λ z. m < z) (sym (numbers_long (length p.nodes))) k)
      ∙ ap (edges_from p.nodes) (number_at (length p.nodes) m 0 k ∙ s)))

  -- no edges lead from a number that is no node's
  pub none_there : (n m : ℕ) → m ≡ n → length outgoing ≤ m → [] ≡ edges_from p.nodes n
  none_there n m same l =
      sym (none_passes (leads_from p.nodes n) _ (λ edge h.
      let s = source_smaller p.nodes r.dataflow.plan edge.reader edge.port n (source_there p edge n h) in
      let k = reader_there p n edge h in
      let long = edges_long in
      absurd (omega (arith, s, k, l, long, same))))

  -- the columns that are kept for the reader of an edge
  module _ (n m : ℕ) (edge : Edge) (leads : leads_from p.nodes n edge ≡ true) (s : m ≡ edge.reader) where
    -- the reader of an edge has an entry in the table
    pub column_within : m < length columns
    column_within = let k = reader_there p n edge leads in let long = columns_long in omega (arith, k, long, s)

    -- the entry of an edge's reader is the number of columns by which it is arranged
    pub column_there : (c : Option ℕ) → c ≡ get_or columns m c → arranged_by (node_of p edge.reader) ≡ c
    column_there c e = sym (
        e
        ∙ (ap (λ xs. get_or xs m c) r.arranged
        ∙ (get_or-map arranged_by p.nodes m (Input 0) c (subst (λ z. m < z) columns_long column_within)
        ∙ (ap arranged_by (sym (unwrap_or-slice_get p.nodes m (Input 0)))
        ∙ ap (λ k. arranged_by (node_of p k)) s))))

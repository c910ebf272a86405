-- When a list of nodes is a plan, and what each node of a plan has.
use Rattle.std.proofs.Common.{◌≡◌, ℕ, ◌<◌, ◌≤◌, Bool, true, false, not, nat_le, IsTrue, ⊎_elim, eq-or-lt_of_le, Some, None, List, [], ◌∷◌, ◌++◌, take, drop, length, slice_get, unwrap_or, refl, ap, ap₂, sym, subst, ◌∙◌, arith}
use Rattle.std.specs.List.{list_all}
use Rattle.std.proofs.lemmas.Bool.{and_parts, cases_lt, ltb-true}
use Rattle.std.proofs.lemmas.List.{length-append, length-take-le, take-append-le, take-append-drop, get_or_append_left}
use Rattle.std.proofs.lemmas.Option.{unwrap_or-slice_get, slice_get_past, none-some}
use Rattle.std.proofs.Math.Seq.{take-append_seam, get_or-append_seam}
use Rattle.update.specs.declared.refusal.Refusal.{Refusal}
use Rattle.update.specs.declared.refusal.Refusal.TheVariants.{TooManyNodes, UnknownName}
use Rattle.plan.specs.Nodes.{node_at, sources, is_output}
use Rattle.plan.specs.Rules.{is_readable, node_faults, first_refusal, node_refusal, IsPlan}
use Rattle.plan.specs.declared.node.Node.{Node}
use Rattle.plan.specs.declared.node.Node.TheVariants.{Input}
use Rattle.plan.proofs.UpwardLemmas.{list_all_port, Smaller}

-- extending a list does not change the nodes that it had
pub node_before_more : (p more : List Node) (n : ℕ) → n < length p → node_at (p ++ more) n ≡ node_at p n
node_before_more p more n l = unwrap_or-slice_get (p ++ more) n (Input 0) ∙ get_or_append_left p more (Input 0) n l ∙ sym (unwrap_or-slice_get p n (Input 0))

-- an added node is the last one
pub node_after : (p : List Node) (node : Node) → node_at (p ++ node ∷ []) (length p) ≡ node
node_after p node = unwrap_or-slice_get (p ++ node ∷ []) (length p) (Input 0) ∙ get_or-append_seam p node [] (Input 0)

-- a number that the list does not have is read as an input
pub node_past : (p : List Node) (n : ℕ) → length p ≤ n → node_at p n ≡ Input 0
node_past p n l = ap (λ o. unwrap_or o (Input 0)) (slice_get_past p n l)

-- extending a list does not change why its nodes are refused
pub refusal_before_more : (p more : List Node) (n : ℕ) → n < length p → node_refusal (take n (p ++ more)) (node_at (p ++ more) n) ≡ node_refusal (take n p) (node_at p n)
refusal_before_more p more n l = ap₂ node_refusal (take-append-le n p more (omega arith)) (node_before_more p more n l)

-- no nodes are a plan
pub empty_plan : IsPlan []
empty_plan n l = absurd (omega (arith, l))

-- a plan with one more node that the rules accept is a plan
pub accepted_extends_plan : (p : List Node) (node : Node) → IsPlan p → node_refusal p node ≡ None → IsPlan (p ++ node ∷ [])
accepted_extends_plan p node plan e n l =
    ⊎_elim
    (λ d. ap (λ m. node_refusal (take m (p ++ node ∷ [])) (node_at (p ++ node ∷ []) m)) d ∙ ap₂ node_refusal (take-append_seam p (node ∷ [])) (node_after p node) ∙ e)
    (λ k. refusal_before_more p (node ∷ []) n k ∙ plan n k)
    (eq-or-lt_of_le (let s = length-append p (node ∷ []) in omega arith))

-- if an extended list is a plan, then so is the old part
pub plan_before_more : (p more : List Node) → IsPlan (p ++ more) → IsPlan p
plan_before_more p more plan n l = sym (refusal_before_more p more n l) ∙ plan n (let s = length-append p more in omega arith)

-- the first nodes of a plan are a plan
pub plan_take : (p : List Node) (k : ℕ) → IsPlan p → IsPlan (take k p)
plan_take p k plan = plan_before_more (take k p) (drop k p) (subst IsPlan (sym (take-append-drop k p)) plan)

-- if there is no first refusal, then the first fault is absent and the rest has no refusal
pub no_first : (b : Bool) (r : Refusal) (rest : List (Bool × Refusal)) → first_refusal ((b, r) ∷ rest) ≡ None → (b ≡ false) × (first_refusal rest ≡ None)
no_first true r rest h = absurd (none-some r (sym h))
no_first false r rest h = (refl, h)

-- if the failure of a test is a fault and there is no fault, then the test holds
pub no_fault : (b : Bool) → not b ≡ false → IsTrue b
no_fault true h = refl
no_fault false h = sym h

-- what the rules say of a node that they accept: fewer than 256 nodes are before it, its sources
-- may be read, and it has no fault
pub unrefused : (p : List Node) (node : Node) → node_refusal p node ≡ None → (nat_le 256 (length p) ≡ false) × IsTrue (list_all (is_readable p) (sources node)) × (first_refusal (node_faults p node) ≡ None)
unrefused p node h =
    let unread = not (list_all (is_readable p) (sources node)) in
    let first = no_first (nat_le 256 (length p)) TooManyNodes ((unread, UnknownName) ∷ node_faults p node) h in
    let second = no_first unread UnknownName (node_faults p node) first.1 in
    (first.0, no_fault (list_all (is_readable p) (sources node)) second.0, second.1)

-- a source of an accepted node exists and is no view
pub readable_port : (p : List Node) (node : Node) (port s : ℕ) → node_refusal p node ≡ None → slice_get (sources node) port ≡ Some s → (s < length p) × (is_output (node_at p s) ≡ false)
readable_port p node port s h e =
    let parts = and_parts _ _ (list_all_port (is_readable p) (sources node) port s (unrefused p node h).1 e) in
    (ltb-true s (length p) parts.0, shown (is_output (node_at p s)) parts.1)
  where
    shown : (b : Bool) → IsTrue (not b) → b ≡ false
    shown true k = sym k
    shown false k = refl

-- a node with a source is in the list
pub has_source : (p : List Node) (n port s : ℕ) → slice_get (sources (node_at p n)) port ≡ Some s → n < length p
has_source p n port s e =
    ⊎_elim
    (λ l. l)
    (λ l. absurd (none-some s (ap (λ node. slice_get (sources node) port) (sym (node_past p n l)) ∙ e)))
    (cases_lt n (length p))

-- the first k nodes of a plan are the same nodes as in the plan
pub node_in_take : (p : List Node) (k n : ℕ) → k ≤ length p → n < k → node_at (take k p) n ≡ node_at p n
node_in_take p k n l j =
    sym (node_before_more (take k p) (drop k p) n (let s = length-take-le k p l in omega arith))
    ∙ ap (λ q. node_at q n) (take-append-drop k p)

-- the sources of a plan's node have smaller numbers
pub source_smaller : (p : List Node) → IsPlan p → (n port s : ℕ) → slice_get (sources (node_at p n)) port ≡ Some s → s < n
source_smaller p plan n port s e =
    let l = has_source p n port s e in
    let r = readable_port (take n p) (node_at p n) port s (plan n l) e in
    let k = length-take-le n p (omega arith) in
    let j = r.0 in
    omega arith

-- the sources of a plan's node are no views
pub source_readable : (p : List Node) → IsPlan p → (n port s : ℕ) → slice_get (sources (node_at p n)) port ≡ Some s → is_output (node_at p s) ≡ false
source_readable p plan n port s e =
    let l = has_source p n port s e in
    let r = readable_port (take n p) (node_at p n) port s (plan n l) e in
    ap is_output (sym (node_in_take p n s (omega arith) (source_smaller p plan n port s e))) ∙ r.1

-- the form of this fact that recursion on a plan needs: sources have smaller numbers
pub smaller : (p : List Node) → IsPlan p → (limit : ℕ) → Smaller p limit
smaller p plan limit n port s l e = source_smaller p plan n port s e

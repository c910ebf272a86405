-- The level up to which an arrangement serves the reductions that read it.
use Rattle.std.proofs.Common.{◌≡◌, ℕ, zero, suc, ◌+◌, ◌<◌, ◌≤◌, Bool, true, false, not, ◌||◌, eqb, cond, List, [], ◌++◌, length, Option, IsTrue, refl, sym, ap, ◌∙◌, subst, arith, true≢false}
use Rattle.std.specs.List.{slice_get}
use Rattle.std.proofs.lemmas.Bool.{and_from, eq-eqb, eqb-false, eqb-true, ne_eqb, or_left, or_right}
use Rattle.std.proofs.lemmas.List.Folds.{list_all-append, list_any-append}
use Rattle.lattice.specs.Times.{Times}
use Rattle.lattice.specs.Order.{PartialOrderLaws}
use Rattle.lattice.specs.Frontiers.{all_beyond, is_beyond}
use Rattle.lattice.proofs.FrontierLemmas.{all_beyond_from, all_beyond_later, beyond_later}
use Rattle.plan.specs.Nodes.{node_at}
use Rattle.plan.specs.declared.kind.Kind.{Kind}
use Rattle.plan.specs.declared.node.Node.{Node}
use Rattle.plan.specs.declared.node.Node.TheVariants.{Reduce}
use Rattle.operator.specs.Reductions.{ReducingView}
use Rattle.operator_laws.specs.GatheredUpdates.{IsHeldFor}
use Rattle.desk_laws.specs.Own.{due_in}
use Rattle.desk.specs.Upkeep.{IsLevel, ServesReductions, due_before, due_for, front_of_port}

one_more : (n : ℕ) → suc n ≡ n + 1
one_more n = omega arith

both_ways : (a b : Bool) → (a ≡ true → b ≡ true) → (b ≡ true → a ≡ true) → a ≡ b
both_ways true b f g = sym (f refl)
both_ways false true f g = g refl
both_ways false false f g = refl

-- what the test of a node's source says
pub same_source : (from source : ℕ) (b : Bool) → b ≡ not (eqb from source) → b ≡ false → from ≡ source
same_source from source b is e = eqb-true from source (by (eqb from source) (sym is ∙ e))
  where
    by : (c : Bool) → not c ≡ false → c ≡ true
    by true f = refl
    by false f = absurd (true≢false f)

pub other_source : (from source : ℕ) (b : Bool) → b ≡ not (eqb from source) → b ≡ true → eqb from source ≡ false
other_source from source b is e = by (eqb from source) (sym is ∙ e)
  where
    by : (c : Bool) → not c ≡ true → c ≡ false
    by true f = absurd (true≢false (sym f))
    by false f = refl

or_none : (b : Bool) → b ≡ (b || false)
or_none true = refl
or_none false = refl

or_three : (a b c : Bool) → ((a || b) || c) ≡ (a || (b || c))
or_three true b c = refl
or_three false b c = refl

module _ {T : Type 0} (times : Times T) (fronts : List (List T)) (reductions : List (Option (ReducingView T))) (source : ℕ) where
  abbrev due : ℕ → Node → List T
  due = due_for fronts reductions source

  -- ---- the times of one node

  -- a node that is no reduction of the source needs none
  none_due : (n : ℕ) (node : Node) → ((kind : Kind) (from : ℕ) → node ≡ Reduce kind from → from ≡ source → ⊥) → due n node ≡ []
  none_due n (Reduce kind from) far = ap (λ b. cond b (due_in (slice_get reductions n) ++ front_of_port fronts n 0) []) (ne_eqb from source (λ e. far kind from refl e))
  none_due n other far = refl

  some_due : (n : ℕ) (node : Node) (kind : Kind) → node ≡ Reduce kind source → due n node ≡ due_in (slice_get reductions n) ++ front_of_port fronts n 0
  some_due n node kind e = ap (due n) e ∙ ap (λ b. cond b (due_in (slice_get reductions n) ++ front_of_port fronts n 0) []) (eq-eqb source source refl)

  pub nothing_put : (n : ℕ) (node : Node) (L : List T) → ((kind : Kind) (from : ℕ) → node ≡ Reduce kind from → from ≡ source → ⊥)
      → (t : T) → is_beyond times L t ≡ (is_beyond times L t || is_beyond times (due n node) t)
  nothing_put n node L far t = or_none (is_beyond times L t) ∙ ap (λ F. is_beyond times L t || is_beyond times F t) (sym (none_due n node far))

  pub other_put : (n : ℕ) (node : Node) (kind : Kind) (from : ℕ) → node ≡ Reduce kind from → eqb from source ≡ false → (L : List T) → (t : T) → is_beyond times L t ≡ (is_beyond times L t || is_beyond times (due n node) t)
  other_put n node kind from e far L t =
      or_none (is_beyond times L t)
      ∙ ap (λ F. is_beyond times L t || is_beyond times F t) (sym (ap (due n) e ∙ ap (λ b. cond b (due_in (slice_get reductions n) ++ front_of_port fronts n 0) []) far))

  -- what is held stands for what is pending
  held_same : PartialOrderLaws times → (held ts : List T) → IsHeldFor times held ts → (t : T) → is_beyond times held t ≡ is_beyond times ts t
  held_same o held ts is t =
      both_ways (is_beyond times held t) (is_beyond times ts t) (λ b. beyond_later o ts held t is.tight b) (λ b. beyond_later o held ts t is.covers b)

  pub both_put : PartialOrderLaws times → (n : ℕ) (node : Node) (kind : Kind) (from : ℕ) → node ≡ Reduce kind from → from ≡ source → (L M N held front : List T) → IsHeldFor times held (due_in (slice_get reductions n)) → front ≡ front_of_port fronts n 0
      → ((t : T) → is_beyond times M t ≡ (is_beyond times L t || is_beyond times held t)) → ((t : T) → is_beyond times N t ≡ (is_beyond times M t || is_beyond times front t))
      → (t : T) → is_beyond times N t ≡ (is_beyond times L t || is_beyond times (due n node) t)
  both_put o n node kind from e at L M N held front is here first second t =
      let pending = due_in (slice_get reductions n) in
      second t
      ∙ (ap (λ b. b || is_beyond times front t) (first t)
      ∙ (or_three (is_beyond times L t) (is_beyond times held t) (is_beyond times front t)
      ∙ ap (λ b. is_beyond times L t || b)
      ((λ i. held_same o held pending is t i || is_beyond times (here i) t)
      ∙ (sym (list_any-append (λ f. times.below f t) pending (front_of_port fronts n 0)) ∙ ap (λ F. is_beyond times F t) (sym (some_due n node kind (e ∙ ap (Reduce kind) at)))))))

  -- ---- those of all nodes

  module _ (plan : List Node) where
    abbrev before : ℕ → List T
    before = due_before fronts reductions source plan

    -- before the first node there are none
    pub none_before : (t : T) → is_beyond times [] t ≡ is_beyond times (before 0) t
    unfolding due_before
    none_before t = refl

    -- one node more
    pub due_next : (n node : ℕ) → node ≡ n → (L M : List T) → ((t : T) → is_beyond times L t ≡ is_beyond times (before n) t)
        → ((t : T) → is_beyond times M t ≡ (is_beyond times L t || is_beyond times (due node (node_at plan node)) t))
        → (t : T) → is_beyond times M t ≡ is_beyond times (before (n + 1)) t
    unfolding due_before
    due_next n node same L M so_far more t =
        more t
        ∙ ((λ i. so_far t i || is_beyond times (due (same i) (node_at plan (same i))) t)
        ∙ (sym (list_any-append (λ f. times.below f t) (before n) (due n (node_at plan n))) ∙ ap (λ k. is_beyond times (before k) t) (one_more n)))

    -- the times of a node are among those of all
    among : (n m : ℕ) → n < m → (t : T) → is_beyond times (due n (node_at plan n)) t ≡ true → is_beyond times (before m) t ≡ true
    unfolding due_before
    among n zero l t b = absurd (omega (arith, l))
    among n (suc m) l t b = list_any-append (λ f. times.below f t) (before m) (due m (node_at plan m)) ∙ by (λ k. among n m k t b) (eqb n m) refl
      where
        by : (n < m → is_beyond times (before m) t ≡ true) → (e : Bool) → eqb n m ≡ e → (is_beyond times (before m) t || is_beyond times (due m (node_at plan m)) t) ≡ true
        by older true e = or_right (is_beyond times (before m) t) _ (subst (λ k. is_beyond times (due k (node_at plan k)) t ≡ true) (eqb-true n m e) b)
        by older false e = or_left _ _ (older (let far = eqb-false n m e in omega (arith, l, far)))

    -- what serves the reductions has all of them beyond it
    served : (F : List T) → ServesReductions fronts reductions source times plan F → (n : ℕ) → n < length plan → (node : Node) → node_at plan n ≡ node → IsTrue (all_beyond times F (due n node))
    served F h n l (Reduce kind from) e = by (eqb from source) refl
      where
        by : (c : Bool) → eqb from source ≡ c → IsTrue (all_beyond times F (cond c (due_in (slice_get reductions n) ++ front_of_port fronts n 0) []))
        by true c =
            let x = h n kind l (e ∙ ap (Reduce kind) (eqb-true from source c)) in
            list_all-append (is_beyond times F) (due_in (slice_get reductions n)) (front_of_port fronts n 0) ∙ and_from (all_beyond times F (due_in (slice_get reductions n))) (all_beyond times F (front_of_port fronts n 0)) x.0 x.1
        by false c = refl
    served F h n l other e = refl

    all_served : (F : List T) → ServesReductions fronts reductions source times plan F → (m : ℕ) → m ≤ length plan → IsTrue (all_beyond times F (before m))
    unfolding due_before
    all_served F h zero l = refl
    all_served F h (suc m) l =
        list_all-append (is_beyond times F) (before m) (due m (node_at plan m))
        ∙ and_from (all_beyond times F (before m)) (all_beyond times F (due m (node_at plan m))) (all_served F h m (omega (arith, l))) (served F h m (omega (arith, l)) (node_at plan m) refl)

    -- so the least of the times of all nodes is the level
    pub is_level : PartialOrderLaws times → (L : List T) (end : ℕ) → end ≡ length plan → ((t : T) → is_beyond times L t ≡ is_beyond times (before end) t) → IsLevel fronts reductions source times plan L
    is_level o L end whole same = record {
      serves = λ n kind l e.
          let inside : n < end = omega (arith, l, whole) in
          let pending = due_in (slice_get reductions n) in
          let front = front_of_port fronts n 0 in
          let has : (t : T) → is_beyond times (due n (node_at plan n)) t ≡ (is_beyond times pending t || is_beyond times front t) = λ t. ap (λ F. is_beyond times F t) (some_due n (node_at plan n) kind e) ∙ list_any-append (λ f. times.below f t) pending front in (
            all_beyond_from o L pending (λ t b. same t ∙ among n end inside t (has t ∙ or_left _ _ b)),
            all_beyond_from o L front (λ t b. same t ∙ among n end inside t (has t ∙ or_right (is_beyond times pending t) _ b)),
          );
      latest = λ F h. all_beyond_later o F (before end) L (all_served F h end (omega (arith, whole))) (all_beyond_from o (before end) L (λ t b. sym (same t) ∙ b));
    }

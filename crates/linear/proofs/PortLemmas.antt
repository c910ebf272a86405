-- The ports of a node: which ports read nothing, and how more input at a port changes the bound of
-- a linear node.
use Rattle.std.proofs.Common.{◌≡◌, ℕ, zero, suc, ◌+◌, ◌≤◌, ◌||◌, true, cond, eqb, nat_lt, ⊎_elim, IsTrue, List, [], ◌∷◌, None, length, slice_get, sym, ◌∙◌, arith}
use Rattle.std.proofs.lemmas.Bool.{true≢false}
use Rattle.std.proofs.lemmas.Bool.Decides.{nat_tests}
use Rattle.std.proofs.lemmas.Option.{none-some}
use Rattle.plan.specs.Nodes.{sources, is_linear}
use Rattle.plan.specs.Bounds.{output_bound}
use Rattle.plan.specs.declared.node.Node.{Node}
use Rattle.plan.specs.declared.node.Node.TheVariants.{Input, Concat, Join, Reduce}
use Rattle.plan.proofs.StepLemmas.{input_or_source}
use Rattle.linear.specs.Ports.{is_port}

-- if a node has no source at a port that it has, then it has no sources
first_none : (xs : List ℕ) (port : ℕ) → IsTrue (eqb port 0 || nat_lt port (length xs)) → slice_get xs port ≡ None → slice_get xs 0 ≡ None
first_none xs zero h e = e
first_none [] (suc port) h e = e
first_none (x ∷ xs) (suc port) h e = absurd (within xs port (omega_lt port (length xs) h) e)
  where
    omega_lt : (m n : ℕ) → IsTrue (eqb (suc m) 0 || nat_lt (suc m) (suc n)) → nat_lt m n ≡ true
    omega_lt m n h = grind (arith, nat_tests)

    within : (ys : List ℕ) (i : ℕ) → nat_lt i (length ys) ≡ true → slice_get ys i ≡ None → ⊥
    within [] i l e = absurd (grind (arith, nat_tests))
    within (y ∷ ys) zero l e = cc
    within (y ∷ ys) (suc i) l e = within ys i (less i (length ys) l) e
      where
        less : (m n : ℕ) → nat_lt (suc m) (suc n) ≡ true → nat_lt m n ≡ true
        less m n l = grind (arith, nat_tests)

-- a node that reads no source at one of its ports is an input
pub input_at : (node : Node) (port : ℕ) → IsTrue (is_port node port) → slice_get (sources node) port ≡ None → (width : ℕ) × (node ≡ Input width)
input_at node port h e =
    ⊎_elim (λ r. r) (λ r. absurd (none-some r.0 (sym (first_none (sources node) port h e) ∙ r.1))) (input_or_source node)

-- the bounds g are the bounds f with x more at one port
module _ (x : ℕ) (f g : ℕ → ℕ) where
  abbrev IsMore : ℕ → Type 0
  IsMore port = (i : ℕ) → g i ≡ cond (eqb i port) (x + f i) (f i)

  at_none : (port : ℕ) → IsTrue (eqb port 0 || nat_lt port 0) → IsMore port → x + f 0 ≤ g 0
  at_none zero h m = let e = m 0 in omega (arith, e)
  at_none (suc port) h m = absurd (grind (arith, nat_tests))

  at_one : (port : ℕ) → IsTrue (eqb port 0 || nat_lt port 1) → IsMore port → x + f 0 ≤ g 0
  at_one zero h m = let e = m 0 in omega (arith, e)
  at_one (suc port) h m = absurd (grind (arith, nat_tests))

  at_two : (port : ℕ) → IsTrue (eqb port 0 || nat_lt port 2) → IsMore port → x + (f 0 + f 1) ≤ g 0 + g 1
  at_two zero h m = let e = m 0 in let d = m 1 in omega (arith, e, d)
  at_two (suc zero) h m = let e = m 0 in let d = m 1 in omega (arith, e, d)
  at_two (suc (suc port)) h m = absurd (grind (arith, nat_tests))

  -- x more at a port is at least x more in the bound of the node, so a step may give that much more
  pub output_bound-more : (node : Node) → IsTrue (is_linear node) → (port : ℕ) → IsTrue (is_port node port) → IsMore port → x + output_bound node 0 f ≤ output_bound node 0 g
  output_bound-more (Input width) l port h m = at_none port h m
  output_bound-more (Concat left right) l port h m = at_two port h m
  output_bound-more (Join left right) l port h m = absurd (true≢false (sym l))
  output_bound-more (Reduce kind source) l port h m = absurd (true≢false (sym l))
  output_bound-more node l port h m = at_one port h m

use Rattle.std.proofs.Common.{◌≡◌, ◌∙◌, ◌∷◌, ◌++◌, [], suc, List, Some, length, length-append, ap, arith, subst}
use Rattle.std.specs.Prelude.{option_to_list, slice_get}
use Rattle.plan.specs.declared.node.Node.{Node}
use Rattle.plan.specs.declared.node.Node.TheVariants.{Input, Output}
use Rattle.shared_board.specs.Tenures.{IsFirst, opening_for, opening_in}
use Rattle.engine_trials.proofs.actor_tests.opened.Goals as goal

-- a list of two, from its end
two_of : {A : Type 0} (xs ys zs : List A) (w x : A) → xs ≡ ys ++ x ∷ [] → ys ≡ zs ++ w ∷ [] → length xs ≡ 2 → (slice_get xs 0 ≡ Some w) × (slice_get xs 1 ≡ Some x)
two_of xs ys [] w x e f n =
    let all : xs ≡ w ∷ x ∷ [] = e ∙ ap (λ l. l ++ x ∷ []) f in (ap (λ l. slice_get l 0) all, ap (λ l. slice_get l 1) all)
two_of xs ys (z ∷ zs) w x e f n =
    let all : xs ≡ z ∷ ((zs ++ w ∷ []) ++ x ∷ []) = e ∙ ap (λ l. l ++ x ∷ []) f in
    let long : length xs ≡ suc (length ((zs ++ w ∷ []) ++ x ∷ [])) = ap length all in
    let a = length-append (zs ++ w ∷ []) (x ∷ []) in
    let b = length-append zs (w ∷ []) in
    absurd (omega (arith, long, a, b, n))

-- the worker is the first of the two actors
pub invariant_of-result : goal.invariant_of-result
invariant_of-result g c =
    let e : c.in_ok-actors.actors.items ≡ c.pop.new.self.items ++ c.unwrap-client.result ∷ [] = c.pop.ensures.items ∙ ap (λ o. c.pop.new.self.items ++ option_to_list o) c.unwrap-client.ensures in
    let f : c.pop.new.self.items ≡ c.pop-2.new.self.items ++ c.unwrap-worker.result ∷ [] = c.pop-2.ensures.items ∙ ap (λ o. c.pop-2.new.self.items ++ option_to_list o) c.unwrap-worker.ensures in
    let there = two_of _ _ _ c.unwrap-worker.result c.unwrap-client.result e f c.in_ok-actors.ensures.count in
    let first = subst (λ (p : List Node). IsFirst (opening_for p 1 1) 0 c.unwrap-worker.result) c.in_ok-viewed.ensures (c.in_ok-actors.ensures.each 0 c.unwrap-worker.result there.0) in
    (first.numbered, ap opening_in first.seen, c.looks_take_nothing_in_hand.ensures.first (opening_for (Input 1 ∷ Output 0 ∷ []) 1 1) 0 c.unwrap-worker.result first c.known.ensures)

-- the client is the second
pub invariant_of-result-2 : goal.invariant_of-result-2
invariant_of-result-2 g c =
    let e : c.in_ok-actors.actors.items ≡ c.pop.new.self.items ++ c.unwrap-client.result ∷ [] = c.pop.ensures.items ∙ ap (λ o. c.pop.new.self.items ++ option_to_list o) c.unwrap-client.ensures in
    let f : c.pop.new.self.items ≡ c.pop-2.new.self.items ++ c.unwrap-worker.result ∷ [] = c.pop-2.ensures.items ∙ ap (λ o. c.pop-2.new.self.items ++ option_to_list o) c.unwrap-worker.ensures in
    let there = two_of _ _ _ c.unwrap-worker.result c.unwrap-client.result e f c.in_ok-actors.ensures.count in
    let first = subst (λ (p : List Node). IsFirst (opening_for p 1 1) 1 c.unwrap-client.result) c.in_ok-viewed.ensures (c.in_ok-actors.ensures.each 1 c.unwrap-client.result there.1) in
    record { number = first.numbered; knows = ap opening_in first.seen }

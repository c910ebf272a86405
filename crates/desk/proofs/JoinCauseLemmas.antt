-- Why the pairs of a bundle are too large: with what was fed, a node has no small bound.
use Rattle.std.proofs.Common.{◌≡◌, ℕ, ◌+◌, ◌*◌, ◌^◌, ◌≤◌, ◌⊎◌, Bool, List, ◌∷◌, Some, inl, inr, sym, refl, ap, ◌∙◌, subst, arith}
use Rattle.std.specs.List.{slice_get}
use Rattle.std.specs.declared.cmp.Ordering.{Ordering}
use Rattle.std.proofs.Math.Nat.{add-mul, mul-add}
use Rattle.lattice.specs.Times.{Times}
use Rattle.lattice.specs.Order.{PartialOrderLaws}
use Rattle.update.specs.Updates.{size}
use Rattle.update.specs.declared.change.Update.{Update}
use Rattle.plan.specs.Bounds.{output_bound}
use Rattle.plan.specs.Nodes.{is_reduction}
use Rattle.plan.specs.declared.node.Node.TheVariants.{Join}
use Rattle.trace.specs.Readings.{Insertion, all_updates}
use Rattle.join.specs.declared.side.Side.TheVariants.{Left, Right}
use Rattle.histories.specs.declared.event.Bundle.{Bundle}
use Rattle.histories.specs.declared.event.Event.{Event}
use Rattle.histories.specs.Histories.Dataflows.{Dataflow, IsDataflow, node_of}
use Rattle.histories.specs.Histories.NodeLaws.{received_at}
use Rattle.histories.specs.Histories.Promises.{changes_in}
use Rattle.histories.specs.Histories.States.{State}
use Rattle.histories.specs.Histories.{IsLegal, state_after}
use Rattle.operator_laws.proofs.GatheredLemmas.{size_both}
use Rattle.operator.specs.Joins.{JoiningView}
use Rattle.shared_board.specs.Large.{HasNoSmallBound}
use Rattle.desk_laws.specs.Own.{DeskView}
use Rattle.desk_laws.specs.declared.hand.Hand.TheVariants.{Taken}
use Rattle.desk.specs.Desks.{IsRight}
use Rattle.desk.specs.Joinings.{ArePairsLarge}
use Rattle.desk.proofs.JoinLemmas.{before, here, in_hand, left_cause, not_in_hand, reads_left, reads_right, right_cause, within}
use Rattle.desk.proofs.LargeLemmas.{large_load, large_received}

-- the updates of the newest insertion, and all before
size_with : {T : Type 0} (received us : List (Update T)) (all taken : List (Insertion T)) (i : Insertion T) → received ≡ all_updates all → all ≡ i ∷ taken → i.updates ≡ us → size received ≡ size us + size (all_updates taken)
size_with received us all taken i got newest same = ap size (got ∙ ap all_updates newest) ∙ (size_both i.updates (all_updates taken) ∙ ap (λ vs. size vs + size (all_updates taken)) same)

product_left : (a b c x y : ℕ) → x ≡ a + b → y ≡ c → 2 ^ 63 ≤ a * c → 2 ^ 63 ≤ x * y
product_left a b c x y e f large =
    let z : x * y ≡ (a + b) * c = (λ i. e i * f i) in
    let s = add-mul a b c in
    omega (arith, z, s, large)

product_right : (a b c x y : ℕ) → x ≡ a + b → y ≡ c → 2 ^ 63 ≤ a * c → 2 ^ 63 ≤ y * x
product_right a b c x y e f large =
    let z : y * x ≡ c * (a + b) = (λ i. f i * e i) in
    let s = mul-add c a b in
    let t : a * c ≡ c * a = turn a c in
    omega (arith, z, s, t, large)
  where
    turn : (a b : ℕ) → a * b ≡ b * a
    turn a b = omega arith

module _ {T : Type 0} (times : Times T) (o : PartialOrderLaws times) (cmp : T → T → Ordering) (p : Dataflow) (q : IsDataflow p) (es : List (Event T)) (legal : IsLegal times p es) (k : ℕ) (d : DeskView T) (bundle : Bundle T) (more : Bool) (l r : ℕ)
    (e : node_of p bundle.place.node ≡ Join l r) (x : IsRight times p (state_after times p es) k d (Taken bundle more)) (j : JoiningView T) (there : slice_get d.joins bundle.place.node ≡ Some (Some j)) where
  abbrev n : ℕ
  n = bundle.place.node

  abbrev w : State T
  w = state_after times p es

  -- what a join may make of what it received
  large_product : 2 ^ 63 ≤ size (received_at w n k 0) * size (received_at w n k 1) → HasNoSmallBound times cmp p.nodes (changes_in w)
  large_product large =
      large_load times o cmp p q es legal n k (within times p q w k d bundle more l r e x) x.own.worker (ap is_reduction e)
      (subst (λ node. 2 ^ 63 ≤ output_bound node 0 (λ port. size (received_at w n k port))) (sym e) large)

  pub left_large : bundle.place.port ≡ 0 → ArePairsLarge times Left d.arrangements r j bundle.updates → HasNoSmallBound times cmp p.nodes (changes_in w)
  left_large port large = by (left_cause times p q w k d bundle more l r e x j there port large)
    where
      old : List (Insertion T)
      old = (before times p q w k d bundle more l r e x).left

      others : List (Insertion T)
      others = (before times p q w k d bundle more l r e x).right

      own_size : size (received_at w n k 0) ≡ size bundle.updates + size (all_updates old)
      own_size =
          let newest = (before times p q w k d bundle more l r e x).at_left.newest bundle more refl (in_hand times p q w k d bundle more l r e x 0 port) in
          size_with (received_at w n k 0) bundle.updates (x.own.keeps.works.left n) old newest.0 (here times p q w k d bundle more l r e x).0.at_left newest.1 newest.2

      other_size : size (received_at w n k 1) ≡ size (all_updates others)
      other_size =
          ap size ((here times p q w k d bundle more l r e x).0.at_right
          ∙ ap all_updates ((before times p q w k d bundle more l r e x).at_right.same (not_in_hand times p q w k d bundle more l r e x 0 1 port refl)))

      by : (2 ^ 63 ≤ size bundle.updates) ⊎ (2 ^ 63 ≤ size bundle.updates * size (all_updates others)) → HasNoSmallBound times cmp p.nodes (changes_in w)
      by (inl many) = large_received times o cmp p q es legal n 0 l k x.own.worker (reads_left times p q w k d bundle more l r e x) (let s = own_size in omega (arith, s, many))
      by (inr many) = large_product (product_left (size bundle.updates) (size (all_updates old)) (size (all_updates others)) (size (received_at w n k 0)) (size (received_at w n k 1)) own_size other_size many)

  pub right_large : bundle.place.port ≡ 1 → ArePairsLarge times Right d.arrangements l j bundle.updates → HasNoSmallBound times cmp p.nodes (changes_in w)
  right_large port large = by (right_cause times p q w k d bundle more l r e x j there port large)
    where
      old : List (Insertion T)
      old = (before times p q w k d bundle more l r e x).right

      others : List (Insertion T)
      others = (before times p q w k d bundle more l r e x).left

      own_size : size (received_at w n k 1) ≡ size bundle.updates + size (all_updates old)
      own_size =
          let newest = (before times p q w k d bundle more l r e x).at_right.newest bundle more refl (in_hand times p q w k d bundle more l r e x 1 port) in
          size_with (received_at w n k 1) bundle.updates (x.own.keeps.works.right n) old newest.0 (here times p q w k d bundle more l r e x).0.at_right newest.1 newest.2

      other_size : size (received_at w n k 0) ≡ size (all_updates others)
      other_size =
          ap size ((here times p q w k d bundle more l r e x).0.at_left
          ∙ ap all_updates ((before times p q w k d bundle more l r e x).at_left.same (not_in_hand times p q w k d bundle more l r e x 1 0 port refl)))

      by : (2 ^ 63 ≤ size bundle.updates) ⊎ (2 ^ 63 ≤ size bundle.updates * size (all_updates others)) → HasNoSmallBound times cmp p.nodes (changes_in w)
      by (inl many) = large_received times o cmp p q es legal n 1 r k x.own.worker (reads_right times p q w k d bundle more l r e x) (let s = own_size in omega (arith, s, many))
      by (inr many) = large_product (product_right (size bundle.updates) (size (all_updates old)) (size (all_updates others)) (size (received_at w n k 1)) (size (received_at w n k 0)) own_size other_size many)

-- Cutting an emission: the list that the last bundle has, the stamp of a list, and the bundles
-- along the last edge behind those along the others.
use Rattle.std.proofs.Common.{◌≡◌, ℕ, zero, suc, ◌<◌, ◌≤◌, Bool, true, false, cond, eqb, Option, Some, None, List, [], ◌∷◌, ◌++◌, length, take, get_or, Result, Ok, Err, sym, refl, ap, ◌∙◌, subst, append-nil, append_assoc, arith}
use Rattle.std.specs.Prelude.{IfOk}
use Rattle.std.specs.List.{flat_map}
use Rattle.plan.specs.Edges.{edges_from, leads_from}
use Rattle.plan.specs.declared.edges.Edge.{Edge}
use Rattle.plan.specs.declared.node.Node.{Node}
use Rattle.update.specs.declared.change.Update.{Update}
use Rattle.plan.specs.Ancestors.{numbers_below}
use Rattle.plan.specs.Nodes.{arranged_by}
use Rattle.histories.specs.declared.event.Emission.{Emission}
use Rattle.histories.specs.Histories.Cuts.{bundled, cut, cut_along}
use Rattle.histories.specs.Histories.Dataflows.{Dataflow, node_of, source_of}
use Rattle.histories.specs.Histories.Shares.{part, share, share_from}
use Rattle.histories.specs.Histories.States.{place}
use Rattle.machine.proofs.BoardLemmas.RoutingLemmas.{leading}
use Rattle.lattice.specs.Times.{Times}

-- what follows from a fact of an answer is a fact of the answer
pub if_ok : {T E : Type 0} (r : Result T E) (P Q : T → Type 0) → ((x : T) → P x → Q x) → IfOk r P → IfOk r Q
if_ok (Ok x) P Q f h = f x h
if_ok (Err e) P Q f h = tt

-- a list without length has no elements
pub no_length : {X : Type 0} (xs : List X) → length xs ≡ 0 → xs ≡ []
no_length [] e = refl
no_length (x ∷ xs) e = absurd (omega (arith, e))

module _ {T : Type 0} (times : Times T) (p : Dataflow) (g : Emission T) (none : g.updates ≡ []) where
  if_nothing : (b : Bool) (us : List (Update T)) → us ≡ [] → cond b us [] ≡ []
  if_nothing true us e = e
  if_nothing false us e = refl

  part_nothing : (columns : Option ℕ) (giver worker : ℕ) (us : List (Update T)) → us ≡ [] → part p columns giver worker us ≡ []
  part_nothing None giver worker us e = if_nothing (eqb giver worker) us e
  part_nothing (Some columns) giver worker us e = ap (part p (Some columns) giver worker) e

  share_nothing : (source columns : Option ℕ) (worker : ℕ) → share_from p source columns worker g ≡ []
  share_nothing None columns worker = refl
  share_nothing (Some source) columns worker = if_nothing (eqb g.node source) (part p columns g.worker worker g.updates) (part_nothing columns g.worker worker g.updates none)

  along_nothing : (edge : Edge) (ks : List ℕ) → flat_map (λ k. bundled times (place edge.reader edge.port k) (share p (place edge.reader edge.port k) g)) ks ≡ []
  along_nothing edge [] = refl
  along_nothing edge (k ∷ ks) =
      ap (λ us. bundled times (place edge.reader edge.port k) us ++ flat_map (λ j. bundled times (place edge.reader edge.port j) (share p (place edge.reader edge.port j) g)) ks) (share_nothing (source_of p edge.reader edge.port) (arranged_by (node_of p edge.reader)) k)
      ∙ along_nothing edge ks

  -- no bundle is cut of no updates
  nothing_cut : (edges : List Edge) → flat_map (cut_along times p g) edges ≡ []
  nothing_cut [] = refl
  nothing_cut (edge ∷ edges) = ap (λ bs. bs ++ flat_map (cut_along times p g) edges) (along_nothing edge (numbers_below p.workers)) ∙ nothing_cut edges

  pub cut_nothing : [] ≡ cut times p g
  cut_nothing = sym (nothing_cut (edges_from p.nodes g.node))

-- the edges among the first ones lead from the node, too
pub leading_first : (nodes : List Node) (n count i : ℕ) (edge : Edge) (edges : List Edge) → edges ≡ take count (edges_from nodes n) → count ≤ length (edges_from nodes n) → i < length edges → edge ≡ get_or edges i edge → leads_from nodes n edge ≡ true
leading_first nodes n count i edge edges s c l e =
    let here = subst (λ xs. i < length xs) s l in
    leading nodes n i edge (edges_from nodes n) refl (shorter count (edges_from nodes n) here) (e ∙ (ap (λ xs. get_or xs i edge) s ∙ among count i (edges_from nodes n) here))
  where
    shorter : (k : ℕ) (xs : List Edge) → i < length (take k xs) → i < length xs
    shorter zero xs h = absurd (omega (arith, h))
    shorter (suc k) [] h = h
    shorter (suc k) (x ∷ xs) h = below_all i k xs h
      where
        below_all : (j m : ℕ) (ys : List Edge) → j < suc (length (take m ys)) → j < suc (length ys)
        below_all j zero ys q = omega (arith, q)
        below_all j (suc m) [] q = q
        below_all zero (suc m) (y ∷ ys) q = omega arith
        below_all (suc j) (suc m) (y ∷ ys) q = let r = below_all j m ys (omega (arith, q)) in omega (arith, r)

    among : (k j : ℕ) (xs : List Edge) → j < length (take k xs) → get_or (take k xs) j edge ≡ get_or xs j edge
    among zero j xs h = absurd (omega (arith, h))
    among (suc k) j [] h = refl
    among (suc k) zero (x ∷ xs) h = refl
    among (suc k) (suc j) (x ∷ xs) h = among k j xs (omega (arith, h))

-- what the first elements give, and behind it what the last one gives, is what all give
pub last_behind : {X A : Type 0} (f : X → List A) (xs : List X) (n : ℕ) (x : X) → suc n ≡ length xs → x ≡ get_or xs n x → flat_map f (take n xs) ++ f x ≡ flat_map f xs
last_behind f [] n x s e = absurd (omega (arith, s))
last_behind f (y ∷ []) zero x s e = ap f e ∙ sym (append-nil (f y))
last_behind f (y ∷ (z ∷ ys)) zero x s e = absurd (omega (arith, s))
last_behind f (y ∷ []) (suc n) x s e = absurd (omega (arith, s))
last_behind f (y ∷ (z ∷ ys)) (suc n) x s e =
    append_assoc (f y) (flat_map f (take n (z ∷ ys))) (f x) ∙ ap (λ zs. f y ++ zs) (last_behind f (z ∷ ys) n x (omega (arith, s)) e)

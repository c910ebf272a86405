-- What one more or one less of an item does to a kept frontier: why inserting the time is right,
-- and why a frontier stays what it is if the time is none of its elements.
use Rattle.std.proofs.Common.{◌≡◌, ℕ, Bool, true, false, cond, not, ◌||◌, List, [], ◌∷◌, ◌++◌, refl, IsTrue, sym, ◌∙◌, ap, ⊎_elim}
use Rattle.std.specs.Prelude.{Contains}
use Rattle.std.specs.List.{filter}
use Rattle.std.proofs.lemmas.Bool.{or_cases, or_right, or_left, true≢false, false≢true}
use Rattle.lattice.specs.Times.{Times}
use Rattle.lattice.specs.Order.{PartialOrderLaws}
use Rattle.lattice.specs.Frontiers.{is_beyond}
use Rattle.lattice.proofs.BoundLemmas.{same_test}
use Rattle.lattice.proofs.FrontierLemmas.{beyond_up}
use Rattle.antichain.proofs.AntichainLemmas.{beyond_has, has_beyond, among_same}
use Rattle.antichain.proofs.Lists.{contains_among}
use Rattle.antichain.proofs.InsertionLemmas.{least_beyond}
use Rattle.antichain.specs.Antichains.{SameElements, least}
use Rattle.plan.specs.declared.node.Node.{Node}
use Rattle.progress.specs.declared.counted.Counted.{Counted}
use Rattle.progress.specs.declared.kept.Kept.{Kept}
use Rattle.progress.specs.declared.place.Place.{Place}
use Rattle.progress.specs.declared.scope.Scope.{Scope}
use Rattle.progress.specs.declared.scope.Scope.TheVariants.{Output, Input, Port}
use Rattle.progress.specs.Kept.{IsFront, AreFronts}
use Rattle.progress.specs.Scopes.{scope_node, is_in_scope}
use Rattle.progress.specs.Tallies.{times_where}
use Rattle.progress.proofs.FrontierLemmas.{same_least}

module _ {T : Type 0} (times : Times T) (o : PartialOrderLaws times) where
  pub forgotten : (F : List T) (t : T) (ts : List T) → (Contains F t → ⊥) → ((u : T) → is_beyond times F u ≡ (times.below t u || is_beyond times ts u)) → (u : T) → is_beyond times F u ≡ is_beyond times ts u
  forgotten F t ts missing same u = same u ∙ same_test _ _ (λ h. ⊎_elim (λ k. beyond_up o ts t u still k) (λ k. k) (or_cases (times.below t u) _ h)) (λ k. or_right (times.below t u) _ k)
    where
      first : is_beyond times F t ≡ true
      first = same t ∙ or_left (times.below t t) _ (o.reflexive t)

      still : is_beyond times ts t ≡ true
      still =
          let f = beyond_has times F t first in
          let g = sym (same f.0) ∙ has_beyond times F f.0 f.0 f.1 (o.reflexive f.0) in
          ⊎_elim
          (λ k. absurd (missing (contains_among t F (among_same f.0 t F (o.antisymmetric f.0 t f.2 k) f.1))))
          (λ k. beyond_up o ts f.0 t k f.2)
          (or_cases (times.below t f.0) _ g)

  -- a time in place of those at or after it makes just the times at or after it open
  pub inserted : (F : List T) (t s : T) → is_beyond times (filter (λ f. not (times.below t f)) F ++ t ∷ []) s ≡ (times.below t s || is_beyond times F s)
  inserted [] t s = refl
  inserted (f ∷ F) t s =
      elim (times.below t f) as (λ b. times.below t f ≡ b → is_beyond times (cond (not b) (f ∷ filter (λ f. not (times.below t f)) F) (filter (λ f. not (times.below t f)) F) ++ t ∷ []) s ≡ (times.below t s || (times.below f s || is_beyond times F s))) [
        | true ↦ λ e. inserted F t s ∙ drop_one (times.below t s) (times.below f s) (is_beyond times F s) (λ k. o.transitive t f s e k)
        | false ↦ λ e. ap (λ b. times.below f s || b) (inserted F t s) ∙ swap_or (times.below f s) (times.below t s) (is_beyond times F s)
      ] refl
    where
      drop_one : (a b c : Bool) → (b ≡ true → a ≡ true) → (a || c) ≡ (a || (b || c))
      drop_one true b c f = refl
      drop_one false true c f = absurd (true≢false (sym (f refl)))
      drop_one false false c f = refl

      swap_or : (a b c : Bool) → (a || (b || c)) ≡ (b || (a || c))
      swap_or true true c = refl
      swap_or true false c = refl
      swap_or false b c = refl

  -- a time that is beyond already opens nothing
  pub already : (F : List T) (t s : T) → is_beyond times F t ≡ true → is_beyond times F s ≡ (times.below t s || is_beyond times F s)
  already F t s e = by (times.below t s) (is_beyond times F s) (λ k. beyond_up o F t s e k)
    where
      by : (a b : Bool) → (a ≡ true → b ≡ true) → b ≡ (a || b)
      by true b f = f refl
      by false b f = refl

  module _ (nodes : List Node) where
    module _ (scope : Scope) (place : Place) where
      -- whether the item counts, the times with it
      with_item : (t : T) (items : List (Counted T)) (b : Bool) → is_in_scope nodes scope place ≡ b → (u : T) → is_beyond times (times_where (is_in_scope nodes scope) (record { place = place; time = t } ∷ items)) u ≡ is_beyond times (cond b (t ∷ []) [] ++ times_where (is_in_scope nodes scope) items) u
      with_item t items b e u = ap (λ b. is_beyond times (cond b (t ∷ []) [] ++ times_where (is_in_scope nodes scope) items) u) e

      -- an item more, whose time is inserted
      pub counted : (F G : List T) (t : T) (items : List (Counted T)) → is_in_scope nodes scope place ≡ true → ((u : T) → is_beyond times G u ≡ (times.below t u || is_beyond times F u)) → IsFront times nodes items scope F → IsFront times nodes (record { place = place; time = t } ∷ items) scope G
      counted F G t items e more front u = more u ∙ (ap (λ b. times.below t u || b) (front u) ∙ sym (with_item t items true e u))

      -- an item less, whose time is no element if the item counts
      pub gone : (F : List T) (t : T) (items : List (Counted T)) (b : Bool) → is_in_scope nodes scope place ≡ b → (b ≡ true → Contains F t → ⊥) → IsFront times nodes (record { place = place; time = t } ∷ items) scope F → IsFront times nodes items scope F
      gone F t items true e missing front u =
          forgotten F t (times_where (is_in_scope nodes scope) items) (missing refl) (λ s. front s ∙ with_item t items true e s) u
      gone F t items false e missing front u = front u ∙ with_item t items false e u

      -- a later item in its place
      pub moved : (F : List T) (t later : T) (items : List (Counted T)) (b : Bool) → is_in_scope nodes scope place ≡ b → (b ≡ true → Contains F t → ⊥) → IsTrue (times.below t later) → IsFront times nodes (record { place = place; time = t } ∷ items) scope F → IsFront times nodes (record { place = place; time = later } ∷ items) scope F
      moved F t later items true e missing onward front u =
          let ts = times_where (is_in_scope nodes scope) items in
          let left = gone F t items true e missing front in
          let at_time : is_beyond times ts t ≡ true = sym (left t) ∙ (front t ∙ (with_item t items true e t ∙ or_left (times.below t t) (is_beyond times ts t) (o.reflexive t))) in
          let at_later : is_beyond times ts later ≡ true = beyond_up o ts t later at_time onward in
          left u ∙ (already ts later u at_later ∙ sym (with_item later items true e u))
      moved F t later items false e missing onward front u =
          gone F t items false e missing front u ∙ sym (with_item later items false e u)

      -- an item more or less that does not count
      pub uncounted : (F : List T) (t : T) (items : List (Counted T)) → is_in_scope nodes scope place ≡ false → IsFront times nodes items scope F → IsFront times nodes (record { place = place; time = t } ∷ items) scope F
      uncounted F t items e front u = front u ∙ sym (with_item t items false e u)

    module _ (n : ℕ) (place : Place) (none : (scope : Scope) → scope_node scope ≡ n → is_in_scope nodes scope place ≡ false) where
      -- an item more that no frontier of the node counts
      pub fronts_more : (t : T) (items : List (Counted T)) (k : Kept T) → AreFronts times nodes items n k → AreFronts times nodes (record { place = place; time = t } ∷ items) n k
      fronts_more t items k f = record {
        output = uncounted (Output n) place k.output.items t items (none (Output n) refl) f.output;
        input = uncounted (Input n) place k.input.items t items (none (Input n) refl) f.input;
        first = uncounted (Port n 0) place k.first.items t items (none (Port n 0) refl) f.first;
        second = uncounted (Port n 1) place k.second.items t items (none (Port n 1) refl) f.second;
      }

      -- one less
      pub fronts_less : (t : T) (items : List (Counted T)) (k : Kept T) → AreFronts times nodes (record { place = place; time = t } ∷ items) n k → AreFronts times nodes items n k
      fronts_less t items k f =
          let no : (scope : Scope) → scope_node scope ≡ n → (F : List T) → IsFront times nodes (record { place = place; time = t } ∷ items) scope F → IsFront times nodes items scope F = (λ scope e F front. gone scope place F t items false (none scope e) (λ h. absurd (false≢true h)) front) in
          record {
            output = no (Output n) refl k.output.items f.output;
            input = no (Input n) refl k.input.items f.input;
            first = no (Port n 0) refl k.first.items f.first;
            second = no (Port n 1) refl k.second.items f.second;
          }

    -- the least of what is kept are the least of what counts
    pub least_kept : (scope : Scope) (F found : List T) (items : List (Counted T)) → IsFront times nodes items scope F → SameElements found (least times F) → SameElements found (least times (times_where (is_in_scope nodes scope) items))
    least_kept scope F found items front same =
        let k = same_least times o F (times_where (is_in_scope nodes scope) items) front in
        record {
          into = λ t c. k.into t (same.into t c);
          back = λ t c. same.back t (k.back t c);
        }

    pub beyond_kept : (scope : Scope) (F : List T) (items : List (Counted T)) → IsFront times nodes items scope F → (t : T) → is_beyond times F t ≡ is_beyond times (least times (times_where (is_in_scope nodes scope) items)) t
    beyond_kept scope F items front t = front t ∙ sym (least_beyond o (times_where (is_in_scope nodes scope) items) t)

-- What a query needs of the inputs' bags, and which list belongs to which input.
use Rattle.std.proofs.Common.{◌≡◌, ℕ, zero, suc, ◌<◌, Bool, true, cond, List, [], ◌∷◌, ◌++◌, map, length, get_or, Option, Some, None, slice_get, ◌⊎◌, inl, inr, ⊎_elim, refl, sym, ◌∙◌, ap, subst, length-append, arith}
use Rattle.std.specs.List.{filter}
use Rattle.std.proofs.lemmas.Bool.{cases_lt}
use Rattle.std.proofs.lemmas.List.{get_or_push, get_or_append_left, length-map, map-append}
use Rattle.std.proofs.lemmas.List.Elements.{filter-append}
use Rattle.update.specs.Bags.{Entry, Alike, count_of}
use Rattle.plan.specs.Ancestors.{numbers_below}
use Rattle.plan.specs.Edges.{numbers_where}
use Rattle.plan.specs.Nodes.{node_at, sources, key_width, is_input}
use Rattle.plan.specs.Queries.{query, source_value}
use Rattle.plan.specs.Rules.{IsPlan}
use Rattle.plan.specs.declared.node.Node.{Node}
use Rattle.plan.proofs.OperatorLemmas.{given_alike}
use Rattle.plan.proofs.PlanLemmas.{source_smaller}
use Rattle.plan.proofs.StepLemmas.{input_or_source, query_by_sources}
use Rattle.plan.proofs.UpwardLemmas.{by_smaller}
use Rattle.oracle.specs.Evaluation.{list_of}

-- ---- the query of a plan reads only the bags of the plan's inputs

module _ (p : List Node) (plan : IsPlan p) (a b : ℕ → List Entry) (h : (n : ℕ) → n < length p → is_input (node_at p n) ≡ true → Alike (a n) (b n)) where
  abbrev SoBelow : ℕ → Type 0
  SoBelow n = n < length p → Alike (query p a n) (query p b n)

  at_sources : (n : ℕ) → n < length p → ((m : ℕ) → m < n → SoBelow m) → (port : ℕ) (o : Option ℕ) → slice_get (sources (node_at p n)) port ≡ o → (o ≡ None → Alike (a n) (b n)) → Alike (source_value (a n) (query p a) o) (source_value (b n) (query p b) o)
  at_sources n l rest port None e outside = outside refl
  at_sources n l rest port (Some s) e outside =
      let k = source_smaller p plan n port s e in
      rest s k (omega (arith, k, l))

  -- a port that a node reads is an input's own port, or it has a source
  looked_at : (n : ℕ) → n < length p → (port : ℕ) → (port ≡ 0) ⊎ (port < length (sources (node_at p n))) → slice_get (sources (node_at p n)) port ≡ None → Alike (a n) (b n)
  looked_at n l port (inl first) none =
      ⊎_elim
      (λ i. h n l (ap is_input i.1))
      (λ s. absurd (some_none s.0 (sym s.1 ∙ ap (slice_get (sources (node_at p n))) (sym first) ∙ none)))
      (input_or_source (node_at p n))
    where
      some_none : (s : ℕ) → Some s ≡ None → ⊥
      some_none s e = absurd cc
  looked_at n l port (inr inside) none = absurd (past (sources (node_at p n)) port inside none)
    where
      past : (xs : List ℕ) (i : ℕ) → i < length xs → slice_get xs i ≡ None → ⊥
      past [] i l e = omega (arith, l)
      past (x ∷ xs) zero l e = absurd cc
      past (x ∷ xs) (suc i) l e = past xs i (omega (arith, l)) e

  -- the query is the same for two lists of changes that agree at the inputs
  pub query_at_inputs : (n : ℕ) → n < length p → Alike (query p a n) (query p b n)
  query_at_inputs = by_smaller SoBelow (λ n rest l row.
      ap (λ es. count_of es row) (query_by_sources p plan a n)
      ∙ (given_alike (key_width p (node_at p n)) (node_at p n)
      (λ port. source_value (a n) (query p a) (slice_get (sources (node_at p n)) port))
      (λ port. source_value (b n) (query p b) (slice_get (sources (node_at p n)) port))
      (λ port seen. at_sources n l rest port (slice_get (sources (node_at p n)) port) refl (λ none. looked_at n l port seen none)) row
      ∙ ap (λ es. count_of es row) (sym (query_by_sources p plan b n))))

-- ---- the list of an input, if there is one list for each input in the order of their numbers

module _ {X : Type 0} (f : ℕ → List X) (test : ℕ → Bool) where
  -- the index of a number among those that pass
  abbrev index_among : ℕ → ℕ
  index_among n = length (filter test (numbers_below n))

  at_place : (m n : ℕ) → n < m → test n ≡ true → get_or (map f (filter test (numbers_below m))) (index_among n) [] ≡ f n
  at_place zero n l t = absurd (omega (arith, l))
  at_place (suc m) n l t =
      ap (λ (ns : List ℕ). get_or (map f ns) (index_among n) []) (filter-append test (numbers_below m) (m ∷ []))
      ∙ (ap (λ xs. get_or xs (index_among n) []) (map-append f (filter test (numbers_below m)) (cond (test m) (m ∷ []) []))
      ∙ ⊎_elim
      (λ k. get_or_append_left (map f (filter test (numbers_below m))) (map f (cond (test m) (m ∷ []) [])) [] (index_among n) (shorter m k) ∙ at_place m n k t)
      (λ k. let same : m ≡ n = omega (arith, k, l) in last same)
      (cases_lt n m))
    where
      -- the index of a number that passes is within the list of those below a greater number
      shorter : (m : ℕ) → n < m → index_among n < length (map f (filter test (numbers_below m)))
      shorter zero l = absurd (omega (arith, l))
      shorter (suc m) l =
          subst (λ (k : ℕ). index_among n < k) (sym (length-map (filter test (numbers_below (suc m))) f))
          (subst (λ (ns : List ℕ). index_among n < length ns) (sym (filter-append test (numbers_below m) (m ∷ [])))
          (⊎_elim
          (λ k. longer (filter test (numbers_below m)) (cond (test m) (m ∷ []) []) (index_among n) (subst (λ (j : ℕ). index_among n < j) (length-map (filter test (numbers_below m)) f) (shorter m k)))
          (λ k. let same : m ≡ n = omega (arith, k, l) in subst (λ (ns : List ℕ). index_among n < length (filter test (numbers_below m) ++ ns)) (sym (ap (λ b. cond b (m ∷ []) []) (ap test same ∙ t))) (one_more (filter test (numbers_below m)) m (index_among n) (ap index_among (sym same))))
          (cases_lt n m)))
        where
          longer : (xs ys : List ℕ) (i : ℕ) → i < length xs → i < length (xs ++ ys)
          longer xs ys i l = let long = length-append xs ys in omega (arith, l, long)

          one_more : (xs : List ℕ) (x i : ℕ) → i ≡ length xs → i < length (xs ++ x ∷ [])
          one_more xs x i e = let long = length-append xs (x ∷ []) in omega (arith, e, long)

      last : m ≡ n → get_or (map f (filter test (numbers_below m)) ++ map f (cond (test m) (m ∷ []) [])) (index_among n) [] ≡ f n
      last same =
          ap (λ b. get_or (map f (filter test (numbers_below m)) ++ map f (cond b (m ∷ []) [])) (index_among n) []) (ap test same ∙ t)
          ∙ (get_or_push (map f (filter test (numbers_below m))) (f m) [] (index_among n) (length-map (filter test (numbers_below m)) f ∙ ap index_among same) ∙ ap f same)

-- the list of an input is its own
pub list_of_input : {X : Type 0} (p : List Node) (f : ℕ → List X) (n : ℕ) → n < length p → is_input (node_at p n) ≡ true → list_of p (map f (numbers_where is_input p)) n ≡ f n
list_of_input p f n l t = at_place f (λ m. is_input (node_at p m)) (length p) n l t

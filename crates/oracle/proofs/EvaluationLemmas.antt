-- The bags of the nodes, one after another: if the earlier bags are right, so is the next one.
use Rattle.std.proofs.Common.{◌≡◌, ℕ, zero, suc, ◌+◌, ◌<◌, ◌≤◌, Bool, true, false, cond, List, [], ◌∷◌, ◌++◌, ℤ, map, take, length, IsTrue, ⊎_elim, inl, inr, refl, ap, sym, subst, ◌∙◌, length-append, Option, Some, None, Result, w64, FitsSigned, eq-or-lt_of_le, arith}
use Rattle.std.specs.Prelude.{pos, IfOk, IfErr, ◌+ℤ◌, ◌*ℤ◌, eqb, slice_get, unwrap_or}
use Rattle.std.specs.List.{filter, list_all}
use Rattle.std.proofs.lemmas.Bool.{and_parts, and_from, true≢false}
use Rattle.std.proofs.lemmas.List.{get_or_push}
use Rattle.std.proofs.lemmas.List.Elements.{filter-append}
use Rattle.update.specs.Bags.{Entry, Alike, IsBag, count_of, same_row}
use Rattle.update.specs.Updates.{as_of}
use Rattle.update.specs.declared.change.Update.{Update}
use Rattle.plan.specs.Ancestors.{reaches, numbers_below}
use Rattle.plan.specs.Nodes.{node_at, sources, key_width, is_input, is_linear}
use Rattle.plan.specs.Operators.{operator_output}
use Rattle.plan.specs.Queries.{query, source_value}
use Rattle.plan.specs.Reductions.{has_key, sum_of_counts}
use Rattle.plan.specs.Rules.{IsPlan}
use Rattle.plan.specs.Widths.{width_of, width_from}
use Rattle.plan.specs.declared.kind.Kind.TheVariants.{Count}
use Rattle.plan.specs.declared.node.Node.{Node}
use Rattle.plan.specs.declared.node.Node.TheVariants.{Input, Map, Filter, Concat, Negate, Arrange, Join, Reduce, Output}
use Rattle.plan.proofs.OperatorLemmas.{given_alike}
use Rattle.plan.proofs.PlanLemmas.{source_smaller}
use Rattle.plan.proofs.StandLemmas.{above_itself, above_from_source, above_transitive}
use Rattle.plan.proofs.StepLemmas.{query_by_sources, width_by_sources}
use Rattle.plan.proofs.CountLemmas.{weigh, weigh_alike, when_add}
use Rattle.update.specs.declared.refusal.Refusal.{Refusal}
use Rattle.oracle.specs.Entries.{all_wide}
use Rattle.update.specs.Refusals.{IsMemoryOrOverflow}
use Rattle.oracle.specs.Evaluation.{AreBags, AreWide, HasLargeAbove, HasLargeAt, HasLargeStep, nth_bag, output_at, inputs_before, list_of, passed_on, ports, sums_at}
use Rattle.oracle.proofs.NodeLemmas.{given_wide}
use Rattle.oracle.proofs.ResultLemmas.{ok_more, ok_both, err_more, refused_by}
use Rattle.oracle.proofs.RowLemmas.{rows_by_counts, large_alike, zero_plus}
use Rattle.lattice.specs.Times.{Times}

-- a linear node has no products and no totals, so only its output can be too large
pub linear_no_step : (k : ℕ) (node : Node) → IsTrue (is_linear node) → (bags : ℕ → List Entry) → HasLargeStep k node bags → ⊥
linear_no_step k (Join left right) l bags step = true≢false (sym l)
linear_no_step k (Reduce kind source) l bags step = true≢false (sym l)
linear_no_step k node l bags step = step

-- ---- inputs

next_number : (n : ℕ) → n + 1 ≡ suc n
next_number n = omega arith

inputs_more : (p : List Node) (n : ℕ) → inputs_before p (n + 1) ≡ inputs_before p n + length (cond (is_input (node_at p n)) (n ∷ []) [])
inputs_more p n =
    ap (inputs_before p) (next_number n)
    ∙ (ap length (filter-append (λ m. is_input (node_at p m)) (numbers_below n) (n ∷ []))
    ∙ length-append (filter (λ m. is_input (node_at p m)) (numbers_below n)) (cond (is_input (node_at p n)) (n ∷ []) []))

-- after an input, there is one input more before the next node
pub inputs_with : (p : List Node) (n : ℕ) → is_input (node_at p n) ≡ true → inputs_before p (n + 1) ≡ inputs_before p n + 1
inputs_with p n h = inputs_more p n ∙ ap (λ b. inputs_before p n + length (cond b (n ∷ []) [])) h

-- after any other node, there are as many as before
pub inputs_without : (p : List Node) (n : ℕ) → is_input (node_at p n) ≡ false → inputs_before p (n + 1) ≡ inputs_before p n
inputs_without p n h = inputs_more p n ∙ (ap (λ b. inputs_before p n + length (cond b (n ∷ []) [])) h ∙ none (inputs_before p n))
  where
    none : (m : ℕ) → m + 0 ≡ m
    none m = omega arith

-- there are at most as many inputs before a node as there are nodes before it
pub inputs_few : (p : List Node) (n : ℕ) → inputs_before p n ≤ n
inputs_few p zero = omega arith
inputs_few p (suc n) = step (inputs_few p n) (is_input (node_at p n)) (ap (inputs_before p) (sym (next_number n)) ∙ inputs_more p n)
  where
    step : inputs_before p n ≤ n → (b : Bool) → inputs_before p (suc n) ≡ inputs_before p n + length (cond b (n ∷ []) []) → inputs_before p (suc n) ≤ suc n
    step h true e = omega (arith, h, e)
    step h false e = omega (arith, h, e)

-- ---- if a number is too large for one bag, it is so for every bag with the same counts

numbers_weigh : (k : ℕ) (key : List ℤ) (es : List Entry) → weigh (λ row n. cond (same_row (take k row) key) n (pos 0)) es ≡ sum_of_counts (filter (has_key k key) es)
numbers_weigh k key [] = refl
numbers_weigh k key (e ∷ es) =
    ap (λ n. cond (same_row (take k e.row) key) e.count (pos 0) +ℤ n) (numbers_weigh k key es) ∙ step (same_row (take k e.row) key)
  where
    step : (b : Bool) → cond b e.count (pos 0) +ℤ sum_of_counts (filter (has_key k key) es) ≡ sum_of_counts (cond b (e ∷ filter (has_key k key) es) (filter (has_key k key) es))
    step true = refl
    step false = zero_plus (sum_of_counts (filter (has_key k key) es))

numbers_alike : (k : ℕ) (key : List ℤ) (a b : List Entry) → Alike a b → sum_of_counts (filter (has_key k key) a) ≡ sum_of_counts (filter (has_key k key) b)
numbers_alike k key a b h =
    sym (numbers_weigh k key a)
    ∙ (weigh_alike (λ row n. cond (same_row (take k row) key) n (pos 0)) (λ row m n. when_add (same_row (take k row) key) m n) a b h
    ∙ numbers_weigh k key b)

large_step_alike : (k : ℕ) (node : Node) (a b : ℕ → List Entry) → ((port : ℕ) → Alike (a port) (b port)) → HasLargeStep k node a → HasLargeStep k node b
large_step_alike k (Join left right) a b h large =
    (large.0, large.1, large.2, λ fits. large.3 (subst (FitsSigned w64) (λ i. sym (h 0 large.0) i *ℤ sym (h 1 large.1) i) fits))
large_step_alike k (Reduce Count source) a b h large = (large.0, λ fits. large.1 (subst (FitsSigned w64) (sym (numbers_alike k large.0 (a 0) (b 0) (h 0))) fits))
large_step_alike k node a b h large = large

-- ---- the next bag

module _ (p : List Node) (plan : IsPlan p) (inputs : ℕ → List Entry) (view : ℕ) (bags : List (List Entry)) (are : AreBags p inputs view bags) (above : IsTrue (reaches p (length bags) view)) where
  ports_alike : (port : ℕ) → Alike (ports p (length bags) (inputs (length bags)) (nth_bag bags) port) (ports p (length bags) (inputs (length bags)) (query p inputs) port)
  ports_alike port = step (slice_get (sources (node_at p (length bags))) port) refl
    where
      step : (o : Option ℕ) → slice_get (sources (node_at p (length bags))) port ≡ o → Alike (source_value (inputs (length bags)) (nth_bag bags) o) (source_value (inputs (length bags)) (query p inputs) o)
      step None e = λ row. refl
      step (Some s) e =
          let up = above_from_source p plan s (length bags) port s e (above_itself p plan s) in
          are.found s (source_smaller p plan (length bags) port s e) (above_transitive p plan s (length bags) view up above)

  -- the operator's output from the earlier bags is the answer of the query
  pub next_query : (out : List Entry) → Alike out (output_at p (length bags) (inputs (length bags)) (nth_bag bags)) → Alike out (query p inputs (length bags))
  next_query out alike row =
      alike row
      ∙ (given_alike (key_width p (node_at p (length bags))) (node_at p (length bags)) (ports p (length bags) (inputs (length bags)) (nth_bag bags)) (ports p (length bags) (inputs (length bags)) (query p inputs)) (λ port s. ports_alike port) row
      ∙ ap (λ es. count_of es row) (sym (query_by_sources p plan inputs (length bags))))

  -- a number that is too large for the earlier bags is so for the query above the view
  pub next_large : HasLargeAt p (length bags) (inputs (length bags)) (nth_bag bags) → HasLargeAbove p inputs view
  next_large large =
      let a = ports p (length bags) (inputs (length bags)) (nth_bag bags) in
      let b = ports p (length bags) (inputs (length bags)) (query p inputs) in
      let k = key_width p (node_at p (length bags)) in
      let node = node_at p (length bags) in (
        length bags,
        above,
        ⊎_elim
            (λ count. inl (large_alike (output_at p (length bags) (inputs (length bags)) (nth_bag bags)) (output_at p (length bags) (inputs (length bags)) (query p inputs)) (given_alike k node a b (λ port s. ports_alike port)) count))
            (λ step. inr (large_step_alike k node a b ports_alike step))
            large,
      )

module _ (p : List Node) (plan : IsPlan p) (inputs : ℕ → List Entry) (view : ℕ) (bags : List (List Entry)) (are : AreBags p inputs view bags)
    (n : ℕ) (next : n ≡ length bags) (outside : List Entry) (own : outside ≡ inputs (length bags)) (r : Result (List Entry) Refusal) where
  as_given : IfOk r (λ out. Alike out (output_at p n outside (nth_bag bags))) → IfOk r (λ out. Alike out (output_at p (length bags) (inputs (length bags)) (nth_bag bags)))
  as_given h =
      subst (λ (es : List Entry). IfOk r (λ out. Alike out (output_at p (length bags) es (nth_bag bags)))) own
      (subst (λ (m : ℕ). IfOk r (λ out. Alike out (output_at p m outside (nth_bag bags)))) next h)

  -- the output of the operator is the answer of the query
  pub query_ok : IfOk r (λ out. Alike out (output_at p n outside (nth_bag bags))) → IfOk r (λ out. IsTrue (reaches p (length bags) view) → Alike out (query p inputs (length bags)))
  query_ok h =
      ok_more (λ out. Alike out (output_at p (length bags) (inputs (length bags)) (nth_bag bags))) (λ out. IsTrue (reaches p (length bags) view) → Alike out (query p inputs (length bags)))
      (λ out alike above. next_query p plan inputs view bags are above out alike) r (as_given h)

  -- the output of the operator has the width of the node
  pub wide_ok : length bags < length p → (is_input (node_at p (length bags)) ≡ true → IsTrue (all_wide (width_of p (length bags)) (inputs (length bags)))) → IfOk r IsBag → IfOk r (λ out. Alike out (output_at p n outside (nth_bag bags))) → IfOk r (λ out. IsTrue (all_wide (width_of p (length bags)) out))
  wide_ok l wide bag h =
      ok_both IsBag (λ out. Alike out (output_at p (length bags) (inputs (length bags)) (nth_bag bags))) (λ out. IsTrue (all_wide (width_of p (length bags)) out))
      (λ out is alike. given_wide p plan (length bags) l (nth_bag bags) are.wide (inputs (length bags)) out wide is alike) r bag (as_given h)

  -- a number that is too large at a node above the view is a cause for the view
  pub large_err : IsTrue (reaches p (length bags) view) → IfErr r (IsMemoryOrOverflow (HasLargeAt p n outside (nth_bag bags))) → IfErr r (IsMemoryOrOverflow (HasLargeAbove p inputs view))
  large_err above h =
      err_more (IsMemoryOrOverflow (HasLargeAt p n outside (nth_bag bags))) (IsMemoryOrOverflow (HasLargeAbove p inputs view))
      (λ e refused. refused_by (HasLargeAt p n outside (nth_bag bags)) (HasLargeAbove p inputs view) e
      (λ large. next_large p plan inputs view bags are above
      (subst (λ (es : List Entry). HasLargeAt p (length bags) es (nth_bag bags)) own (subst (λ (m : ℕ). HasLargeAt p m outside (nth_bag bags)) next large))) refused)
      r h

-- the bag of the view itself is the answer
pub evaluated : (p : List Node) → IsPlan p → (inputs : ℕ → List Entry) (view n : ℕ) → n ≡ view → (r : Result (List Entry) Refusal) → IfOk r (λ out. IsTrue (reaches p n view) → Alike out (query p inputs n)) → IfOk r (λ out. Alike out (query p inputs view))
evaluated p plan inputs view n e r h =
    ok_more (λ out. IsTrue (reaches p view view) → Alike out (query p inputs view)) (λ out. Alike out (query p inputs view)) (λ out f. f (above_itself p plan view)) r
    (subst (λ (m : ℕ). IfOk r (λ out. IsTrue (reaches p m view) → Alike out (query p inputs m))) e h)

-- the empty bag has rows of every width, so it can stand for a node that is not computed
pub empty_wide : (w : ℕ) (r : Result (List Entry) Refusal) → IfOk r IsBag → IfOk r (λ out. Alike out []) → IfOk r (λ out. IsTrue (all_wide w out))
empty_wide w r bag alike = ok_both IsBag (λ out. Alike out []) (λ out. IsTrue (all_wide w out)) (λ out is h. rows_by_counts (λ row. eqb (length row) w) out is (λ row n. h row)) r bag alike

-- ---- one more bag

bag_before : (bags : List (List Entry)) (out : List Entry) (m : ℕ) → m < length bags → nth_bag (bags ++ out ∷ []) m ≡ nth_bag bags m
bag_before [] out m l = absurd (omega (arith, l))
bag_before (bag ∷ bags) out zero l = refl
bag_before (bag ∷ bags) out (suc m) l = bag_before bags out m (omega (arith, l))

-- extends the bags by the next one
pub are_more : (p : List Node) (inputs : ℕ → List Entry) (view : ℕ) (bags : List (List Entry)) (out : List Entry) → AreBags p inputs view bags → IsTrue (all_wide (width_of p (length bags)) out)
    → (IsTrue (reaches p (length bags) view) → Alike out (query p inputs (length bags))) → AreBags p inputs view (bags ++ out ∷ [])
are_more p inputs view bags out are wide found = record {
  wide = λ m l. both (λ m bag. IsTrue (all_wide (width_of p m) bag)) m l are.wide wide;
  found = λ m l. both (λ m bag. IsTrue (reaches p m view) → Alike bag (query p inputs m)) m l are.found found;
}
  where
    both : (P : ℕ → List Entry → Type 0) (m : ℕ) → m < length (bags ++ out ∷ []) → ((m : ℕ) → m < length bags → P m (nth_bag bags m)) → P (length bags) out → P m (nth_bag (bags ++ out ∷ []) m)
    both P m l before last =
        let long = length-append bags (out ∷ []) in
        ⊎_elim
        (λ e. subst (λ k. P k (nth_bag (bags ++ out ∷ []) k)) (sym e) (subst (P (length bags)) (sym (get_or_push bags out [] (length bags) refl)) last))
        (λ k. subst (P m) (sym (bag_before bags out m k)) (before m k))
        (eq-or-lt_of_le (omega (arith, l, long)))

-- begins the loop over the nodes
pub no_bags : (p : List Node) (inputs : ℕ → List Entry) (view : ℕ) → AreBags p inputs view []
no_bags p inputs view = record {
  wide = λ m l. absurd (omega (arith, l));
  found = λ m l. absurd (omega (arith, l));
}

-- ---- widths of inputs

sum_wide : {T : Type 0} (times : Times T) (t : T) (w : ℕ) (us : List (Update T)) → IsTrue (list_all (λ u. eqb (length u.row) w) us) → IsTrue (all_wide w (as_of times t us))
sum_wide times t w [] h = refl
sum_wide {T} times t w (u ∷ us) h =
    let parts = and_parts (eqb (length u.row) w) (list_all (λ (u : Update T). eqb (length u.row) w) us) h in
    step (sum_wide times t w us parts.1) parts.0 (times.below u.time t)
  where
    step : IsTrue (all_wide w (as_of times t us)) → eqb (length u.row) w ≡ true → (b : Bool) → IsTrue (all_wide w (map Rattle.update.specs.Updates.entry (cond b (u ∷ filter (λ u. times.below u.time t) us) (filter (λ u. times.below u.time t) us))))
    step rest one true = and_from (eqb (length u.row) w) (all_wide w (as_of times t us)) one rest
    step rest one false = rest

-- the sums of the inputs' lists have the inputs' widths
pub inputs_wide : {T : Type 0} (times : Times T) (p : List Node) (lists : List (List (Update T))) (t : T) (n : ℕ) → AreWide p lists → n < length p → is_input (node_at p n) ≡ true → IsTrue (all_wide (width_of p n) (sums_at times p lists t n))
inputs_wide times p lists t n wide l h = sum_wide times t (width_of p n) (list_of p lists n) (wide n l h)

-- ---- nodes that pass rows on

passed_source : (node : Node) (s : ℕ) → passed_on node ≡ Some s → slice_get (sources node) 0 ≡ Some s
passed_source (Arrange source key) s e = e
passed_source (Output source) s e = e
passed_source (Input width) s e = absurd cc
passed_source (Map source items) s e = absurd cc
passed_source (Filter source test) s e = absurd cc
passed_source (Concat left right) s e = absurd cc
passed_source (Negate source) s e = absurd cc
passed_source (Join left right) s e = absurd cc
passed_source (Reduce kind source) s e = absurd cc

passed_output : (k : ℕ) (node : Node) (s : ℕ) → passed_on node ≡ Some s → (outside : List Entry) (bags : ℕ → List Entry) → operator_output k node (λ port. source_value outside bags (slice_get (sources node) port)) ≡ bags s
passed_output k (Arrange source key) s e outside bags = ap (source_value outside bags) e
passed_output k (Output source) s e outside bags = ap (source_value outside bags) e
passed_output k (Input width) s e outside bags = absurd cc
passed_output k (Map source items) s e outside bags = absurd cc
passed_output k (Filter source test) s e outside bags = absurd cc
passed_output k (Concat left right) s e outside bags = absurd cc
passed_output k (Negate source) s e outside bags = absurd cc
passed_output k (Join left right) s e outside bags = absurd cc
passed_output k (Reduce kind source) s e outside bags = absurd cc

passed_width : (k : ℕ) (node : Node) (s : ℕ) → passed_on node ≡ Some s → (widths : ℕ → ℕ) → width_from k node widths ≡ widths s
passed_width k (Arrange source key) s e widths = ap (λ o. widths (unwrap_or o 0)) e
passed_width k (Output source) s e widths = ap (λ o. widths (unwrap_or o 0)) e
passed_width k (Input width) s e widths = absurd cc
passed_width k (Map source items) s e widths = absurd cc
passed_width k (Filter source test) s e widths = absurd cc
passed_width k (Concat left right) s e widths = absurd cc
passed_width k (Negate source) s e widths = absurd cc
passed_width k (Join left right) s e widths = absurd cc
passed_width k (Reduce kind source) s e widths = absurd cc

module _ (p : List Node) (plan : IsPlan p) (inputs : ℕ → List Entry) (view : ℕ) (bags : List (List Entry)) (are : AreBags p inputs view bags) (s : ℕ) (passes : passed_on (node_at p (length bags)) ≡ Some s) where
  -- its source is an earlier node
  pub passed_before : s < length bags
  passed_before = source_smaller p plan (length bags) 0 s (passed_source (node_at p (length bags)) s passes)

  -- and the bag of its source is its own
  pub are_shared : AreBags p inputs view (bags ++ nth_bag bags s ∷ [])
  are_shared =
      are_more p inputs view bags (nth_bag bags s) are
      (subst (λ w. IsTrue (all_wide w (nth_bag bags s))) (sym (width_by_sources p plan (length bags) ∙ passed_width (key_width p (node_at p (length bags))) (node_at p (length bags)) s passes (width_of p))) (are.wide s passed_before))
      (λ above. next_query p plan inputs view bags are above (nth_bag bags s) (λ row. ap (λ es. count_of es row) (sym (passed_output (key_width p (node_at p (length bags))) (node_at p (length bags)) s passes (inputs (length bags)) (nth_bag bags)))))

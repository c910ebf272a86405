-- What is sent of what a worker gives has the width of its node, and of nothing nothing is sent.
use Rattle.std.proofs.Common.{◌≡◌, ◌≢◌, ℕ, Bool, true, false, cond, eqb, not, List, [], ◌∷◌, length, take, Option, Some, None, IsTrue, sym, refl, ap, ◌∙◌, subst, inl, ⊎_elim}
use Rattle.std.specs.List.{list_all, filter}
use Rattle.std.specs.Prelude.{unwrap_or}
use Rattle.std.proofs.lemmas.Bool.{and_parts, and_from, eqb-true, false≢true}
use Rattle.std.proofs.lemmas.List.Folds.{list_all-append}
use Rattle.antichain.proofs.Lists.{Among, all_at, all_from}
use Rattle.update.specs.declared.change.Update.{Update}
use Rattle.plan.specs.Nodes.{arranged_by}
use Rattle.plan.specs.Widths.{width_of}
use Rattle.linear.specs.Widths.{are_wide}
use Rattle.histories.specs.declared.event.Site.{Site}
use Rattle.histories.specs.declared.event.Bundle.{Bundle}
use Rattle.histories.specs.declared.event.Emission.{Emission}
use Rattle.histories.specs.Histories.Dataflows.{Dataflow, node_of, source_of, route}
use Rattle.histories.specs.Histories.States.{same_place, updates_at}
use Rattle.histories.specs.Histories.Shares.{part, share, share_from}
use Rattle.histories.proofs.HistoryLemmas.PlaceLemmas.{there_some}
use Rattle.outstanding.proofs.PlacedLemmas.{itself}
use Rattle.operator_laws.specs.GatheredUpdates.{IsCut}
use Rattle.operator_laws.proofs.GatheredLemmas.{cut_none}
use Rattle.shared_board.specs.Widths.{is_wide_for}
use Rattle.lattice.specs.Times.{Times}

module _ {T : Type 0} where
  -- if all updates sent to a bundle's place pass a test, so do its own
  own_part : (test : Update T → Bool) (bundles : List (Bundle T)) (b : Bundle T) → Among b bundles → list_all test (updates_at b.place bundles) ≡ true → list_all test b.updates ≡ true
  own_part test [] b m h = absurd m
  own_part test (c ∷ bundles) b m h =
      let k = and_parts (list_all test (cond (same_place c.place b.place) c.updates [])) (list_all test (updates_at b.place bundles)) (sym (list_all-append test (cond (same_place c.place b.place) c.updates []) (updates_at b.place bundles)) ∙ h) in
      ⊎_elim
      (λ e. subst (λ z. list_all test (cond (same_place z.place b.place) z.updates []) ≡ true → list_all test b.updates ≡ true) (sym e) (λ g. ap (λ s. list_all test (cond s b.updates [])) (sym (itself b.place)) ∙ g) k.0)
      (λ n. own_part test bundles b n k.1)
      m

  -- a list whose length is not 0 is not empty
  some : (us : List (Update T)) → not (eqb (length us) 0) ≡ true → us ≢ []
  some us h e = false≢true (subst (λ z. not (eqb (length z) 0) ≡ true) e h)

  module _ (p : Dataflow) (g : Emission T) where
    -- if a place gets a share of the output, it reads the node
    read_there : (site : Site) → share p site g ≢ [] → source_of p site.node site.port ≡ Some g.node
    read_there site d = step (source_of p site.node site.port) refl d
      where
        step : (x : Option ℕ) → source_of p site.node site.port ≡ x → share_from p x (arranged_by (node_of p site.node)) site.worker g ≢ [] → source_of p site.node site.port ≡ Some g.node
        step None e d = absurd (d refl)
        step (Some s) e d = one (eqb g.node s) refl d
          where
            one : (b : Bool) → eqb g.node s ≡ b → cond b (part p (arranged_by (node_of p site.node)) g.worker site.worker g.updates) [] ≢ [] → source_of p site.node site.port ≡ Some g.node
            one true f d = e ∙ ap Some (sym (eqb-true g.node s f))
            one false f d = absurd (d refl)

    -- if all given updates pass a test, so do those of a share
    share_all : (test : Update T → Bool) (site : Site) → list_all test g.updates ≡ true → list_all test (share p site g) ≡ true
    share_all test site h = from (source_of p site.node site.port)
      where
        filtered : (keep : Update T → Bool) (us : List (Update T)) → list_all test us ≡ true → list_all test (filter keep us) ≡ true
        filtered keep [] h = refl
        filtered keep (u ∷ us) h =
            let k = and_parts (test u) (list_all test us) h in
            elim (keep u) as (λ c. list_all test (cond c (u ∷ filter keep us) (filter keep us)) ≡ true) [
              | true ↦ and_from (test u) (list_all test (filter keep us)) k.0 (filtered keep us k.1)
              | false ↦ filtered keep us k.1
            ]

        chosen : (b : Bool) (us : List (Update T)) → list_all test us ≡ true → list_all test (cond b us []) ≡ true
        chosen true us k = k
        chosen false us k = refl

        along : (c : Option ℕ) → list_all test (part p c g.worker site.worker g.updates) ≡ true
        along None = chosen (eqb g.worker site.worker) g.updates h
        along (Some columns) = filtered (λ u. eqb (route p (take columns u.row)) site.worker) g.updates h

        from : (x : Option ℕ) → list_all test (share_from p x (arranged_by (node_of p site.node)) site.worker g) ≡ true
        from None = refl
        from (Some s) = chosen (eqb g.node s) (part p (arranged_by (node_of p site.node)) g.worker site.worker g.updates) (along (arranged_by (node_of p site.node)))

    module _ (sent : List (Bundle T)) (whole : (other : Site) → updates_at other sent ≡ share p other g) (filled : IsTrue (list_all (λ b. not (eqb (length b.updates) 0)) sent)) where
      -- a bundle's place reads the node
      sent_reads : (b : Bundle T) → Among b sent → source_of p b.place.node b.place.port ≡ Some g.node
      sent_reads b m = read_there b.place (λ e. there_some sent b m (some b.updates (all_at (λ (b : Bundle T). not (eqb (length b.updates) 0)) sent b filled m)) (whole b.place ∙ e))

      -- everything that is sent has the width of the node, at each of any number of workers
      pub sent_wide : IsTrue (are_wide (width_of p.nodes g.node) g.updates) → IsTrue (list_all (is_wide_for p) sent)
      sent_wide wide = all_from (is_wide_for p) sent (λ b m. subst (λ x. IsTrue (are_wide (width_of p.nodes (unwrap_or x b.place.node)) b.updates)) (sym (sent_reads b m))
          (own_part (λ u. eqb (length u.row) (width_of p.nodes g.node)) sent b m (ap (list_all (λ u. eqb (length u.row) (width_of p.nodes g.node))) (whole b.place) ∙ share_all (λ u. eqb (length u.row) (width_of p.nodes g.node)) b.place wide)))

-- of nothing nothing is sent
pub none_sent : {T : Type 0} (times : Times T) (p : Dataflow) (n k : ℕ) (sent : List (Bundle T)) → IsCut times p (record { node = n; worker = k; updates = [] }) sent → sent ≡ []
none_sent times p n k [] cuts = refl
none_sent {T} times p n k (b ∷ sent) cuts =
    let first = (and_parts (not (eqb (length b.updates) 0)) (list_all (λ (c : Bundle T). not (eqb (length c.updates) 0)) sent) cuts.filled).0 in
    absurd (there_some (b ∷ sent) b (inl refl) (some b.updates first) (cuts.whole b.place ∙ sym ((cut_none times p n k).whole b.place)))

-- Counting one after another: the bundles of a list, and the inputs of a plan.
use Rattle.std.proofs.Common.{◌≡◌, ℕ, suc, ◌+◌, ◌<◌, ◌≤◌, Bool, List, [], ◌∷◌, ◌++◌, length, get_or, take, drop, sym, ap, ◌∙◌, subst, arith}
use Rattle.std.specs.List.{flat_map}
use Rattle.std.proofs.lemmas.List.{drop_more, take_more, take_all, take-append-drop}
use Rattle.plan.specs.Ancestors.{numbers_below}
use Rattle.progress.specs.declared.place.Place.TheVariants.{Input}
use Rattle.progress.specs.declared.counted.Counted.{Counted}
use Rattle.progress.specs.Several.{items_at, AreCounted}
use Rattle.progress.specs.Tallies.{SameCounts}
use Rattle.histories.specs.declared.event.Bundle.{Bundle}
use Rattle.outstanding.specs.Inputs.{front_at}
use Rattle.outstanding.specs.Loads.{Lot}
use Rattle.outstanding.proofs.LotLemmas.{flat_more}
use Rattle.accounts.specs.Accounts.{items_left, items_sent}
use Rattle.accounts.proofs.CountLemmas.{count, count_both}
use Rattle.accounts.proofs.AccountLemmas.{sent_both, left_spread, at_input}

module _ {T : Type 0} where
  -- ---- bundles, one by one

  module _ (stations : List (List (Lot T))) (sent : List (Bundle T)) (i : ℕ) (b : Bundle T) (l : i < length sent) (e : b ≡ get_or sent i b) where
    so_far_and_next : (test : Counted T → Bool) → count test (items_sent stations (take (i + 1) sent)) ≡ count test (items_sent stations (take i sent)) + count test (items_sent stations (b ∷ []))
    so_far_and_next test =
        ap (λ bs. count test (items_sent stations bs)) (take_more sent i b l ∙ ap (λ c. take i sent ++ c ∷ []) (sym e))
        ∙ sent_both test stations (take i sent) (b ∷ [])

    -- one more is counted
    pub one_more_sent : (old mid new : List (Counted T)) → SameCounts mid (items_sent stations (take i sent) ++ old) → SameCounts new (items_sent stations (b ∷ []) ++ mid) → SameCounts new (items_sent stations (take (i + 1) sent) ++ old)
    one_more_sent old mid new so_far added test =
        let a = so_far test in
        let c = added test in
        let d = so_far_and_next test in
        let f = count_both test (items_sent stations (take i sent)) old in
        let g = count_both test (items_sent stations (b ∷ [])) mid in
        let h = count_both test (items_sent stations (take (i + 1) sent)) old in
        omega (arith, a, c, d, f, g, h)

    -- one more is counted no more
    pub one_less_sent : (old mid new : List (Counted T)) → SameCounts (items_sent stations (take i sent) ++ mid) old → SameCounts (items_sent stations (b ∷ []) ++ new) mid → SameCounts (items_sent stations (take (i + 1) sent) ++ new) old
    one_less_sent old mid new so_far removed test =
        let a = so_far test in
        let c = removed test in
        let d = so_far_and_next test in
        let f = count_both test (items_sent stations (take i sent)) mid in
        let g = count_both test (items_sent stations (b ∷ [])) new in
        let h = count_both test (items_sent stations (take (i + 1) sent)) new in
        omega (arith, a, c, d, f, g, h)

    -- the next one is counted
    pub next_is_counted : (old mid : List (Counted T)) → AreCounted old (items_sent stations sent) → SameCounts (items_sent stations (take i sent) ++ mid) old → AreCounted mid (items_sent stations (b ∷ []))
    next_is_counted old mid counted so_far = record {
      rest = items_sent stations (drop (i + 1) sent) ++ counted.rest;
      counts = λ test.
          let later = drop (i + 1) sent in
          let split : sent ≡ take i sent ++ (b ∷ later) = sym (take-append-drop i sent) ∙ ap (λ r. take i sent ++ r) (drop_more sent i b l ∙ ap (λ c. c ∷ later) (sym e)) in
          let a = so_far test in
          let c = counted.counts test in
          let d = ap (λ bs. count test (items_sent stations bs)) split in
          let f = sent_both test stations (take i sent) (b ∷ later) in
          let g = sent_both test stations (b ∷ []) later in
          let h = count_both test (items_sent stations sent) counted.rest in
          let j = count_both test (items_sent stations (take i sent)) mid in
          let k = count_both test (items_sent stations (b ∷ [])) (items_sent stations later ++ counted.rest) in
          let m = count_both test (items_sent stations later) counted.rest in
          omega (arith, a, c, d, f, g, h, j, k, m);
    }

  -- after the last one, all are counted, or none any more
  pub all_sent : (stations : List (List (Lot T))) (sent : List (Bundle T)) (i : ℕ) (old new : List (Counted T)) → length sent ≤ i → SameCounts new (items_sent stations (take i sent) ++ old) → SameCounts new (items_sent stations sent ++ old)
  all_sent stations sent i old new l so_far = subst (λ bs. SameCounts new (items_sent stations bs ++ old)) (take_all i sent l) so_far

  pub all_unsent : (stations : List (List (Lot T))) (sent : List (Bundle T)) (i : ℕ) (old new : List (Counted T)) → length sent ≤ i → SameCounts (items_sent stations (take i sent) ++ new) old → SameCounts (items_sent stations sent ++ new) old
  all_unsent stations sent i old new l so_far = subst (λ bs. SameCounts (items_sent stations bs ++ new) old) (take_all i sent l) so_far

  -- ---- inputs, one by one

  -- the next input's frontier is counted
  pub one_more_input : (inputs : List (List T)) (n : ℕ) (mid new : List (Counted T)) → SameCounts mid (items_left n inputs) → SameCounts new (items_at (Input n) (front_at n inputs) ++ mid) → SameCounts new (items_left (n + 1) inputs)
  one_more_input inputs n mid new so_far added test =
      let a = so_far test in
      let b = added test in
      let more : n + 1 ≡ suc n = omega arith in
      let c = ap (λ k. count test (items_left k inputs)) more in
      let d = ap (count test) (left_spread (suc n) inputs ∙ flat_more (at_input inputs) n) in
      let e = ap (count test) (left_spread n inputs) in
      let f = count_both test (flat_map (at_input inputs) (numbers_below n)) (at_input inputs n) in
      let g = count_both test (items_at (Input n) (front_at n inputs)) mid in
      omega (arith, a, b, c, d, e, f, g)

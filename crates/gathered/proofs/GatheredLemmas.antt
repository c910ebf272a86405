-- What is gathered: the times of what a node makes, and a list whose totals are not too large.
use Rattle.std.proofs.Common.{◌≡◌, ◌≤◌, ◌<◌, ◌+◌, ◌^◌, ℕ, List, length, drop, ap, refl, arith}
use Rattle.std.proofs.lemmas.List.{drop_all}
use Rattle.std.proofs.lemmas.Simd.{map-map}
use Rattle.row.specs.declared.test.Test.{Test}
use Rattle.update.specs.Updates.{size}
use Rattle.update.specs.declared.change.Update.{Update}
use Rattle.update.proofs.ConsolidatedLemmas.{summed_size, summed_size_is}
use Rattle.plan.specs.declared.node.Node.{Node}
use Rattle.plan.specs.declared.node.Node.TheVariants.{Filter, Map, Negate}
use Rattle.linear.specs.Applied.{linear_output, mapped_update, negated_update}
use Rattle.histories.specs.Histories.States.{update_times}

module _ {T : Type 0} where
  -- a node that is no filter makes one update of each, at its time
  pub times_kept : (node : Node) → ((source : ℕ) (test : Test) → node ≡ Filter source test → ⊥) → (us : List (Update T)) → update_times (linear_output node us) ≡ update_times us
  times_kept (Map source items) apart us = map-map (λ (u : Update T). u.time) (mapped_update items) us
  times_kept (Filter source test) apart us = absurd (apart source test refl)
  times_kept (Negate source) apart us = map-map (λ (u : Update T). u.time) negated_update us
  times_kept other apart us = refl

  -- once all updates were gone through, they have left some of 2^63
  pub small_size : (us : List (Update T)) (room i : ℕ) → length us ≤ i → summed_size us + (room + 1) ≡ 2 ^ 63 + summed_size (drop i us) → size us < 2 ^ 63
  small_size us room i l h =
      let none = ap summed_size (drop_all i us l) in
      let is = summed_size_is us in
      omega (arith, h, none, is)

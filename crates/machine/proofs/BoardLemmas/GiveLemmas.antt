-- The board after a worker's output was passed on, at a view and elsewhere.
use Rattle.std.proofs.Common.{◌≡◌, ℕ, true, false, cond, List, ◌++◌, set, get_or, sym, ap, ◌∙◌, Result, Ok, Err}
use Rattle.std.specs.Result.{OnOk, OnErr}
use Rattle.std.proofs.lemmas.List.{set-get_or}
use Rattle.plan.specs.Nodes.{is_output}
use Rattle.histories.specs.declared.event.Bundle.{Bundle}
use Rattle.histories.specs.declared.event.Emission.{Emission}
use Rattle.views.specs.Views.{ViewState}
use Rattle.accounts.specs.Accounts.{AccountState, after_giving}
use Rattle.histories.specs.Histories.Dataflows.{node_of}
use Rattle.machine.specs.Boards.{BoardState, capture_at, pass_output, no_view}
use Rattle.machine.proofs.BoardLemmas.AcceptLemmas.{accounts_of, with_accounts}

module _ {T : Type 0} (b : BoardState T) {v : BoardState T} (e : v ≡ b) (g : Emission T) (ts : List T) (sent : List (Bundle T)) (a : AccountState T) where
  -- the accounts after the give
  given : a ≡ after_giving g ts sent (accounts_of v) → a ≡ after_giving g ts sent (accounts_of b)
  given f = f ∙ ap (λ (z : BoardState T). after_giving g ts sent (accounts_of z)) e

  -- at a node that is no view, the bundles and the held times went to their places
  pub passed_on : {A E : Type 0} (r : Result A E) → OnOk r (a ≡ after_giving g ts sent (accounts_of v)) → is_output (node_of b.dataflow g.node) ≡ false → OnOk r (with_accounts v a ≡ pass_output g ts sent b)
  passed_on (Err x) f elsewhere = f
  passed_on (Ok x) f elsewhere =
      (λ i. with_accounts (e i) (given f i))
      ∙ (λ i. record (with_accounts b (after_giving g ts sent (accounts_of b))) { views = cond (sym elsewhere i) (capture_at g.node g.updates b.views) b.views })

  -- at a view, the updates were captured as well
  pub passed_to : {A E : Type 0} (r : Result A E) (n : ℕ) (seen x : ViewState T) → OnOk r (a ≡ after_giving g ts sent (accounts_of v)) → OnOk r (x ≡ record seen { captured = seen.captured ++ g.updates }) → seen ≡ get_or b.views g.node no_view → n ≡ g.node → is_output (node_of b.dataflow g.node) ≡ true
      → OnOk r (record (with_accounts v a) { views = set v.views n x } ≡ pass_output g ts sent b)
  passed_to (Err y) n seen x f m s at here = f
  passed_to (Ok y) n seen x f m s at here =
      let more : x ≡ record (get_or b.views g.node no_view) { captured = (get_or b.views g.node no_view).captured ++ g.updates } = m ∙ ap (λ (z : ViewState T). record z { captured = z.captured ++ g.updates }) s in
      (λ i. record (with_accounts (e i) (given f i)) { views = set (e i).views (at i) (more i) })
      ∙ (λ i. record (with_accounts b (after_giving g ts sent (accounts_of b))) { views = cond (sym here i) (capture_at g.node g.updates b.views) b.views })

  -- if it was refused, then nothing has changed
  pub stayed : {A E : Type 0} (r : Result A E) → OnErr r (a ≡ accounts_of v) → OnErr r (with_accounts v a ≡ b)
  stayed (Ok x) f = f
  stayed (Err x) f = (λ i. with_accounts v (f i)) ∙ e

  pub stayed_at : {A E : Type 0} (r : Result A E) (n : ℕ) (seen x : ViewState T) → OnErr r (a ≡ accounts_of v) → OnErr r (x ≡ seen) → seen ≡ get_or b.views g.node no_view → n ≡ g.node → OnErr r (record (with_accounts v a) { views = set v.views n x } ≡ b)
  stayed_at (Ok y) n seen x f m s at = f
  stayed_at (Err y) n seen x f m s at =
      (λ i. record (with_accounts v (f i)) { views = set v.views n x })
      ∙ ((λ i. record (e i) { views = set (e i).views (at i) ((m ∙ s) i) })
      ∙ (λ i. record b { views = set-get_or b.views g.node no_view i }))

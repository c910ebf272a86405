use Rattle.std.proofs.Common.{◌≡◌, ◌∙◌, ◌<◌, ◌+◌, ◌||◌, sym, ap, subst, drop, length, List, get_or}
use Rattle.std.specs.List.{list_any}
use Rattle.std.proofs.lemmas.List.{at_drop_more}
use Rattle.plan.specs.Changes.{has_passed}
use Rattle.outstanding.specs.Loads.{lot_of}
use Rattle.accounts.specs.Accounts.{AccountState, input_front_of}
use Rattle.machine.proofs.board.frontiers.holds_passed.Goals as goal

pub returns-then-input_has_passed-clause-value : goal.returns-then-input_has_passed-clause-value
returns-then-input_has_passed-clause-value g c =
    let times = g.T.PartialOrder.times in
    let a : AccountState g.row.T.Denot = c.args.accounts.now in
    let n = c.args.node in
    let k = c.args.worker in
    let i = c.loop-i.i in
    let t = c.index-held-i.result in
    let passed = has_passed times (input_front_of times a n) in
    let held : List g.row.T.Denot = (lot_of a.stations n k).held in
    let seen : c.held.result.now ≡ held = c.held.ensures ∙ ap (λ s. (lot_of s n k).held) (c.stations-in-loop-i.ensures ∙ ap (λ (z : AccountState g.row.T.Denot). z.stations) c.loop-i.invariant.kept) in
    let end : c.held-i-end.result.now ≡ held = c.held-i-end.ensures ∙ ap (λ s. (lot_of s n k).held) (c.stations.ensures ∙ ap (λ (z : AccountState g.row.T.Denot). z.stations) c.refresh_for_many.ensures) in
    let inside : i < length held = subst (λ (ts : List g.row.T.Denot). i < length ts) end c.loop-i-test.true in
    let asked : c.input_has_passed.result ≡ passed t = c.input_has_passed.ensures.value ∙ ap (λ (z : AccountState g.row.T.Denot). has_passed times (input_front_of times z n) t) c.loop-i.invariant.kept in
    let next : list_any passed (drop i held) ≡ (passed t || list_any passed (drop (i + 1) held)) =
    at_drop_more (list_any passed) held i t inside ∙ ap (λ x. passed x || list_any passed (drop (i + 1) held)) (sym (c.index-held-i.is ∙ ap (λ ts. get_or ts i t) seen)) in
    sym (sym c.loop-i.invariant.rest ∙ (next ∙ ap (λ b. b || list_any passed (drop (i + 1) held)) (sym asked ∙ c.if-input_has_passed.true)))

pub loop-i-preserved : goal.loop-i-preserved
loop-i-preserved g c =
    let times = g.T.PartialOrder.times in
    let a : AccountState g.row.T.Denot = c.args.accounts.now in
    let n = c.args.node in
    let k = c.args.worker in
    let i = c.loop-i.i in
    let t = c.index-held-i.result in
    let passed = has_passed times (input_front_of times a n) in
    let held : List g.row.T.Denot = (lot_of a.stations n k).held in
    let seen : c.held.result.now ≡ held = c.held.ensures ∙ ap (λ s. (lot_of s n k).held) (c.stations-in-loop-i.ensures ∙ ap (λ (z : AccountState g.row.T.Denot). z.stations) c.loop-i.invariant.kept) in
    let end : c.held-i-end.result.now ≡ held = c.held-i-end.ensures ∙ ap (λ s. (lot_of s n k).held) (c.stations.ensures ∙ ap (λ (z : AccountState g.row.T.Denot). z.stations) c.refresh_for_many.ensures) in
    let inside : i < length held = subst (λ (ts : List g.row.T.Denot). i < length ts) end c.loop-i-test.true in
    let asked : c.input_has_passed.result ≡ passed t = c.input_has_passed.ensures.value ∙ ap (λ (z : AccountState g.row.T.Denot). has_passed times (input_front_of times z n) t) c.loop-i.invariant.kept in
    let next : list_any passed (drop i held) ≡ (passed t || list_any passed (drop (i + 1) held)) =
    at_drop_more (list_any passed) held i t inside ∙ ap (λ x. passed x || list_any passed (drop (i + 1) held)) (sym (c.index-held-i.is ∙ ap (λ ts. get_or ts i t) seen)) in
    record {
      kept = c.input_has_passed.ensures.kept ∙ c.loop-i.invariant.kept;
      rest = sym (next ∙ ap (λ b. b || list_any passed (drop (i + 1) held)) (sym asked ∙ c.if-input_has_passed.false)) ∙ c.loop-i.invariant.rest;
    }

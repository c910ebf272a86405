use Rattle.std.proofs.Common.{◌≡◌, ◌≤◌, arith, ◌++◌, ◌∷◌, [], List, ℤ, false, cond, sym, subst}
use Rattle.std.specs.List.{list_any}
use Rattle.std.specs.Result.{IfOk, is_ok}
use Rattle.indexmap.specs.IndexSet.{insert_key}
use Rattle.update.specs.Bags.{same_row}
use Rattle.reduce.specs.Histories.{HistoryState, HistoriesState}
use Rattle.reduce.proofs.HistoryLemmas.{keys_pushed}
use Rattle.reduce.proofs.histories.Histories.push.Goals as goal

-- the key has no history yet, and there is room in the set and in the list, so each takes one more
pub invariant_of-self : goal.invariant_of-self
invariant_of-self g c =
    let keys : List (List ℤ) = c.self.inside.keys.keys in
    let hs : List (HistoryState g.row.T.Denot) = c.self.inside.histories.items in
    let history : HistoryState g.row.T.Denot = c.args.history in
    let new = subst (λ (s : HistoriesState g.row.T.Denot). list_any (λ h. same_row history.key h.key) s.items ≡ false) (sym c.self.view_is) c.requires.new in
    let inserted = subst (λ r. IfOk r (λ _. c.insert.new.self.keys ≡ insert_key same_row keys c.copy.result)) c.unwrap.ensures c.insert.ensures.keys in
    let pushed = subst (λ r. c.push.new.self.items ≡ cond (is_ok r) (hs ++ history ∷ []) hs) c.unwrap-2.ensures c.push.ensures.items in
    rw (inserted, c.copy.ensures, c.key.ensures, pushed) (keys_pushed keys hs history c.self.invariant new)

-- there is room in the list
pub unwrap-requires-2 : goal.unwrap-requires-2
unwrap-requires-2 g c =
    let room = subst (λ (s : HistoriesState g.row.T.Denot). 1 ≤ s.spare) (sym c.self.view_is) c.requires.room in
    c.push.ensures.succeeds (omega (arith, room))

use Rattle.std.proofs.Common.{◌≡◌, map, sym, ◌∙◌, ap}
use Rattle.std.specs.List.{list_any, position}
use Rattle.std.specs.Option.{is_some}
use Rattle.update.specs.Bags.{same_row}
use Rattle.reduce.specs.Histories.{HistoriesState}
use Rattle.reduce.proofs.HistoryLemmas.{any_of_keys, found_of_key}
use Rattle.reduce.proofs.histories.Histories.find.Goals as goal

-- the keys of the set are those of the histories
keys : (g : _) (c : goal.After-get_index_of g) → c.self.inside.keys.keys ≡ map (λ h. h.key) c.args.self.now.items
keys g c = c.self.invariant.0 ∙ ap (λ (s : HistoriesState g.row.T.Denot). map (λ h. h.key) s.items) c.self.view_is

pub returns-clause-found : goal.returns-clause-found
returns-clause-found g c =
    found_of_key c.args.key.now c.args.self.now.items c.get_index_of.result
    (c.get_index_of.ensures.index ∙ ap (position (same_row c.args.key.now)) (keys g c))

pub returns-clause-absent : goal.returns-clause-absent
returns-clause-absent g c none =
    sym (any_of_keys (same_row c.args.key.now) c.args.self.now.items)
    ∙ ap (list_any (same_row c.args.key.now)) (sym (keys g c))
    ∙ sym c.get_index_of.ensures.found
    ∙ ap is_some none

use Rattle.std.proofs.Common.{List, refl, sym, ◌∙◌, ap, set, slice_get}
use Rattle.reduce.specs.Histories.{HistoryState, HistoriesState}
use Rattle.reduce.proofs.CommitLemmas.{there, keys_stay}
use Rattle.reduce.proofs.CompactLemmas.{is_moved, moved}
use Rattle.reduce.proofs.histories.Histories.compact.Goals as goal

-- the history keeps its key
pub invariant_of-self : goal.invariant_of-self
invariant_of-self g c =
    let new = c.compact.new.self in
    keys_stay c.args.i (moved new.times new.given) c.self.inside.histories.items c.args.self.now.items c.index_mut-history.result.now new (ap (λ (s : HistoriesState g.row.T.Denot). s.items) c.self.view_is) c.requires c.index_mut-history.ensures.value
    (is_moved g.T.PartialOrder.times g.T.Ord.cmp c.args.since.now c.index_mut-history.result.now new c.compact.ensures.compacted)
    c.self.inside.keys.keys (λ h. refl) c.self.invariant

pub returns : goal.returns
returns g c =
    let new = c.compact.new.self in
    let was = c.index_mut-history.result.now in
    let same = ap (λ (s : HistoriesState g.row.T.Denot). s.items) c.self.view_is in
    let is = is_moved g.T.PartialOrder.times g.T.Ord.cmp c.args.since.now was new c.compact.ensures.compacted in
    let at = there c.args.i (moved new.times new.given) c.self.inside.histories.items c.args.self.now.items was new same c.requires c.index_mut-history.ensures.value is in (
      was,
      new,
      ap (λ (hs : List (HistoryState g.row.T.Denot)). slice_get hs c.args.i) (sym same) ∙ at,
      ap (λ (hs : List (HistoryState g.row.T.Denot)). set hs c.args.i new) same,
      c.compact.ensures.compacted,
      c.compact.ensures.folded,
      c.compact.ensures.refused,
    )

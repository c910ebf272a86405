use Rattle.std.proofs.Common.{◌≡◌, ◌++◌, sym, ap, subst, inl, inr, ⊎_elim, ◌∙◌}
use Rattle.std.proofs.lemmas.Result.{err_from_is_err_and}
use Rattle.update.specs.Updates.{HasLargeTotal}
use Rattle.batch.specs.Changes.{with_row}
use Rattle.batch.specs.Compaction.{compacted, StandFor}
use Rattle.batch.specs.Descriptions.{BatchState}
use Rattle.batch.specs.Merges.{MergingState, IsUnderway, IsRead}
use Rattle.batch.proofs.CompactionLemmas.{stand_once}
use Rattle.batch.proofs.UnderwayLemmas.{ended_whole, ended_large}
use Rattle.batch.proofs.merger.Merging.whole.Goals as goal

pub returns-in_err-finish_row-clause-refused : goal.returns-in_err-finish_row-clause-refused
returns-in_err-finish_row-clause-refused g c =
    let p = err_from_is_err_and c.from_residual.result c.from_residual.ensures.1 in
    let cmp = g.T.Ord.cmp in
    let times = g.T.PartialOrder.times in
    let us = c.args.us.now in
    let vs = c.args.vs.now in
    let inside = c.self.inside in
    let m : MergingState g.row.T.Denot = record { description = inside.description; finished = inside.rows.finished; in_hand = with_row inside.rows.row inside.rows.in_hand.items; left = inside.left; right = inside.right } in
    let e : m ≡ c.args.self = c.self.view_is in
    let underway = subst (λ x. IsUnderway times cmp us vs x) (sym e) c.requires.underway in
    let read = subst (λ x. IsRead us vs x) (sym e) c.requires.read in
    rw p.1 (⊎_elim
    (λ d. inl (p.2 ∙ d))
    (λ r. inr (p.2 ∙ r.0, subst (λ (x : MergingState g.row.T.Denot). HasLargeTotal times (compacted times x.description.since (us ++ vs))) e (ended_large times cmp us vs m underway read r.1)))
    c.in_err-finish_row.ensures.refused)

pub of-requires-clause-sealed : goal.of-requires-clause-sealed
of-requires-clause-sealed g c =
    let w = c.in_ok-finish_row.ensures.written in
    (ended_whole g.T.PartialOrder.times g.T.Ord.cmp c.args.us.now c.args.vs.now _ c.args.self _ _ w.0 c.self.view_is c.requires.underway c.requires.read c.into_columns.ensures w.1 w.2 w.3 c.in_ok-finish_row.ensures.fits).sealed

pub of-requires-clause-still : goal.of-requires-clause-still
of-requires-clause-still g c =
    let w = c.in_ok-finish_row.ensures.written in
    (ended_whole g.T.PartialOrder.times g.T.Ord.cmp c.args.us.now c.args.vs.now _ c.args.self _ _ w.0 c.self.view_is c.requires.underway c.requires.read c.into_columns.ensures w.1 w.2 w.3 c.in_ok-finish_row.ensures.fits).still

pub of-requires-clause-compacted : goal.of-requires-clause-compacted
of-requires-clause-compacted g c =
    let w = c.in_ok-finish_row.ensures.written in
    stand_once g.met.T.PartialOrder.order g.met.T.Lattice.bounds c.self.inside.description.since c.into_columns.result (c.args.us.now ++ c.args.vs.now)
    (ended_whole g.T.PartialOrder.times g.T.Ord.cmp c.args.us.now c.args.vs.now _ c.args.self _ _ w.0 c.self.view_is c.requires.underway c.requires.read c.into_columns.ensures w.1 w.2 w.3 c.in_ok-finish_row.ensures.fits).stand

pub returns-clause-stand : goal.returns-clause-stand
returns-clause-stand g c =
    let w = c.in_ok-finish_row.ensures.written in
    let all = c.args.us.now ++ c.args.vs.now in
    let ended = ended_whole g.T.PartialOrder.times g.T.Ord.cmp c.args.us.now c.args.vs.now _ c.args.self _ _ w.0 c.self.view_is c.requires.underway c.requires.read c.into_columns.ensures w.1 w.2 w.3 c.in_ok-finish_row.ensures.fits in
    subst (λ (x : MergingState g.row.T.Denot). StandFor c.of.result.updates (compacted g.T.PartialOrder.times x.description.since all)) c.self.view_is
    (subst (λ ws. StandFor ws (compacted g.T.PartialOrder.times c.self.inside.description.since all)) (sym (ap (λ (b : BatchState g.row.T.Denot). b.updates) c.of.ensures)) ended.stand)

pub returns-clause-fits : goal.returns-clause-fits
returns-clause-fits g c =
    let w = c.in_ok-finish_row.ensures.written in
    let all = c.args.us.now ++ c.args.vs.now in
    let ended = ended_whole g.T.PartialOrder.times g.T.Ord.cmp c.args.us.now c.args.vs.now _ c.args.self _ _ w.0 c.self.view_is c.requires.underway c.requires.read c.into_columns.ensures w.1 w.2 w.3 c.in_ok-finish_row.ensures.fits in
    subst (λ (x : MergingState g.row.T.Denot). HasLargeTotal g.T.PartialOrder.times (compacted g.T.PartialOrder.times x.description.since all) → ⊥) c.self.view_is ended.fits

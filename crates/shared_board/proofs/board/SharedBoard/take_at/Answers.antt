use Rattle.std.proofs.Common.{Some, subst, sym, ap, ◌∙◌}
use Rattle.histories.specs.declared.event.Site.{Site}
use Rattle.machine.specs.declared.board.pieces.Piece.TheVariants.{Waiting}
use Rattle.machine.specs.Boards.{BoardState}
use Rattle.shared_board.specs.Tenures.{WaitsOrNot}
use Rattle.shared_board.proofs.SharedLemmas.{looked, taken}
use Rattle.shared_board.proofs.board.SharedBoard.take_at.Goals as goal

pub returns-in_err-bundle-clause-event : goal.returns-in_err-bundle-clause-event
returns-in_err-bundle-clause-event g c = looked g.T.PartialOrder.times g.T.Ord.cmp c.self.view_is c.take.new.self c.args.site.worker c.in_err-bundle.ensures.unchanged c.take.ensures.stands

pub returns-clause-event : goal.returns-clause-event
returns-clause-event g c = taken g.T.PartialOrder.times g.T.Ord.cmp c.self.view_is c.take.new.self c.args.site.worker c.args.number c.in_ok-bundle.bundle (ap (λ (s : Site). s.worker) c.in_ok-bundle.ensures.place) c.in_ok-bundle.ensures.taken c.take.ensures.stands

pub returns-clause-taken : goal.returns-clause-taken
returns-clause-taken g c p w pick e =
    let site = c.in_ok-bundle.ensures.place in (
      c.args.number,
      e ∙ ap (λ (s : Site). Some (Waiting s c.args.number)) (sym site),
      ap (λ (s : Site). s.worker) site,
      ap (λ (b : BoardState g.row.T.Denot). b.last) c.in_ok-bundle.ensures.taken,
    )

pub returns-clause-more : goal.returns-clause-more
returns-clause-more g c =
    subst (λ n. WaitsOrNot c.has_waiting-more.result n c.args.site.worker c.take.new.self.stations) (ap (λ (s : Site). s.node) (sym c.in_ok-bundle.ensures.place)) c.has_waiting-more.ensures

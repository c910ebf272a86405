use Rattle.std.proofs.Common.{◌∙◌, [], ℕ, List, ap, sym, subst}
use Rattle.std.proofs.lemmas.List.{append-nil}
use Rattle.hub.specs.declared.view.Entry.{Entry}
use Rattle.shared_board.specs.declared.event.BoardEvent.{BoardEvent}
use Rattle.shared_board.specs.Tenures.{AreKnown, AreOn, left_by, opening_in}
use Rattle.engine_trials.proofs.actor_tests.looks_take_nothing_in_hand.Goals as goal

-- before the worker's own look there is nothing but what others did
pub returns : goal.returns
returns g c = record {
  first = λ t k a first actor.
      let known = subst AreKnown first.seen actor.known in
      let on = subst (λ (es : List (Entry (BoardEvent g.row.T.Denot))). AreOn t es) (sym (append-nil first.others)) known.1 in
      let apart = c.others_change_nothing_of_a_worker.ensures t k first.others [] first.apart on in
      ap (λ (x : List (Entry (BoardEvent g.row.T.Denot)) × ℕ). (left_by g.T.PartialOrder.times (opening_in x.0).dataflow x.0).hand x.1) (λ i. (first.seen i, first.numbered i))
      ∙ (ap (λ (es : List (Entry (BoardEvent g.row.T.Denot))). (left_by g.T.PartialOrder.times t.dataflow es).hand k) (sym (append-nil first.others)) ∙ apart.hand);
}

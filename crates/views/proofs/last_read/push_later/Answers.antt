use Rattle.std.proofs.Common.{◌∷◌, ◌++◌, [], true, false, sym, ap, ◌∙◌, append-nil}
use Rattle.views.proofs.ViewLemmas.{later_more}
use Rattle.views.proofs.last_read.push_later.Goals as goal
use Rattle.views.proofs.last_read.push_later.Goals.{then-is_later_at+in_ok-push, else-is_later_at}

pub loop-position-preserved : goal.loop-position-preserved
loop-position-preserved g c =
    let i = c.loop-position in
    let more = λ (b : _) (h : _). later_more g.T.PartialOrder.times c.args.t.now c.args.captured.now i.position b h in
    elim c.if-is_later_at.branch [
      | then-is_later_at+in_ok-push w ↦ (λ j. (w.later-is j).items) ∙ w.in_ok-push.ensures.items ∙ ap (λ ks. ks ++ i.position ∷ []) i.invariant ∙ sym (more true (sym c.is_later_at.ensures ∙ w.if-is_later_at.true))
      | else-is_later_at w ↦ (λ j. (w.later-is j).items) ∙ i.invariant ∙ sym (append-nil _) ∙ sym (more false (sym c.is_later_at.ensures ∙ w.if-is_later_at.false))
    ]

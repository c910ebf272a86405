use Rattle.std.proofs.Common.{◌≡◌, true, sym, ◌∙◌, inl, rules}
use Rattle.std.proofs.lemmas.Bool.{false≢true}
use Rattle.progress.proofs.KeptLemmas.{fronts_more, fronts_less}
use Rattle.progress.proofs.kept.Kept.forget.Goals as goal
use Rattle.progress.proofs.kept.Kept.forget.Goals.{else-not-self-via-then-not-self+then-is_reached+else-has_element, else-not-self-via-then-not-self+else-is_reached, else-not-self-via-else-not-self}

pub returns-else-not-self : goal.returns-else-not-self
returns-else-not-self g c =
    elim c.else-not-self.branch [
      | else-not-self-via-then-not-self+then-is_reached+else-has_element w ↦
          record {
            gone = λ items is unmarked. w.has_element.ensures.gone w.if-has_element.false items (is unmarked);
            later = λ items u onward is unmarked. w.has_element.ensures.later w.if-has_element.false items u onward (is unmarked);
            stays = λ h. h;
            reached = λ h. inl h;
          }
      | else-not-self-via-then-not-self+else-is_reached w ↦
          let times = g.T.PartialOrder.times in
          let o = g.met.T.PartialOrder.order in
          let none = w.is_reached.ensures.unreached w.if-is_reached.false in
          record {
            gone = λ items is unmarked. fronts_less times o c.args.graph.now c.args.node c.args.place.now none c.args.t.now items c.args.self.now (is unmarked);
            later = λ items u onward is unmarked. fronts_more times o c.args.graph.now c.args.node c.args.place.now none u items c.args.self.now
                (fronts_less times o c.args.graph.now c.args.node c.args.place.now none c.args.t.now items c.args.self.now (is unmarked));
            stays = λ h. h;
            reached = λ h. inl h;
          }
      | else-not-self-via-else-not-self w ↦
          let marked : c.args.self.now.marked ≡ true = search rules in
          record {
            gone = λ items is unmarked. absurd (false≢true (sym unmarked ∙ marked));
            later = λ items u onward is unmarked. absurd (false≢true (sym unmarked ∙ marked));
            stays = λ h. h;
            reached = λ h. inl h;
          }
    ]

use Rattle.std.proofs.Common.{◌≡◌, true, refl, sym, ◌∙◌, rules}
use Rattle.std.proofs.lemmas.Bool.{false≢true}
use Rattle.progress.proofs.KeptLemmas.{fronts_more}
use Rattle.progress.proofs.kept.Kept.insert.Goals as goal
use Rattle.progress.proofs.kept.Kept.insert.Goals.{else-not-self-via-then-not-self+else-is_reached, else-not-self-via-else-not-self}

pub returns-in_ok-insert_in_all-clause-inserted : goal.returns-in_ok-insert_in_all-clause-inserted
returns-in_ok-insert_in_all-clause-inserted g c = record {
  current = λ items is unmarked. c.in_ok-insert_in_all.ensures.fronts items (is (sym c.insert_in_all.ensures.mark ∙ unmarked));
  mark = c.insert_in_all.ensures.mark;
}

pub returns-else-not-self-clause-inserted : goal.returns-else-not-self-clause-inserted
returns-else-not-self-clause-inserted g c =
    elim c.else-not-self.branch [
      | else-not-self-via-then-not-self+else-is_reached w ↦
          record {
            current = λ items is unmarked. fronts_more g.T.PartialOrder.times g.met.T.PartialOrder.order c.args.graph.now c.args.node c.args.place.now (w.is_reached.ensures.unreached w.if-is_reached.false) c.args.t items c.args.self.now (is unmarked);
            mark = refl;
          }
      | else-not-self-via-else-not-self w ↦
          let marked : c.args.self.now.marked ≡ true = search rules in
          record {
            current = λ items is unmarked. absurd (false≢true (sym unmarked ∙ marked));
            mark = refl;
          }
    ]

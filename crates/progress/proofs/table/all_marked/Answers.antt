use Rattle.std.proofs.Common.{ap, ◌∙◌, length, arith}
use Rattle.std.proofs.lemmas.List.{length_push}
use Rattle.progress.specs.Kept.{marks_of}
use Rattle.progress.specs.Tallies.{is_marked}
use Rattle.progress.proofs.MarkLemmas.{marks_more}
use Rattle.progress.proofs.table.all_marked.Goals as goal

pub loop-made-init : goal.loop-made-init
loop-made-init g c = record {
  len = ap length c.new-kept.ensures.items;
  marked = λ n l. absurd (omega (arith, l, ap length c.new-kept.ensures.items));
}

pub loop-made-preserved : goal.loop-made-preserved
loop-made-preserved g c =
    let ks = c.loop-made.kept.items in
    let k = c.new.result in
    let more = c.in_ok-push.ensures.items in
    let long = length_push ks k in
    record {
      len = ap length more ∙ omega (arith, long, c.loop-made.invariant.len);
      marked = λ n l.
          ap (λ xs. is_marked (marks_of xs) n) more
          ∙ marks_more ks k n c.new.ensures c.loop-made.invariant.marked (omega (arith, l, ap length more, long));
    }

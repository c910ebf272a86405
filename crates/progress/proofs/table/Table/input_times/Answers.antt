use Rattle.std.proofs.Common.{◌<◌, not, ◌&&◌, eqb, length, ap, sym, subst, ◌∙◌, arith}
use Rattle.std.specs.Prelude.{Result, Ok, Err, OnErr}
use Rattle.progress.specs.Kept.{AreCurrent, IsCurrent, marks_of}
use Rattle.progress.specs.Tallies.{is_marked}
use Rattle.progress.proofs.ChangeLemmas.{set_length}
use Rattle.progress.proofs.CurrentLemmas.{current_set}
use Rattle.progress.proofs.MarkLemmas.{same_mark, unmarked}
use Rattle.progress.proofs.table.Table.input_times.Goals as goal

on_err : {A E : Type 0} (r : Result A E) (P : Type 0) → P → OnErr r P
on_err (Ok x) P p = tt
on_err (Err e) P p = p

pub returns-in_err-times-clause-unanswered : goal.returns-in_err-times-clause-unanswered
returns-in_err-times-clause-unanswered g c =
    let at = c.number.ensures in
    let long = ap length c.self.view_is in
    let within : c.number.result < length c.self.inside.kept.items = omega (arith, at, long, c.requires.node, c.requires.tally.len) in
    on_err c.from_residual-in_err-times.result _
    (same_mark c.self.inside.kept.items c.number.result c.index_mut.result.now c.input_times.new.self within c.index_mut.ensures.value c.in_err-times.ensures.unchanged
    ∙ ap marks_of c.self.view_is)

pub returns-clause-unmarked : goal.returns-clause-unmarked
returns-clause-unmarked g c n =
    let at = c.number.ensures in
    let long = ap length c.self.view_is in
    let within : c.number.result < length c.self.inside.kept.items = omega (arith, at, long, c.requires.node, c.requires.tally.len) in
    unmarked c.self.inside.kept.items c.number.result n c.input_times.new.self within c.in_ok-times.ensures.unmarked
    ∙ (λ k. is_marked (marks_of (c.self.view_is k)) n && not (eqb n (at k)))

pub returns-clause-tally : goal.returns-clause-tally
returns-clause-tally g c =
    let times = g.T.PartialOrder.times in
    let nodes = c.args.graph.now in
    let items = c.args.items.now in
    let ks = c.self.inside.kept.items in
    let at = c.number.ensures in
    let long = ap length c.self.view_is in
    let within : c.number.result < length c.self.inside.kept.items = omega (arith, at, long, c.requires.node, c.requires.tally.len) in
    record {
      plan = c.requires.tally.plan;
      len = set_length ks c.number.result c.input_times.new.self ∙ (long ∙ c.requires.tally.len);
      current = current_set times nodes items ks c.number.result c.input_times.new.self within (subst (λ n. IsCurrent times nodes items n c.input_times.new.self) (sym at) c.input_times.ensures.current)
          (subst (λ xs. AreCurrent times nodes items xs) (sym c.self.view_is) c.requires.tally.current);
    }

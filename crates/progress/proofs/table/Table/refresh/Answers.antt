use Rattle.std.proofs.Common.{◌<◌, not, ◌&&◌, eqb, length, ap, ◌∙◌, arith}
use Rattle.std.specs.Prelude.{Result, Ok, Err, OnErr}
use Rattle.progress.specs.Kept.{marks_of}
use Rattle.progress.specs.Tallies.{is_marked}
use Rattle.progress.proofs.MarkLemmas.{same_mark, unmarked}
use Rattle.progress.proofs.table.Table.refresh.Goals as goal

on_err : {A E : Type 0} (r : Result A E) (P : Type 0) → P → OnErr r P
on_err (Ok x) P p = tt
on_err (Err e) P p = p

pub returns-in_err-refresh-clause-unanswered : goal.returns-in_err-refresh-clause-unanswered
returns-in_err-refresh-clause-unanswered g c =
    let at = c.number.ensures in
    let long = ap length c.self.view_is in
    let within : c.number.result < length c.self.inside.kept.items = omega (arith, at, long, c.requires.node, c.requires.tally.len) in
    on_err c.from_residual-in_err-refresh.result _
    (same_mark c.self.inside.kept.items c.number.result c.index_mut.result.now c.refresh.new.self within c.index_mut.ensures.value c.in_err-refresh.ensures.unchanged
    ∙ ap marks_of c.self.view_is)

pub returns-clause-unmarked : goal.returns-clause-unmarked
returns-clause-unmarked g c n =
    let at = c.number.ensures in
    let long = ap length c.self.view_is in
    let within : c.number.result < length c.self.inside.kept.items = omega (arith, at, long, c.requires.node, c.requires.tally.len) in
    unmarked c.self.inside.kept.items c.number.result n c.refresh.new.self within c.in_ok-refresh.ensures.unmarked
    ∙ (λ k. is_marked (marks_of (c.self.view_is k)) n && not (eqb n (at k)))

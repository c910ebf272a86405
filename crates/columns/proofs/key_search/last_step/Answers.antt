use Rattle.std.proofs.Common.{◌<◌, ◌+◌, ◌-◌, [], sym, ◌∙◌, length, arith}
use Rattle.columns.specs.Keys.{is_row_left_behind}
use Rattle.columns.proofs.SeekLemmas.{passes_upto, fails_from}
use Rattle.columns.proofs.key_search.last_step.Goals as goal
use Rattle.columns.proofs.key_search.last_step.Goals.{then-loop-step-test+else-is_left_behind, else-loop-step-test}

pub loop-step-preserved : goal.loop-step-preserved
loop-step-preserved c =
    let at = c.loop-step.at in
    let step = c.loop-step.step in
    let some : 0 < step = c.loop-step.invariant.steps in
    let passed = passes_upto (is_row_left_behind c.args.key.now c.args.through) c.args.rows.now c.args.from ((at + step) - 1) [] c.requires.parted (omega arith) (sym c.is_left_behind.ensures ∙ c.if-is_left_behind.true) in
    record {
      onward = omega arith;
      within = omega arith;
      steps = omega arith;
      before = λ k d h l. passed k d h (omega (arith, l));
    }

pub returns-clause-rest : goal.returns-clause-rest
returns-clause-rest c =
    let rows = c.args.rows.now in
    let at = c.loop-step.at in
    let step = c.loop-step.step in
    let some : 0 < step = c.loop-step.invariant.steps in
    elim c.loop-step-test.branch [
      | then-loop-step-test+else-is_left_behind w ↦
          let failed = fails_from (is_row_left_behind c.args.key.now c.args.through) rows ((at + step) - 1) (length rows) [] c.requires.parted (omega arith) (sym w.is_left_behind.ensures ∙ w.if-is_left_behind.false) in
          λ k d h l. failed k d (omega (arith, h)) l
      | else-loop-step-test w ↦ λ k d h l. absurd (omega (arith, h, l))
    ]

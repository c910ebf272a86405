use Rattle.std.proofs.Common.{◌<◌, ◌+◌, ◌-◌, ◌/◌, ℕ, [], sym, ◌∙◌, length, arith}
use Rattle.columns.specs.Keys.{is_row_left_behind}
use Rattle.columns.proofs.SeekLemmas.{passes_upto, fails_from}
use Rattle.columns.proofs.key_search.first_kept.Goals as goal

pub loop-low-preserved-then-is_left_behind : goal.loop-low-preserved-then-is_left_behind
loop-low-preserved-then-is_left_behind c =
    let middle : ℕ = c.loop-low.low + (c.loop-low.high - c.loop-low.low) / 2 in
    let within = c.requires.within in
    let inside : middle < length c.args.rows.now = omega (arith, within) in
    record {
      onward = omega arith;
      ordered = omega arith;
      within = c.loop-low.invariant.within;
      before = passes_upto (is_row_left_behind c.args.key.now c.args.through) c.args.rows.now c.args.part.start middle [] c.requires.parted inside (sym c.is_left_behind.ensures ∙ c.if-is_left_behind.true);
      rest = c.loop-low.invariant.rest;
    }

pub loop-low-preserved : goal.loop-low-preserved
loop-low-preserved c =
    let middle : ℕ = c.loop-low.low + (c.loop-low.high - c.loop-low.low) / 2 in
    record {
      onward = c.loop-low.invariant.onward;
      ordered = omega arith;
      within = omega arith;
      before = c.loop-low.invariant.before;
      rest = fails_from (is_row_left_behind c.args.key.now c.args.through) c.args.rows.now middle c.args.part.end [] c.requires.parted c.requires.within (sym c.is_left_behind.ensures ∙ c.if-is_left_behind.false);
    }

use Rattle.std.proofs.Common.{rules, ◌≡◌, length, arith, true, false, ap}
use Rattle.grammar.specs.Text.{lines_of}
use Rattle.grammar.specs.ParseStates.{parse_state}
use Rattle.grammar.specs.Scripts.{lines_from, script_of}
use Rattle.grammar.proofs.RunLemmas.{line_taken, line_wrong, all_taken, no_start, none_taken, one_more, reached}
use Rattle.grammar.proofs.parser.take_lines.Goals as goal

pub loop-rest-init : goal.loop-rest-init
loop-rest-init c = record {
  so_far = ap (λ k. lines_from 1 k (lines_of c.args.bytes.now)) c.requires;
  numbered = omega arith;
  taken = none_taken (lines_of c.args.bytes.now) (parse_state c.args.draft.now) c.requires;
}

pub returns-in-Err : goal.returns-in-Err
returns-in-Err c = record {
  exact = rw c.fault.ensures (line_wrong c.in-Err.error c.loop-rest.number (parse_state c.loop-rest.draft) c.first_line.result.0.now (lines_of c.loop-rest.rest.now) (lines_of c.first_line.result.1.now) (script_of c.args.bytes.now) c.first_line.ensures.line c.in-Err.ensures c.loop-rest.invariant.so_far);
  reached = rw c.fault.ensures (reached (lines_of c.args.bytes.now) c.loop-rest.number (parse_state c.loop-rest.draft) (lines_of c.loop-rest.rest.now) c.loop-rest.invariant.taken);
}

pub loop-rest-preserved : goal.loop-rest-preserved
loop-rest-preserved c = record {
  so_far = line_taken c.loop-rest.number (parse_state c.loop-rest.draft) (parse_state c.take_line.new.draft) c.first_line.result.0.now (lines_of c.loop-rest.rest.now) (lines_of c.first_line.result.1.now) (script_of c.args.bytes.now) c.first_line.ensures.line c.in-Ok.ensures c.loop-rest.invariant.so_far;
  numbered = omega arith;
  taken = one_more (lines_of c.args.bytes.now) c.loop-rest.number (parse_state c.loop-rest.draft) (parse_state c.take_line.new.draft) c.first_line.result.0.now (lines_of c.loop-rest.rest.now) (lines_of c.first_line.result.1.now) c.first_line.ensures.line c.in-Ok.ensures c.loop-rest.invariant.taken;
}

pub returns-then-draft : goal.returns-then-draft
returns-then-draft c =
    let e : length c.loop-rest.rest.now ≡ 0 = search rules in
    let s : c.loop-rest.draft.started ≡ true = search rules in
    record { exact = all_taken c.loop-rest.number (parse_state c.loop-rest.draft) c.loop-rest.rest.now (script_of c.args.bytes.now) e s c.loop-rest.invariant.so_far; reached = tt }

pub returns-clause-exact : goal.returns-clause-exact
returns-clause-exact c =
    let e : length c.loop-rest.rest.now ≡ 0 = search rules in
    let s : c.loop-rest.draft.started ≡ false = search rules in
    rw c.fault-else-draft.ensures (no_start c.loop-rest.number (parse_state c.loop-rest.draft) c.loop-rest.rest.now (script_of c.args.bytes.now) e s c.loop-rest.invariant.so_far)

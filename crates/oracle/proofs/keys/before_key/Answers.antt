use Rattle.std.proofs.Common.{sym, ◌∙◌, arith}
use Rattle.oracle.proofs.KeyLemmas.{before_up_to, behind_from}
use Rattle.oracle.proofs.keys.before_key.Goals as goal

pub loop-low-preserved-then-is_before_key : goal.loop-low-preserved-then-is_before_key
loop-low-preserved-then-is_before_key c =
    record {
      order = omega arith;
      inside = c.loop-low.invariant.inside;
      before = before_up_to c.args.equal c.args.key.now c.args.bag.now c.len-high.ensures.bag _ (omega arith) (λ d. sym (c.is_before_key.ensures d) ∙ c.if-is_before_key.true);
      behind = c.loop-low.invariant.behind;
    }

pub loop-low-preserved : goal.loop-low-preserved
loop-low-preserved c =
    record {
      order = omega arith;
      inside = omega arith;
      before = c.loop-low.invariant.before;
      behind = behind_from c.args.equal c.args.key.now c.args.bag.now c.len-high.ensures.bag _ (omega arith) (λ d. sym (c.is_before_key.ensures d) ∙ c.if-is_before_key.false);
    }

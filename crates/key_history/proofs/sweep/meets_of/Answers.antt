use Rattle.std.proofs.Common.{◌∙◌, ◌-◌, arith}
use Rattle.key_history.proofs.SweepLemmas.{meets_more}
use Rattle.key_history.proofs.sweep.meets_of.Goals as goal

pub loop-i-preserved : goal.loop-i-preserved
loop-i-preserved g c =
    let was = c.loop-i.invariant in
    let done = c.meet_with_next.ensures in
    let some = c.loop-i-test.true in
    let within = c.loop-i.auto.i in
    record {
      as_many = done.length ∙ was.as_many;
      before = meets_more g.met.T.PartialOrder.order c.args.times.now c.loop-i.meets.items c.meet_with_next.new.meets.items (c.loop-i.i - 1) (omega (arith, some, within)) was.as_many
          (λ j s d le l m. was.before j s d (omega (arith, le, some)) l m) (λ d. was.others (c.loop-i.i - 1) d (omega (arith, some))) done.others done.here done.next;
      others = λ j d lt. done.others j d (λ e. absurd (omega (arith, e, lt))) ∙ was.others j d (omega (arith, lt, some));
    }

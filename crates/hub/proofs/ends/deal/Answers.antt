use Rattle.std.proofs.Common.{rules, ap}
use Rattle.hub.proofs.StepLemmas.{deals_allowed}
use Rattle.hub.proofs.ViewLemmas.{each_pushed}
use Rattle.hub.proofs.ends.deal.Goals as goal

pub split_seat-next-requires : goal.split_seat-next-requires
split_seat-next-requires g c = let i = c.loop.invariant in (search rules, search rules, deals_allowed _ _ _ (ap (λ m. m.0.deals) i.dealer))

pub loop-preserved : goal.loop-preserved
loop-preserved g c = let i = c.loop.invariant in record {
  counted = search rules;
  dealer = search rules;
  table = search rules;
  each = rw c.in_ok-push.ensures.items (each_pushed _ c.loop.dealt.items _ i.each (search rules));
}

pub returns-clause-each : goal.returns-clause-each
returns-clause-each g c = let i = c.loop.invariant in rw c.in_ok-push-2.ensures.items (each_pushed _ c.loop.dealt.items _ i.each (search rules))

use Rattle.std.proofs.Common.{refl, arith}
use Rattle.spine.proofs.policy.first_place.Goals as goal

pub returns-in-None-clause-steep : goal.returns-in-None-clause-steep
returns-in-None-clause-steep g c e i a b at next = c.in-None.ensures.none refl i a b (omega arith) at next

pub returns-in-None-2-clause-steep : goal.returns-in-None-2-clause-steep
returns-in-None-2-clause-steep g c e i a b at next = c.in-None-2.ensures.none refl i a b (omega arith) at next

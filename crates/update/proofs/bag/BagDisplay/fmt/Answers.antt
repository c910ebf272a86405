use Rattle.std.proofs.Common.{subst}
use Rattle.std.specs.Fmt.{HasWritten}
use Rattle.update.proofs.BagLemmas.{text_by_items}
use Rattle.update.proofs.bag.BagDisplay.fmt.Goals as goal

pub returns-clause-writes : goal.returns-clause-writes
returns-clause-writes g c plain ok =
    subst (λ bs. HasWritten g.W.Write.write_str_gives c.args.f.now bs c.loop-update.f)
    (text_by_items _ _ _ _ c.deref-update-items.ensures.value c.self.view_is c.loop-update-test.false)
    (c.loop-update.invariant plain)

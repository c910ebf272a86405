use Rattle.std.proofs.Common.{refl}
use Rattle.join.proofs.formed.Formed.consolidate.Goals as goal

pub returns-in_err-self-clause-large : goal.returns-in_err-self-clause-large
returns-in_err-self-clause-large g c h =
    rw c.replace-updates.ensures.value at (c.in_err-self.ensures.overflow.0 refl)

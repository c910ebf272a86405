use Rattle.std.proofs.Common.{nat_eq, ap, ◌∙◌}
use Rattle.outstanding.proofs.SurveyLemmas.{first_there}
use Rattle.outstanding.proofs.stations.Station.is_empty.Goals as goal

pub returns-else-len-eq0 : goal.returns-else-len-eq0
returns-else-len-eq0 g c =
    let long = c.len.ensures in
    ap (λ n. nat_eq n 0) long ∙ first_there c.args.self.now.left.loads c.args.self.now.right.loads (λ e. c.if-len-eq0.false (long ∙ e))

use Rattle.std.proofs.Common.{rules, ◌≡◌, ◌-◌, length}
use Rattle.oracle_trials.proofs.listing.listed.Goals as goal

-- the number of the last node is that of the node that is listed
pub returns : goal.returns
returns g c =
    let last : c.new-last.result ≡ length c.args.plan.now - 1 = search rules in
    rw last at c.differences.ensures.differences

use Rattle.outstanding.specs.Stations.{lots}
use Rattle.accounts.proofs.EventLemmas.{kept_is_counted}
use Rattle.accounts.proofs.accounts.Accounts.drop.Goals as goal

pub give_back-requires : goal.give_back-requires
give_back-requires g c =
    let inside = c.self.inside in
    kept_is_counted (record { nodes = inside.tally.nodes; stations = lots inside.stations; inputs = inside.inputs }) inside.tally.items c.self.invariant

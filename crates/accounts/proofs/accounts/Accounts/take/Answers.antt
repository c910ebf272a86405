use Rattle.std.proofs.Common.{◌<◌, ◌++◌, ◌∙◌, length, sym, subst, ap₂}
use Rattle.progress.specs.Several.{items_at, AreCounted}
use Rattle.progress.specs.Tallies.{SameCounts}
use Rattle.progress.specs.declared.place.Place.TheVariants.{Port}
use Rattle.outstanding.specs.Loads.{queue_of}
use Rattle.outstanding.specs.Stations.{lots}
use Rattle.accounts.specs.Accounts.{AccountState, IsCounted}
use Rattle.accounts.proofs.EventLemmas.{taken_counted, recounted}
use Rattle.accounts.proofs.accounts.Accounts.take.Goals as goal

pub invariant_of-self : goal.invariant_of-self
invariant_of-self g c =
    let new = c.take.new.tally.items in
    let a : AccountState g.row.T.Denot = record { nodes = c.self.inside.tally.nodes; stations = lots c.self.inside.stations; inputs = c.self.inside.inputs } in
    subst (λ (x : AccountState g.row.T.Denot). IsCounted x new)
    (ap₂ (λ nodes stations. record { nodes = nodes; stations = stations; inputs = c.self.inside.inputs }) (sym c.take.ensures.nodes) (sym c.in_err-bundle.ensures.unchanged))
    (recounted a c.self.inside.tally.items new c.self.invariant c.in_err-bundle.ensures.uncounted)

pub remove_all-requires : goal.remove_all-requires
remove_all-requires g c =
    let site = c.args.site.now in
    let items = c.self.inside.tally.items in
    let mid = c.take.new.tally.items in
    let bundle = c.in_ok-bundle.bundle in
    let a : AccountState g.row.T.Denot = record { nodes = c.self.inside.tally.nodes; stations = lots c.self.inside.stations; inputs = c.self.inside.inputs } in
    let waits = subst (λ (x : AccountState g.row.T.Denot). c.args.number < length (queue_of x.stations site)) (sym c.self.view_is) c.requires in
    let taken = taken_counted a site c.args.number bundle c.in_ok-bundle.ensures.place waits c.in_ok-bundle.ensures.waited items mid c.self.invariant c.in_ok-bundle.ensures.counted in
    subst (λ p. AreCounted mid (items_at p c.as_slice.result.now)) (sym c.port_of.ensures)
    (subst (λ ts. AreCounted mid (items_at (Port site.node site.port) ts)) (sym c.as_slice.ensures) taken.0)

pub invariant_of-self-2 : goal.invariant_of-self-2
invariant_of-self-2 g c =
    let site = c.args.site.now in
    let items = c.self.inside.tally.items in
    let mid = c.take.new.tally.items in
    let new = c.remove_all.new.self.items in
    let bundle = c.in_ok-bundle.bundle in
    let a : AccountState g.row.T.Denot = record { nodes = c.self.inside.tally.nodes; stations = lots c.self.inside.stations; inputs = c.self.inside.inputs } in
    let waits = subst (λ (x : AccountState g.row.T.Denot). c.args.number < length (queue_of x.stations site)) (sym c.self.view_is) c.requires in
    let taken = taken_counted a site c.args.number bundle c.in_ok-bundle.ensures.place waits c.in_ok-bundle.ensures.waited items mid c.self.invariant c.in_ok-bundle.ensures.counted in
    let removed = subst (λ p. SameCounts (items_at p bundle.stamp ++ new) mid) c.port_of.ensures (subst (λ ts. SameCounts (items_at c.port_of.result ts ++ new) mid) c.as_slice.ensures c.remove_all.ensures.counted) in
    subst (λ (x : AccountState g.row.T.Denot). IsCounted x new)
    (ap₂ (λ nodes stations. record { nodes = nodes; stations = stations; inputs = c.self.inside.inputs }) (sym (c.remove_all.ensures.nodes ∙ c.take.ensures.nodes)) (sym c.in_ok-bundle.ensures.taken))
    (taken.1 new removed)

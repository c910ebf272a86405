use Rattle.std.proofs.Common.{◌∷◌, ◌∙◌, sym, subst, ap₂}
use Rattle.std.specs.Prelude.{Contains}
use Rattle.progress.specs.Tallies.{SameCounts}
use Rattle.outstanding.specs.declared.queue.Parcel.TheVariants.{Change}
use Rattle.outstanding.specs.Loads.{load_of}
use Rattle.outstanding.specs.Stations.{lots}
use Rattle.accounts.specs.Accounts.{AccountState, IsCounted}
use Rattle.accounts.proofs.EventLemmas.{counted_put, first_is_there}
use Rattle.accounts.proofs.accounts.Accounts.put.Goals as goal

pub remove-requires : goal.remove-requires
remove-requires g c =
    subst (λ p. Contains c.add.new.self.items (record { place = p; time = c.args.update.time })) (c.port_of.ensures ∙ sym c.port_of-in-Err.ensures)
    (first_is_there g.T.PartialOrder.times g.met.T.PartialOrder.order (record { place = c.port_of.result; time = c.args.update.time }) c.self.inside.tally.items c.add.new.self.items c.in_ok-add.ensures.counted)

pub invariant_of-self-in_default : goal.invariant_of-self-in_default
invariant_of-self-in_default g c =
    let items = c.self.inside.tally.items in
    let new = c.add.new.self.items in
    let a : AccountState g.row.T.Denot = record { nodes = c.self.inside.tally.nodes; stations = lots c.self.inside.stations; inputs = c.self.inside.inputs } in
    let added = subst (λ p. SameCounts new (record { place = p; time = c.args.update.time } ∷ items)) c.port_of.ensures c.in_ok-add.ensures.counted in
    subst (λ (x : AccountState g.row.T.Denot). IsCounted x new) (ap₂ (λ nodes stations. record { nodes = nodes; stations = stations; inputs = c.self.inside.inputs }) (sym c.add.ensures.nodes) (sym c.in_default.ensures.put))
    (counted_put a c.args.site.now (load_of (Change c.args.update)) items new c.self.invariant (sym c.has_place.ensures ∙ c.if-not-has_place.false) added)

use Rattle.std.proofs.Common.{◌<◌, ◌++◌, ◌∙◌, length, sym, subst, ap₂}
use Rattle.progress.specs.Several.{items_at, AreCounted}
use Rattle.progress.specs.Tallies.{SameCounts}
use Rattle.progress.specs.declared.place.Place.TheVariants.{Input}
use Rattle.outstanding.specs.Stations.{lots}
use Rattle.accounts.specs.Accounts.{AccountState, IsCounted}
use Rattle.accounts.proofs.EventLemmas.{frontier_is_counted, counted_advance}
use Rattle.accounts.proofs.accounts.Accounts.advance.Goals as goal

pub remove_all-requires : goal.remove_all-requires
remove_all-requires g c =
    let items = c.self.inside.tally.items in
    let mid = c.add_all.new.self.items in
    let a : AccountState g.row.T.Denot = record { nodes = c.self.inside.tally.nodes; stations = lots c.self.inside.stations; inputs = c.self.inside.inputs } in
    let within = subst (λ (x : AccountState g.row.T.Denot). c.args.input < length x.nodes) (sym c.self.view_is) c.requires in
    let added = subst (λ ts. SameCounts mid (items_at (Input c.args.input) ts ++ items)) c.as_slice-2.ensures c.in_ok-add_all.ensures.counted in
    subst (λ ts. AreCounted mid (items_at (Input c.args.input) ts)) (sym c.of-2.ensures)
    (frontier_is_counted a c.args.input c.args.times within items mid c.self.invariant added)

pub invariant_of-self-2 : goal.invariant_of-self-2
invariant_of-self-2 g c =
    let items = c.self.inside.tally.items in
    let mid = c.add_all.new.self.items in
    let new = c.remove_all.new.self.items in
    let a : AccountState g.row.T.Denot = record { nodes = c.self.inside.tally.nodes; stations = lots c.self.inside.stations; inputs = c.self.inside.inputs } in
    let within = subst (λ (x : AccountState g.row.T.Denot). c.args.input < length x.nodes) (sym c.self.view_is) c.requires in
    let added = subst (λ ts. SameCounts mid (items_at (Input c.args.input) ts ++ items)) c.as_slice-2.ensures c.in_ok-add_all.ensures.counted in
    let removed = subst (λ ts. SameCounts (items_at (Input c.args.input) ts ++ new) mid) c.of-2.ensures c.remove_all.ensures.counted in
    subst (λ (x : AccountState g.row.T.Denot). IsCounted x new) (ap₂ (λ nodes inputs. record { nodes = nodes; stations = lots c.self.inside.stations; inputs = inputs }) (sym (c.remove_all.ensures.nodes ∙ c.add_all.ensures.nodes)) (sym c.stand_at.ensures))
    (counted_advance a c.args.input c.args.times within items mid c.self.invariant added new removed)

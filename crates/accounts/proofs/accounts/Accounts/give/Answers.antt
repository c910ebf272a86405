use Rattle.std.proofs.Common.{◌<◌, ◌++◌, ◌∙◌, List, [], length, get_or, sym, subst, ap₂}
use Rattle.progress.specs.Several.{AreCounted}
use Rattle.progress.specs.Tallies.{SameCounts}
use Rattle.outstanding.specs.Loads.{Lot, held_from, put_all}
use Rattle.outstanding.specs.Stations.{lots}
use Rattle.accounts.specs.Accounts.{AccountState, IsCounted, items_held_by}
use Rattle.accounts.proofs.EventLemmas.{held_is_counted, counted_give}
use Rattle.accounts.proofs.accounts.Accounts.give.Goals as goal

pub settle-requires-clause-held : goal.settle-requires-clause-held
settle-requires-clause-held g c =
    let given = c.args.cut.given in
    let items = c.self.inside.tally.items in
    let mid = c.announce.new.tally.items in
    let a : AccountState g.row.T.Denot = record { nodes = c.self.inside.tally.nodes; stations = lots c.self.inside.stations; inputs = c.self.inside.inputs } in
    let within = subst (λ (x : AccountState g.row.T.Denot). given.node < length x.stations) (sym c.self.view_is) c.requires.within in
    let staffed = subst (λ (x : AccountState g.row.T.Denot). given.worker < length (get_or x.stations given.node [])) (sym c.self.view_is) c.requires.staffed in
    subst (λ (all : List (List (Lot g.row.T.Denot))). AreCounted mid (items_held_by all given.node given.worker)) (sym c.announce.ensures.stations)
    (held_is_counted a given c.args.held c.args.cut.sent within staffed items mid c.self.invariant c.in-Ok.ensures.counted)

pub invariant_of-self-2 : goal.invariant_of-self-2
invariant_of-self-2 g c =
    let given = c.args.cut.given in
    let items = c.self.inside.tally.items in
    let mid = c.announce.new.tally.items in
    let new = c.settle.new.tally.items in
    let a : AccountState g.row.T.Denot = record { nodes = c.self.inside.tally.nodes; stations = lots c.self.inside.stations; inputs = c.self.inside.inputs } in
    let within = subst (λ (x : AccountState g.row.T.Denot). given.node < length x.stations) (sym c.self.view_is) c.requires.within in
    let staffed = subst (λ (x : AccountState g.row.T.Denot). given.worker < length (get_or x.stations given.node [])) (sym c.self.view_is) c.requires.staffed in
    let removed = subst (λ (all : List (List (Lot g.row.T.Denot))). SameCounts (items_held_by all given.node given.worker ++ new) mid) c.announce.ensures.stations c.settle.ensures.counted in
    let moved = c.settle.ensures.stations
    ∙ ap₂ (λ ts all. held_from given.node given.worker ts (put_all c.args.cut.sent all)) c.in-Ok.ensures.held c.announce.ensures.stations in
    subst (λ (x : AccountState g.row.T.Denot). IsCounted x new)
    (ap₂ (λ nodes stations. record { nodes = nodes; stations = stations; inputs = c.self.inside.inputs }) (sym (c.settle.ensures.nodes ∙ c.announce.ensures.nodes)) (sym moved))
    (counted_give a given c.args.held c.args.cut.sent within staffed items mid c.self.invariant c.in-Ok.ensures.counted new removed)

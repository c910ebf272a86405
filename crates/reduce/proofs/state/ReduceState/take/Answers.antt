use Rattle.std.proofs.Common.{map, ap}
use Rattle.reduce.specs.Intake.{made_from}
use Rattle.reduce.proofs.StandLemmas.{stands_now, pending_now, later_now, open_now}
use Rattle.reduce.proofs.state.ReduceState.take.Goals as goal

pub invariant_of-self : goal.invariant_of-self
invariant_of-self g c = rw c.reserve.ensures.items c.self.invariant

pub invariant_of-self-in_err-reserve-2 : goal.invariant_of-self-in_err-reserve-2
invariant_of-self-in_err-reserve-2 g c = rw (c.reserve.ensures.items, c.reserve-2.ensures.items) c.self.invariant

pub put_all-requires-clause-due : goal.put_all-requires-clause-due
put_all-requires-clause-due g c = rw c.reserve.ensures.items c.in_ok-made.ensures.due

pub invariant_of-self-2 : goal.invariant_of-self-2
invariant_of-self-2 g c = (
  c.self.invariant.0,
  c.self.invariant.1,
  c.put_all.ensures.known c.self.inside.key (rw c.reserve.ensures.items c.self.invariant.2) (rw c.reserve.ensures.items c.in_ok-made.ensures.made.histories),
  c.put_all.ensures.waiting,
)

pub returns-clause-stands : goal.returns-clause-stands
returns-clause-stands g c =
    let wide = rw (← ap (λ s. s.key) c.self.view_is) at c.requires.wide in
    rw (← ap (λ s. s.key) c.self.view_is, ← ap (λ s. s.histories) c.self.view_is, ← ap (λ s. s.reducer) c.self.view_is)
    (λ since taken given beyond st. stands_now g.T.Ord.cmp g.met.T.PartialOrder.order g.met.T.Lattice.bounds c.self.inside.key (g.B.BatchReader.content c.args.batch.now) c.self.inside.histories.items (map (made_from c.self.inside.histories.items) c.in_ok-made.made.items) c.put_all.new.histories.items c.in_ok-made.ensures.made (rw c.reserve.ensures.items at c.put_all.ensures.found) (g.R.Reducer.reduces c.self.inside.reducer) since beyond taken given wide st)

pub returns-clause-pending : goal.returns-clause-pending
returns-clause-pending g c =
    let wide = rw (← ap (λ s. s.key) c.self.view_is) at c.requires.wide in
    rw (← ap (λ s. s.key) c.self.view_is, ← ap (λ s. s.histories) c.self.view_is, ← ap (λ s. s.reducer) c.self.view_is)
    (λ since taken given beyond st. pending_now g.T.Ord.cmp g.met.T.PartialOrder.order g.met.T.Lattice.bounds c.self.inside.key (g.B.BatchReader.content c.args.batch.now) c.self.inside.histories.items (map (made_from c.self.inside.histories.items) c.in_ok-made.made.items) c.put_all.new.histories.items c.in_ok-made.ensures.made (rw c.reserve.ensures.items at c.put_all.ensures.found) (g.R.Reducer.reduces c.self.inside.reducer) since beyond taken given wide st)

pub returns-clause-later : goal.returns-clause-later
returns-clause-later g c = rw (← ap (λ s. s.key) c.self.view_is, ← ap (λ s. s.histories) c.self.view_is) (later_now g.T.Ord.cmp g.met.T.PartialOrder.order g.met.T.Lattice.bounds c.self.inside.key (g.B.BatchReader.content c.args.batch.now) c.self.inside.histories.items (map (made_from c.self.inside.histories.items) c.in_ok-made.made.items) c.put_all.new.histories.items c.in_ok-made.ensures.made (rw c.reserve.ensures.items at c.put_all.ensures.found))

pub returns-clause-open : goal.returns-clause-open
returns-clause-open g c = rw (← ap (λ s. s.key) c.self.view_is, ← ap (λ s. s.histories) c.self.view_is) (open_now g.T.Ord.cmp g.met.T.PartialOrder.order g.met.T.Lattice.bounds c.self.inside.key (g.B.BatchReader.content c.args.batch.now) c.self.inside.histories.items (map (made_from c.self.inside.histories.items) c.in_ok-made.made.items) c.put_all.new.histories.items c.in_ok-made.ensures.made (rw c.reserve.ensures.items at c.put_all.ensures.found))

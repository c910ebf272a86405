use Rattle.std.proofs.Common.{◌≡◌, false, inl, inr, refl, ap, ◌∙◌, ⊎_elim}
use Rattle.steps.specs.Workers.{WorkerView}
use Rattle.steps.proofs.WorkerLemmas.{failed, going, led, seen_large}
use Rattle.steps.proofs.worker.Worker.compute.Goals as goal

pub invariant_of-self : goal.invariant_of-self
invariant_of-self g c =
    let times = g.T.PartialOrder.times in
    let cmp = g.T.Ord.cmp in
    let inside = c.self.inside in
    let was : WorkerView g.row.T.Denot = record { known = inside.actor; desk = inside.desk; hand = inside.hand; failed = inside.failed } in
    let goes : inside.failed ≡ false = ap (λ (w : WorkerView g.row.T.Denot). w.failed) c.self.view_is ∙ c.requires.going in
    let done = c.compute in
    going times cmp inside.plan inside.routing inside.number was (record { known = inside.actor; desk = done.new.self; hand = done.new.hand; failed = inside.failed }) c.self.invariant goes refl refl
    (led times cmp inside.plan inside.actor c.known.ensures c.self.invariant.nodes inside.desk done.new.self inside.hand done.new.hand done.ensures.leads (c.self.invariant.right goes))

pub invariant_of-self-2 : goal.invariant_of-self-2
invariant_of-self-2 g c =
    let times = g.T.PartialOrder.times in
    let cmp = g.T.Ord.cmp in
    let inside = c.self.inside in
    let was : WorkerView g.row.T.Denot = record { known = inside.actor; desk = inside.desk; hand = inside.hand; failed = inside.failed } in
    let goes : inside.failed ≡ false = ap (λ (w : WorkerView g.row.T.Denot). w.failed) c.self.view_is ∙ c.requires.going in
    let done = c.compute in
    let fails = c.is_overflow-self-inside in
    let now : WorkerView g.row.T.Denot = record { known = inside.actor; desk = done.new.self; hand = done.new.hand; failed = fails.result } in
    ⊎_elim
    (λ memory. going times cmp inside.plan inside.routing inside.number was now c.self.invariant (fails.ensures.other memory) refl refl
    (led times cmp inside.plan inside.actor c.known.ensures c.self.invariant.nodes inside.desk done.new.self inside.hand done.new.hand done.ensures.leads (c.self.invariant.right goes)))
    (λ large. failed times cmp inside.plan inside.routing inside.number was now c.self.invariant (fails.ensures.overflow large.0) refl
    (seen_large times cmp inside.plan inside.actor c.known.ensures c.self.invariant.nodes inside.desk inside.hand large.1 (c.self.invariant.right goes)))
    c.in-Err.ensures.refused

pub returns-clause-refused : goal.returns-clause-refused
returns-clause-refused g c =
    let times = g.T.PartialOrder.times in
    let cmp = g.T.Ord.cmp in
    let inside = c.self.inside in
    let goes : inside.failed ≡ false = ap (λ (w : WorkerView g.row.T.Denot). w.failed) c.self.view_is ∙ c.requires.going in
    let fails = c.is_overflow-self-inside in
    ⊎_elim
    (λ memory. inl (memory, fails.ensures.other memory))
    (λ large. inr (large.0, fails.ensures.overflow large.0, seen_large times cmp inside.plan inside.actor c.known.ensures c.self.invariant.nodes inside.desk inside.hand large.1 (c.self.invariant.right goes)))
    c.in-Err.ensures.refused

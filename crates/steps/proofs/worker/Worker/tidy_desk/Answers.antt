use Rattle.std.proofs.Common.{rules, ◌≡◌, List, false, inl, inr, refl, sym, ap, subst, ◌∙◌, ⊎_elim}
use Rattle.plan.specs.declared.node.Node.{Node}
use Rattle.shared_board.specs.Found.{dataflow_of}
use Rattle.shared_board.specs.Tenures.{state_left}
use Rattle.desk_laws.specs.declared.hand.Hand.TheVariants.{Free}
use Rattle.desk.specs.Upkeep.{AreTold, IsTidy}
use Rattle.steps.specs.Workers.{IsRightOf, WorkerView}
use Rattle.steps.proofs.WorkerLemmas.{failed, going, may_tidy, tidied, tidy_large}
use Rattle.steps.proofs.worker.Worker.tidy_desk.Goals as goal

pub tidy-requires : goal.tidy-requires
tidy-requires g c =
    let times = g.T.PartialOrder.times in
    let inside = c.self.inside in
    let goes : inside.failed ≡ false = ap (λ (w : WorkerView g.row.T.Denot). w.failed) c.self.view_is ∙ c.requires.going in
    let free : inside.hand ≡ Free = ap (λ (w : WorkerView g.row.T.Denot). w.hand) c.self.view_is ∙ c.requires.free in
    let told : AreTold times (dataflow_of inside.actor) (state_left times inside.actor) c.args.fronts.now = subst (λ (w : WorkerView g.row.T.Denot). AreTold times (dataflow_of w.known) (state_left times w.known) c.args.fronts.now) (sym c.self.view_is) c.requires.told in
    (search rules, (search rules, may_tidy times g.T.Ord.cmp inside.plan inside.actor c.known.ensures c.self.invariant.nodes c.args.fronts.now told inside.desk (subst (IsRightOf times inside.actor inside.desk) free (c.self.invariant.right goes))))

pub invariant_of-self : goal.invariant_of-self
invariant_of-self g c =
    let times = g.T.PartialOrder.times in
    let cmp = g.T.Ord.cmp in
    let inside = c.self.inside in
    let was : WorkerView g.row.T.Denot = record { known = inside.actor; desk = inside.desk; hand = inside.hand; failed = inside.failed } in
    let goes : inside.failed ≡ false = ap (λ (w : WorkerView g.row.T.Denot). w.failed) c.self.view_is ∙ c.requires.going in
    let free : inside.hand ≡ Free = ap (λ (w : WorkerView g.row.T.Denot). w.hand) c.self.view_is ∙ c.requires.free in
    let told : AreTold times (dataflow_of inside.actor) (state_left times inside.actor) c.args.fronts.now = subst (λ (w : WorkerView g.row.T.Denot). AreTold times (dataflow_of w.known) (state_left times w.known) c.args.fronts.now) (sym c.self.view_is) c.requires.told in
    let done = c.tidy in
    going times cmp inside.plan inside.routing inside.number was (record { known = inside.actor; desk = done.new.self; hand = inside.hand; failed = inside.failed }) c.self.invariant goes refl refl
    (subst (IsRightOf times inside.actor done.new.self) (sym free)
    (tidied times cmp inside.plan inside.actor c.known.ensures c.self.invariant.nodes c.args.fronts.now told inside.desk (subst (IsRightOf times inside.actor inside.desk) free (c.self.invariant.right goes)) done.new.self done.ensures.leads))

pub invariant_of-self-in-Err : goal.invariant_of-self-in-Err
invariant_of-self-in-Err g c =
    let times = g.T.PartialOrder.times in
    let cmp = g.T.Ord.cmp in
    let inside = c.self.inside in
    let goes : inside.failed ≡ false = ap (λ (w : WorkerView g.row.T.Denot). w.failed) c.self.view_is ∙ c.requires.going in
    let free : inside.hand ≡ Free = ap (λ (w : WorkerView g.row.T.Denot). w.hand) c.self.view_is ∙ c.requires.free in
    let told : AreTold times (dataflow_of inside.actor) (state_left times inside.actor) c.args.fronts.now = subst (λ (w : WorkerView g.row.T.Denot). AreTold times (dataflow_of w.known) (state_left times w.known) c.args.fronts.now) (sym c.self.view_is) c.requires.told in
    let right = subst (IsRightOf times inside.actor inside.desk) free (c.self.invariant.right goes) in
    let was : WorkerView g.row.T.Denot = record { known = inside.actor; desk = inside.desk; hand = inside.hand; failed = inside.failed } in
    let done = c.tidy in
    let fails = c.is_overflow-self-inside in
    let now : WorkerView g.row.T.Denot = record { known = inside.actor; desk = done.new.self; hand = inside.hand; failed = fails.result } in
    ⊎_elim
    (λ memory. going times cmp inside.plan inside.routing inside.number was now c.self.invariant (fails.ensures.other memory) refl refl
    (subst (IsRightOf times inside.actor done.new.self) (sym free) (tidied times cmp inside.plan inside.actor c.known.ensures c.self.invariant.nodes c.args.fronts.now told inside.desk right done.new.self done.ensures.leads)))
    (λ large. failed times cmp inside.plan inside.routing inside.number was now c.self.invariant (fails.ensures.overflow large.0) refl (tidy_large times cmp inside.plan inside.actor c.known.ensures c.self.invariant.nodes c.args.fronts.now told inside.desk right large.1))
    c.in-Err.ensures.refused

pub returns-in-Ok-clause-tidy : goal.returns-in-Ok-clause-tidy
returns-in-Ok-clause-tidy g c whole =
    let times = g.T.PartialOrder.times in
    let inside = c.self.inside in
    let free : inside.hand ≡ Free = ap (λ (w : WorkerView g.row.T.Denot). w.hand) c.self.view_is ∙ c.requires.free in
    let told : AreTold times (dataflow_of inside.actor) (state_left times inside.actor) c.args.fronts.now = subst (λ (w : WorkerView g.row.T.Denot). AreTold times (dataflow_of w.known) (state_left times w.known) c.args.fronts.now) (sym c.self.view_is) c.requires.told in
    (free, c.args.fronts.now, told, subst (λ (nodes : List Node). IsTidy nodes c.args.fronts.now c.tidy.new.self times) c.self.invariant.nodes (c.in-Ok.ensures.tidy whole))

pub returns-in-Err-clause-refused : goal.returns-in-Err-clause-refused
returns-in-Err-clause-refused g c =
    let times = g.T.PartialOrder.times in
    let cmp = g.T.Ord.cmp in
    let inside = c.self.inside in
    let goes : inside.failed ≡ false = ap (λ (w : WorkerView g.row.T.Denot). w.failed) c.self.view_is ∙ c.requires.going in
    let free : inside.hand ≡ Free = ap (λ (w : WorkerView g.row.T.Denot). w.hand) c.self.view_is ∙ c.requires.free in
    let told : AreTold times (dataflow_of inside.actor) (state_left times inside.actor) c.args.fronts.now = subst (λ (w : WorkerView g.row.T.Denot). AreTold times (dataflow_of w.known) (state_left times w.known) c.args.fronts.now) (sym c.self.view_is) c.requires.told in
    let fails = c.is_overflow-self-inside in
    ⊎_elim
    (λ memory. inl (memory, fails.ensures.other memory))
    (λ large. inr (large.0, fails.ensures.overflow large.0, tidy_large times cmp inside.plan inside.actor c.known.ensures c.self.invariant.nodes c.args.fronts.now told inside.desk (subst (IsRightOf times inside.actor inside.desk) free (c.self.invariant.right goes)) large.1))
    c.in-Err.ensures.refused

use Rattle.std.proofs.Common.{◌≡◌, List, Some, IsTrue, sym, ◌∙◌, ap, subst}
use Rattle.std.specs.List.{Contains, slice_get}
use Rattle.std.proofs.lemmas.Option.{IfSome_then}
use Rattle.lattice.specs.Frontiers.{all_beyond}
use Rattle.antichain.specs.Antichains.{IsFrontier}
use Rattle.batch.specs.Descriptions.{BatchState}
use Rattle.trace.specs.BatchLists.{IsBatchList}
use Rattle.spine.specs.Spines.{SpineState, boundaries}
use Rattle.operator.specs.Arrangements.{upper_of}
use Rattle.operator.proofs.BoundaryAfterLemmas.{StayAt, ends_as_next, ends_further, some_by_cases, some_goes_on}
use Rattle.operator.proofs.arrangement.Arrangement.boundary_after.Goals as goal

pub returns-clause-next : goal.returns-clause-next
returns-clause-next g c inserted later taken next stands all is split here asked =
    let times = g.T.PartialOrder.times in
    let o = g.met.T.PartialOrder.order in
    let total = g.met.T.Ord.total in
    let s = c.args.self.now.spine in
    let u = c.args.acknowledged.now in
    let list : IsBatchList times g.T.Ord.cmp s.list = subst (λ (x : SpineState g.row.T.Denot). IsBatchList times g.T.Ord.cmp x.list) c.trace.ensures.value c.batches.ensures.known in
    let batches : c.batches.result.now ≡ s.list.batches = c.batches.ensures.value ∙ ap (λ (x : SpineState g.row.T.Denot). x.list.batches) c.trace.ensures.value in
    some_by_cases c.end_after.result c.end_after.ensures.some
    (λ none. some_goes_on o total s list inserted later taken next u stands all is split here asked (subst (StayAt u) batches (c.end_after.ensures.none none)))
    (λ end e.
    let at : slice_get s.list.batches e.0 ≡ Some e.1 = subst (λ (bs : List (BatchState g.row.T.Denot)). slice_get bs e.0 ≡ Some e.1) batches e.2 in
    e.5 ∙ ends_as_next o total s list inserted later taken next u stands all is split here asked e.0 e.1 at e.3 e.4)

pub returns-clause-boundary : goal.returns-clause-boundary
returns-clause-boundary g c =
    let times = g.T.PartialOrder.times in
    let s = c.args.self.now.spine in
    let list : IsBatchList times g.T.Ord.cmp s.list = subst (λ (x : SpineState g.row.T.Denot). IsBatchList times g.T.Ord.cmp x.list) c.trace.ensures.value c.batches.ensures.known in
    let batches : c.batches.result.now ≡ s.list.batches = c.batches.ensures.value ∙ ap (λ (x : SpineState g.row.T.Denot). x.list.batches) c.trace.ensures.value in
    IfSome_then c.end_after.result c.end_after.ensures.some
    (λ end e.
    let at : slice_get s.list.batches e.0 ≡ Some e.1 = subst (λ (bs : List (BatchState g.row.T.Denot)). slice_get bs e.0 ≡ Some e.1) batches e.2 in
    subst (Contains (boundaries s)) (sym e.5) (ends_further g.met.T.PartialOrder.order g.T.Ord.cmp s.list list e.0 e.1 c.args.acknowledged.now at e.3).0)

pub returns-clause-behind : goal.returns-clause-behind
returns-clause-behind g c =
    let times = g.T.PartialOrder.times in
    let s = c.args.self.now.spine in
    let list : IsBatchList times g.T.Ord.cmp s.list = subst (λ (x : SpineState g.row.T.Denot). IsBatchList times g.T.Ord.cmp x.list) c.trace.ensures.value c.batches.ensures.known in
    let batches : c.batches.result.now ≡ s.list.batches = c.batches.ensures.value ∙ ap (λ (x : SpineState g.row.T.Denot). x.list.batches) c.trace.ensures.value in
    IfSome_then c.end_after.result c.end_after.ensures.some
    (λ end e.
    let at : slice_get s.list.batches e.0 ≡ Some e.1 = subst (λ (bs : List (BatchState g.row.T.Denot)). slice_get bs e.0 ≡ Some e.1) batches e.2 in
    subst (λ F. IsTrue (all_beyond times F (upper_of s))) (sym e.5) (ends_further g.met.T.PartialOrder.order g.T.Ord.cmp s.list list e.0 e.1 c.args.acknowledged.now at e.3).1)

pub returns-clause-forward : goal.returns-clause-forward
returns-clause-forward g c =
    let times = g.T.PartialOrder.times in
    let s = c.args.self.now.spine in
    let list : IsBatchList times g.T.Ord.cmp s.list = subst (λ (x : SpineState g.row.T.Denot). IsBatchList times g.T.Ord.cmp x.list) c.trace.ensures.value c.batches.ensures.known in
    let batches : c.batches.result.now ≡ s.list.batches = c.batches.ensures.value ∙ ap (λ (x : SpineState g.row.T.Denot). x.list.batches) c.trace.ensures.value in
    IfSome_then c.end_after.result c.end_after.ensures.some
    (λ end e.
    let at : slice_get s.list.batches e.0 ≡ Some e.1 = subst (λ (bs : List (BatchState g.row.T.Denot)). slice_get bs e.0 ≡ Some e.1) batches e.2 in
    subst (λ F. IsTrue (all_beyond times c.args.acknowledged.now F)) (sym e.5) (ends_further g.met.T.PartialOrder.order g.T.Ord.cmp s.list list e.0 e.1 c.args.acknowledged.now at e.3).2)

pub returns-clause-frontier : goal.returns-clause-frontier
returns-clause-frontier g c =
    let times = g.T.PartialOrder.times in
    let s = c.args.self.now.spine in
    let list : IsBatchList times g.T.Ord.cmp s.list = subst (λ (x : SpineState g.row.T.Denot). IsBatchList times g.T.Ord.cmp x.list) c.trace.ensures.value c.batches.ensures.known in
    let batches : c.batches.result.now ≡ s.list.batches = c.batches.ensures.value ∙ ap (λ (x : SpineState g.row.T.Denot). x.list.batches) c.trace.ensures.value in
    IfSome_then c.end_after.result c.end_after.ensures.some
    (λ end e.
    let at : slice_get s.list.batches e.0 ≡ Some e.1 = subst (λ (bs : List (BatchState g.row.T.Denot)). slice_get bs e.0 ≡ Some e.1) batches e.2 in
    subst (IsFrontier times g.T.Ord.cmp) (sym e.5) (ends_further g.met.T.PartialOrder.order g.T.Ord.cmp s.list list e.0 e.1 c.args.acknowledged.now at e.3).3)

use Rattle.std.proofs.Common.{rules, ◌≡◌, Some, slice_get, set, sym, ap, subst, ◌∙◌}
use Rattle.update.specs.Refusals.{IsMemoryOrOverflow}
use Rattle.desk_laws.specs.Own.{DeskView}
use Rattle.desk.specs.Upkeep.{IsLevel, IsTooLargeOn}
use Rattle.desk.proofs.ResultLemmas.{if_err_from, memory_or}
use Rattle.desk.proofs.SettleLemmas.{followed_settled, leads_settled, merge_large, others_settled, settled_by, there_to_settle}
use Rattle.desk.proofs.desk.Desk.settle_node.Goals as goal

pub settle_at-requires : goal.settle_at-requires
settle_at-requires g c =
    let inside = c.self.inside in
    let d : DeskView g.row.T.Denot = record { gathered = inside.gathered.items; arrangements = inside.arrangements.items; joins = inside.joins.items; reductions = inside.reductions.items } in
    let times = g.T.PartialOrder.times in
    let order = g.met.T.PartialOrder.order in
    let plan = c.args.plan.now in
    let fronts = c.args.fronts.now in
    let level = c.in_ok-level.level in
    let is_level : IsLevel fronts c.args.self.now.reductions c.args.node times plan level = c.in_ok-level.ensures.level in
    let n = c.args.node in
    let at = sym c.node.ensures ∙ c.in-Arrange.is in
    let t = there_to_settle times order plan fronts c.args.self.now n c.requires.within c.in-Arrange.source c.in-Arrange.key at c.requires.may level is_level in
    let own = subst (λ (x : DeskView g.row.T.Denot). slice_get x.arrangements n ≡ Some (Some t.0)) (sym c.self.view_is) t.1 in
    (search rules, (t.0, own, t.2))

pub returns-clause-leads : goal.returns-clause-leads
returns-clause-leads g c =
    let inside = c.self.inside in
    let d : DeskView g.row.T.Denot = record { gathered = inside.gathered.items; arrangements = inside.arrangements.items; joins = inside.joins.items; reductions = inside.reductions.items } in
    let times = g.T.PartialOrder.times in
    let order = g.met.T.PartialOrder.order in
    let plan = c.args.plan.now in
    let fronts = c.args.fronts.now in
    let level = c.in_ok-level.level in
    let is_level : IsLevel fronts c.args.self.now.reductions c.args.node times plan level = c.in_ok-level.ensures.level in
    let n = c.args.node in
    let at = sym c.node.ensures ∙ c.in-Arrange.is in
    let t = there_to_settle times order plan fronts c.args.self.now n c.requires.within c.in-Arrange.source c.in-Arrange.key at c.requires.may level is_level in
    let own = subst (λ (x : DeskView g.row.T.Denot). slice_get x.arrangements n ≡ Some (Some t.0)) (sym c.self.view_is) t.1 in
    let m = c.settle_at.ensures.settled t.0 own in
    let is = (λ i. record d { arrangements = m.1 i }) ∙ ap (λ (z : DeskView g.row.T.Denot). record z { arrangements = set z.arrangements n (Some m.0) }) c.self.view_is in
    let now : DeskView g.row.T.Denot = record d { arrangements = c.settle_at.new.arrangements.items } in
    leads_settled times order plan fronts c.args.self.now n now level is_level t.0 m.0 t.1 is m.2

pub returns-clause-settled : goal.returns-clause-settled
returns-clause-settled g c =
    let inside = c.self.inside in
    let d : DeskView g.row.T.Denot = record { gathered = inside.gathered.items; arrangements = inside.arrangements.items; joins = inside.joins.items; reductions = inside.reductions.items } in
    let times = g.T.PartialOrder.times in
    let order = g.met.T.PartialOrder.order in
    let plan = c.args.plan.now in
    let fronts = c.args.fronts.now in
    let level = c.in_ok-level.level in
    let is_level : IsLevel fronts c.args.self.now.reductions c.args.node times plan level = c.in_ok-level.ensures.level in
    let n = c.args.node in
    let at = sym c.node.ensures ∙ c.in-Arrange.is in
    let t = there_to_settle times order plan fronts c.args.self.now n c.requires.within c.in-Arrange.source c.in-Arrange.key at c.requires.may level is_level in
    let own = subst (λ (x : DeskView g.row.T.Denot). slice_get x.arrangements n ≡ Some (Some t.0)) (sym c.self.view_is) t.1 in
    let m = c.settle_at.ensures.settled t.0 own in
    let is = (λ i. record d { arrangements = m.1 i }) ∙ ap (λ (z : DeskView g.row.T.Denot). record z { arrangements = set z.arrangements n (Some m.0) }) c.self.view_is in
    let now : DeskView g.row.T.Denot = record d { arrangements = c.settle_at.new.arrangements.items } in
    settled_by times order plan fronts c.args.self.now n now level is_level t.0 m.0 t.1 is m.2 c.settle_at.result m.3 m.4

pub returns-clause-others : goal.returns-clause-others
returns-clause-others g c =
    let inside = c.self.inside in
    let d : DeskView g.row.T.Denot = record { gathered = inside.gathered.items; arrangements = inside.arrangements.items; joins = inside.joins.items; reductions = inside.reductions.items } in
    let times = g.T.PartialOrder.times in
    let order = g.met.T.PartialOrder.order in
    let plan = c.args.plan.now in
    let fronts = c.args.fronts.now in
    let level = c.in_ok-level.level in
    let is_level : IsLevel fronts c.args.self.now.reductions c.args.node times plan level = c.in_ok-level.ensures.level in
    let n = c.args.node in
    let at = sym c.node.ensures ∙ c.in-Arrange.is in
    let t = there_to_settle times order plan fronts c.args.self.now n c.requires.within c.in-Arrange.source c.in-Arrange.key at c.requires.may level is_level in
    let own = subst (λ (x : DeskView g.row.T.Denot). slice_get x.arrangements n ≡ Some (Some t.0)) (sym c.self.view_is) t.1 in
    let m = c.settle_at.ensures.settled t.0 own in
    let is = (λ i. record d { arrangements = m.1 i }) ∙ ap (λ (z : DeskView g.row.T.Denot). record z { arrangements = set z.arrangements n (Some m.0) }) c.self.view_is in
    let now : DeskView g.row.T.Denot = record d { arrangements = c.settle_at.new.arrangements.items } in
    others_settled times order plan fronts c.args.self.now n now level is_level t.0 m.0 t.1 is m.2

pub returns-clause-followed : goal.returns-clause-followed
returns-clause-followed g c =
    let inside = c.self.inside in
    let d : DeskView g.row.T.Denot = record { gathered = inside.gathered.items; arrangements = inside.arrangements.items; joins = inside.joins.items; reductions = inside.reductions.items } in
    let times = g.T.PartialOrder.times in
    let order = g.met.T.PartialOrder.order in
    let plan = c.args.plan.now in
    let fronts = c.args.fronts.now in
    let level = c.in_ok-level.level in
    let is_level : IsLevel fronts c.args.self.now.reductions c.args.node times plan level = c.in_ok-level.ensures.level in
    let n = c.args.node in
    let at = sym c.node.ensures ∙ c.in-Arrange.is in
    let t = there_to_settle times order plan fronts c.args.self.now n c.requires.within c.in-Arrange.source c.in-Arrange.key at c.requires.may level is_level in
    let own = subst (λ (x : DeskView g.row.T.Denot). slice_get x.arrangements n ≡ Some (Some t.0)) (sym c.self.view_is) t.1 in
    let m = c.settle_at.ensures.settled t.0 own in
    let is = (λ i. record d { arrangements = m.1 i }) ∙ ap (λ (z : DeskView g.row.T.Denot). record z { arrangements = set z.arrangements n (Some m.0) }) c.self.view_is in
    let now : DeskView g.row.T.Denot = record d { arrangements = c.settle_at.new.arrangements.items } in
    followed_settled times order plan fronts c.args.self.now n now level is_level t.0 m.0 t.1 is m.2 c.requires.may

pub returns-clause-refused : goal.returns-clause-refused
returns-clause-refused g c =
    let inside = c.self.inside in
    let d : DeskView g.row.T.Denot = record { gathered = inside.gathered.items; arrangements = inside.arrangements.items; joins = inside.joins.items; reductions = inside.reductions.items } in
    let times = g.T.PartialOrder.times in
    let order = g.met.T.PartialOrder.order in
    let plan = c.args.plan.now in
    let fronts = c.args.fronts.now in
    let level = c.in_ok-level.level in
    let is_level : IsLevel fronts c.args.self.now.reductions c.args.node times plan level = c.in_ok-level.ensures.level in
    let n = c.args.node in
    let at = sym c.node.ensures ∙ c.in-Arrange.is in
    let t = there_to_settle times order plan fronts c.args.self.now n c.requires.within c.in-Arrange.source c.in-Arrange.key at c.requires.may level is_level in
    let own = subst (λ (x : DeskView g.row.T.Denot). slice_get x.arrangements n ≡ Some (Some t.0)) (sym c.self.view_is) t.1 in
    if_err_from c.settle_at.result _ (IsMemoryOrOverflow (IsTooLargeOn times plan fronts g.T.Ord.cmp c.args.self.now)) (λ e m. memory_or (merge_large times order plan fronts c.args.self.now n c.requires.within c.in-Arrange.source c.in-Arrange.key at c.requires.may g.T.Ord.cmp t.0 t.1) m) (c.settle_at.ensures.refused t.0 own)

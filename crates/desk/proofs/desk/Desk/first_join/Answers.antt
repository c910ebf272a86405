use Rattle.std.proofs.Common.{ap, sym, subst, ◌∙◌}
use Rattle.plan.specs.Nodes.{node_at, key_width}
use Rattle.plan.specs.Widths.{width_of}
use Rattle.operator.specs.Joins.{JoiningView, IsFitting}
use Rattle.desk.specs.Openings.{IsLaidOut}
use Rattle.desk.proofs.ResultLemmas.{if_ok_by, on_ok_always}
use Rattle.desk.proofs.OpenLemmas.{join_fits, left_within, right_within, left_there, right_there, laid_last, own_holds}
use Rattle.desk.proofs.desk.Desk.first_join.Goals as goal

pub add_reader_at-requires : goal.add_reader_at-requires
add_reader_at-requires g c =
    left_there g.T.PartialOrder.times g.met.T.PartialOrder.order c.args.plan.now c.known.ensures.plan c.args.node c.requires.within c.args.left c.args.right c.requires.join
    c.self.inside.gathered.items c.self.inside.arrangements.items c.self.inside.joins.items c.self.inside.reductions.items (subst (λ d. IsLaidOut g.T.PartialOrder.times c.args.plan.now d c.args.node) (sym c.self.view_is) c.requires.before)

pub add_reader_at-requires-2 : goal.add_reader_at-requires-2
add_reader_at-requires-2 g c =
    right_there g.T.PartialOrder.times g.met.T.PartialOrder.order c.args.plan.now c.known.ensures.plan c.args.node c.requires.within c.args.left c.args.right c.requires.join
    c.self.inside.gathered.items c.self.inside.arrangements.items c.self.inside.joins.items c.self.inside.reductions.items (subst (λ d. IsLaidOut g.T.PartialOrder.times c.args.plan.now d c.args.node) (sym c.self.view_is) c.requires.before)
    c.add_reader_at.new.arrangements.items c.in_ok-left_hold.left_hold c.in_ok-left_hold.ensures.added

pub width-left_width-requires : goal.width-left_width-requires
width-left_width-requires g c = left_within c.args.plan.now c.known.ensures.plan c.args.node c.requires.within c.args.left c.args.right c.requires.join

pub width-right_width-requires : goal.width-right_width-requires
width-right_width-requires g c = right_within c.args.plan.now c.known.ensures.plan c.args.node c.requires.within c.args.left c.args.right c.requires.join

pub new-requires : goal.new-requires
new-requires g c =
    let p = c.args.plan.now in
    let key = key_width p (node_at p c.args.node) in
    subst (λ k. IsFitting k c.width-left_width.result c.width-right_width.result) (sym c.key_width-key.ensures)
    (subst (λ w. IsFitting key w c.width-right_width.result) (sym c.width-left_width.ensures.width)
    (subst (λ w. IsFitting key (width_of p c.args.left) w) (sym c.width-right_width.ensures.width)
    (join_fits p c.known.ensures.plan c.args.node c.requires.within c.args.left c.args.right c.requires.join)))

pub returns-clause-laid_out : goal.returns-clause-laid_out
returns-clause-laid_out g c =
    on_ok_always c.new.result
    (laid_last g.T.PartialOrder.times g.met.T.PartialOrder.order c.args.plan.now c.known.ensures.plan c.args.node c.requires.within c.args.left c.args.right c.requires.join
    c.self.inside.gathered.items c.self.inside.arrangements.items c.self.inside.joins.items c.self.inside.reductions.items (subst (λ d. IsLaidOut g.T.PartialOrder.times c.args.plan.now d c.args.node) (sym c.self.view_is) c.requires.before)
    c.add_reader_at.new.arrangements.items c.in_ok-left_hold.left_hold c.in_ok-left_hold.ensures.added c.add_reader_at-2.new.arrangements.items c.in_ok-right_hold.right_hold c.in_ok-right_hold.ensures.added)

pub returns-clause-made : goal.returns-clause-made
returns-clause-made g c =
    if_ok_by c.new.result (λ j made. (
      record {
        key = ap (λ (z : JoiningView _). z.state.key) made ∙ c.key_width-key.ensures;
        left_width = ap (λ (z : JoiningView _). z.left_width) made ∙ c.width-left_width.ensures.width;
        right_width = ap (λ (z : JoiningView _). z.right_width) made ∙ c.width-right_width.ensures.width;
        left = ap (λ (z : JoiningView _). z.state.left) made;
        right = ap (λ (z : JoiningView _). z.state.right) made;
      },
      own_holds g.T.PartialOrder.times g.met.T.PartialOrder.order c.args.plan.now c.known.ensures.plan c.args.node c.requires.within c.args.left c.args.right c.requires.join
          c.self.inside.gathered.items c.self.inside.arrangements.items c.self.inside.joins.items c.self.inside.reductions.items (subst (λ d. IsLaidOut g.T.PartialOrder.times c.args.plan.now d c.args.node) (sym c.self.view_is) c.requires.before)
          c.add_reader_at.new.arrangements.items c.in_ok-left_hold.left_hold c.in_ok-left_hold.ensures.added c.add_reader_at-2.new.arrangements.items c.in_ok-right_hold.right_hold c.in_ok-right_hold.ensures.added
          j (ap (λ (z : JoiningView _). z.left_hold) made) (ap (λ (z : JoiningView _). z.right_hold) made),
    )) c.new.ensures.made

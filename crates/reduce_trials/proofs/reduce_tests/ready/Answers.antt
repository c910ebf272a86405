use Rattle.std.proofs.Common.{sym, ◌∙◌}
use Rattle.lattice.proofs.FrontierLemmas.{beyond_later}
use Rattle.lattice.specs.Naturals.{nat_order}
use Rattle.lattice.specs.Order.{PartialOrderLaws}
use Rattle.lattice.specs.Pairs.{pair_order}
use Rattle.reduce_trials.proofs.reduce_tests.ready.Goals as goal

-- what is held is beyond the since, so each pending time is
pub ready-requires : goal.ready-requires
ready-requires c =
    record {
      held = λ key t m p.
          let order = pair_order nat_order nat_order in
          let later = sym (rw (c.since.ensures.value, c.elements.ensures.value) at c.all_beyond.ensures) ∙ c.if-not-all_beyond.false in
          beyond_later order c.args.trace.now.start c.in_ok-held.held t later ((c.in_ok-held.ensures.beyond t).1 (key, t, m, order.reflexive t));
    }

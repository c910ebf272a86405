use Rattle.std.proofs.Common.{◌∙◌, ap}
use Rattle.reduce.specs.Visits.{all_given, all_left}
use Rattle.reduce.proofs.CommitLemmas.{given_length, changed_both}
use Rattle.reduce.proofs.visits.change_all.Goals as goal

pub give_all-requires-clause-within : goal.give_all-requires-clause-within
give_all-requires-clause-within g c = rw c.as_slice.ensures.value c.requires.within

pub leave_all-requires : goal.leave_all-requires
leave_all-requires g c =
    rw (c.in_ok-give_all.ensures.given, c.as_slice.ensures.value, given_length c.args.changes.items c.args.out.now c.args.histories.now.items) c.requires.within

pub returns-clause-changed : goal.returns-clause-changed
returns-clause-changed g c =
    let hs = c.args.histories.now.items in
    c.leave_all.ensures
    ∙ (ap (all_left c.args.changes.items) (c.in_ok-give_all.ensures.given ∙ ap (λ cs. all_given cs c.args.out.now hs) c.as_slice.ensures.value)
    ∙ changed_both c.args.changes.items c.args.out.now hs c.requires.once)
